use Rattle.std.proofs.Common.{true, take}
use Rattle.std.specs.List.{flat_map}
use Rattle.pw_text.specs.Puts.{PutsText}
use Rattle.pw_show.proofs.Escapes.{dotted}
use Rattle.pw_show.proofs.json_paths.put_behind_dots.Given as goal

abbrev pub invariant-loop-seg : goal.invariant-loop-seg
invariant-loop-seg g l = PutsText g.K.Sink l.initial.sink l.sink l.initial.page l.page (flat_map dotted (take l.seg-index l.segs)) true
