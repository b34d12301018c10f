use Rattle.std.proofs.Common.{true, take}
use Rattle.std.specs.List.{flat_map}
use Rattle.pw_text.specs.Puts.{PutsText}
use Rattle.pw_show.specs.Values.{escaped}
use Rattle.pw_show.proofs.strings.put_escaped.Given as goal

abbrev pub invariant-loop-byte : goal.invariant-loop-byte
invariant-loop-byte g l = PutsText g.K.Sink l.initial.sink l.sink l.initial.page l.page (flat_map escaped (take l.byte-index l.text)) true
