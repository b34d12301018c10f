use Rattle.std.proofs.Common.{true, replicate}
use Rattle.pw_text.specs.Puts.{PutsText}
use Rattle.pw_show.proofs.json_paths.put_prefix.Given as goal

abbrev pub invariant-loop-step : goal.invariant-loop-step
invariant-loop-step g l = PutsText g.K.Sink l.initial.sink l.sink l.initial.page l.page (replicate l._step 94) true
