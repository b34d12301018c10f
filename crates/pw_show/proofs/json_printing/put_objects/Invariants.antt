use Rattle.std.proofs.Common.{◌≡◌, true, take}
use Rattle.pw_text.specs.Puts.{PutsText}
use Rattle.pw_show.specs.Json.{entry_text}
use Rattle.pw_show.proofs.Joining.{joined}
use Rattle.pw_show.proofs.json_printing.put_objects.Given as goal

abbrev pub invariant-loop-index : goal.invariant-loop-index
invariant-loop-index g l = (l.path.capacity ≡ l.initial.path.capacity)
    × PutsText g.K.Sink l.initial.sink l.sink l.initial.page l.page (joined entry_text (take l.index l.space)) true
