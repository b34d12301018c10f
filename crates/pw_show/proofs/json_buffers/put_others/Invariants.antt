use Rattle.std.proofs.Common.{◌≡◌, ℕ, true, List, ◌++◌, length}
use Rattle.std.specs.List.{flat_map}
use Rattle.pw_text.specs.Puts.{PutsText}
use Rattle.pw_show.specs.inner.Pieces.{comma_number}
use Rattle.pw_show.proofs.json_buffers.put_others.Given as goal

-- some bytes are put, and the others are left
abbrev pub invariant-loop-rest : goal.invariant-loop-rest
invariant-loop-rest g l =
    (done : List ℕ) × (l.bytes ≡ done ++ l.rest) × PutsText g.K.Sink l.initial.sink l.sink l.initial.page l.page (flat_map comma_number done) true

abbrev pub decreases-loop-rest : goal.decreases-loop-rest
decreases-loop-rest g l = length l.rest
