use Rattle.std.proofs.Common.{[], ◌∷◌, arith}
use Rattle.std.proofs.lemmas.List.Elements.{All-cons}
use Rattle.aml_block.specs.Written.{IsWritableBlock}
use Rattle.pw_runs.proofs.machine.plan_of.Goals as goal

pub plan_over-requires-clause-countable : goal.plan_over-requires-clause-countable
plan_over-requires-clause-countable c =
    let block = c.in_ok-block_of.field-0 in
    rw c.in_ok-space.ensures (c.blocks_are_countable.ensures (block ∷ []) (All-cons IsWritableBlock block [] c.in_ok-block_of.ensures.writable (λ i d lt. absurd (omega (arith, lt)))))
