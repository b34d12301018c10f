use Rattle.std.proofs.Common.{[], inl, inr, refl, ⊎_elim}
use Rattle.pw_embed.specs.Blocks.{Refused}
use Rattle.pw_embed.specs.Faults.{no_fault}
use Rattle.pw_embed.proofs.endless.open_on.Goals as goal

pub returns-in-Ok-open-clause-opened : goal.returns-in-Ok-open-clause-opened
returns-in-Ok-open-clause-opened c =
    (c.in-Ok-open.resting, refl, (c.in-Ok.plan, c.in-Ok._notes, c.in-Ok.ensures.made, c.in-Ok-open.ensures.opened))

pub returns-in-Err-open-clause-refused : goal.returns-in-Err-open-clause-refused
unfolding Refused
returns-in-Err-open-clause-refused c =
    ⊎_elim (λ e. rw e (inr (no_fault, no_fault, [], [], (refl, refl)))) inl c.in-Err-open.ensures.refused
