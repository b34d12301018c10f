use Rattle.std.proofs.Common.{refl, sym, ◌∙◌}
use Rattle.pw_embed.specs.Seats.{OpensSeat}
use Rattle.pw_handles.specs.declared.kept.Kept.TheVariants.{Seat}
use Rattle.pw_handles.proofs.Handling.{kept_open, kept_same, opens_made, opens_none, opens_open}
use Rattle.pw_handles.proofs.handle.Handle.open_seat.Goals as goal

pub returns-then-is_open-clause-kept : goal.returns-then-is_open-clause-kept
returns-then-is_open-clause-kept c = kept_same _ _

pub returns-then-is_open-clause-opened : goal.returns-then-is_open-clause-opened
returns-then-is_open-clause-opened c = opens_open Seat (λ m r. OpensSeat m c.args.entries r) _ _ _ _ (sym c.is_open.ensures ∙ c.if-is_open.true)

pub returns-then-not-is_open-clause-kept : goal.returns-then-not-is_open-clause-kept
returns-then-not-is_open-clause-kept c = kept_same _ _

pub returns-then-not-is_open-clause-opened : goal.returns-then-not-is_open-clause-opened
returns-then-not-is_open-clause-opened c = opens_none Seat (λ m r. OpensSeat m c.args.entries r) _ _ _ _ (sym c.is_open.ensures ∙ c.if-is_open.false) (sym c.is_open-2.ensures ∙ c.if-not-is_open.true)

pub returns-in-Ok-clause-kept : goal.returns-in-Ok-clause-kept
returns-in-Ok-clause-kept c = kept_open _ _ _ _ _ (sym c.is_open-2.ensures ∙ c.if-not-is_open.false) (sym c.kept.ensures.value) (sym c.is_open-2.ensures ∙ c.if-not-is_open.false) refl

pub returns-in-Err-clause-kept : goal.returns-in-Err-clause-kept
returns-in-Err-clause-kept c = kept_open _ _ _ _ _ (sym c.is_open-2.ensures ∙ c.if-not-is_open.false) (sym c.kept.ensures.value) (sym c.is_open-2.ensures ∙ c.if-not-is_open.false) refl

pub returns-in-Ok-clause-opened : goal.returns-in-Ok-clause-opened
returns-in-Ok-clause-opened c =
    opens_made Seat (λ m r. OpensSeat m c.args.entries r) _ _ _ _ _ _ _ _ _ (sym c.is_open.ensures ∙ c.if-is_open.false) (sym c.is_open-2.ensures ∙ c.if-not-is_open.false)
    (sym c.kept.ensures.value) (rw c.in-Ok.is at c.first.ensures) c.fill.ensures

pub returns-in-Err-clause-opened : goal.returns-in-Err-clause-opened
returns-in-Err-clause-opened c =
    opens_made Seat (λ m r. OpensSeat m c.args.entries r) _ _ _ _ _ _ _ _ _ (sym c.is_open.ensures ∙ c.if-is_open.false) (sym c.is_open-2.ensures ∙ c.if-not-is_open.false)
    (sym c.kept.ensures.value) (rw c.in-Err.is at c.first.ensures) (sym c.is_open.ensures ∙ c.if-is_open.false, refl)
