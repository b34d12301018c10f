use Rattle.std.proofs.Common.{refl, sym, ◌∙◌}
use Rattle.pw_handles.specs.declared.kept.Kept.TheVariants.{Seat}
use Rattle.pw_handles.specs.Seated.{OfSplit}
use Rattle.pw_handles.proofs.Handling.{splits_closed, splits_made, splits_open, splits_unmade}
use Rattle.pw_handles.proofs.handle.Handle.split_seat.Goals as goal

pub returns-then-is_open : goal.returns-then-is_open
returns-then-is_open c = splits_open Seat (λ k l r. OfSplit k c.args.parts l r) _ _ _ _ (sym c.is_open.ensures ∙ c.if-is_open.true)

pub returns-then-not-is_open : goal.returns-then-not-is_open
returns-then-not-is_open c =
    let shut = sym c.is_open-2.ensures ∙ c.if-not-is_open.true in
    splits_closed Seat (λ k l r. OfSplit k c.args.parts l r) _ _ _ _ _ _ shut shut (sym c.is_open.ensures ∙ c.if-is_open.false)

pub returns-in_default : goal.returns-in_default
returns-in_default c =
    let full = sym c.is_open-2.ensures ∙ c.if-not-is_open.false in
    splits_unmade Seat (λ k l r. OfSplit k c.args.parts l r) _ _ _ _ _ _ _ full refl full refl (sym c.is_open.ensures ∙ c.if-is_open.false)

pub returns : goal.returns
returns c =
    let full = sym c.is_open-2.ensures ∙ c.if-not-is_open.false in
    splits_made Seat (λ k l r. OfSplit k c.args.parts l r) _ _ _ _ _ _ _ _ _ _ _ _ full (sym c.kept.ensures.value)
    full refl (sym c.is_open.ensures ∙ c.if-is_open.false) c.split-made.ensures c.fill_with.ensures
