use Rattle.std.proofs.Common.{sym, ap, ◌∙◌}
use Rattle.pw_handles.specs.Handled.{has_begun}
use Rattle.pw_handles.proofs.Handling.{closes_begun, closes_closed, closes_rest}
use Rattle.pw_handles.proofs.handle.Handle.close.Goals as goal

pub returns-in_default : goal.returns-in_default
returns-in_default c = closes_closed _ _ _ _ _ c.in_default.ensures.taken c.take.ensures.closed

pub returns-then-has_begun : goal.returns-then-has_begun
returns-then-has_begun c =
    closes_begun _ _ _ _ _ _ c.in-Some.ensures.taken.0
    (ap has_begun (c.in-Some.ensures.taken.1 ∙ sym c.deref.ensures) ∙ sym c.has_begun.ensures ∙ c.if-has_begun.true)
    c.in-Some.ensures.taken.1 c.put.ensures.0 c.put.ensures.1

pub returns : goal.returns
returns c =
    closes_rest _ _ _ _ _ c.in-Some.ensures.taken.0
    (ap has_begun (c.in-Some.ensures.taken.1 ∙ sym c.deref.ensures) ∙ sym c.has_begun.ensures ∙ c.if-has_begun.false)
    c.take.ensures.closed
