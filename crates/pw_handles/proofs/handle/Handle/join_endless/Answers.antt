use Rattle.std.proofs.Common.{refl, sym, ◌∙◌}
use Rattle.pw_handles.specs.Endless.{JoinsKept}
use Rattle.pw_handles.proofs.Handling.{joins_first_closed, joins_made, joins_second_closed}
use Rattle.pw_handles.proofs.handle.Handle.join_endless.Goals as goal

pub join-status-requires : goal.join-status-requires
join-status-requires c =
    rw (c.kept.ensures.value, c.deref_mut.ensures.value, sym c.in-Some.ensures.taken.1) (c.requires (sym c.is_open.ensures ∙ c.if-not-is_open.false) c.in-Some.ensures.taken.0)

pub returns-then-not-is_open : goal.returns-then-not-is_open
returns-then-not-is_open c =
    let shut = sym c.is_open.ensures ∙ c.if-not-is_open.true in
    joins_first_closed JoinsKept _ _ _ _ _ _ shut shut

pub returns-in_default : goal.returns-in_default
returns-in_default c =
    let full = sym c.is_open.ensures ∙ c.if-not-is_open.false in
    joins_second_closed JoinsKept _ _ _ _ _ _ _ _ _ full refl full refl c.in_default.ensures.taken c.take.ensures.closed

pub returns : goal.returns
returns c =
    let full = sym c.is_open.ensures ∙ c.if-not-is_open.false in
    joins_made JoinsKept _ _ _ _ _ _ _ _ _ _ _ _ _ full (sym c.kept.ensures.value)
    full refl c.in-Some.ensures.taken.0 (c.in-Some.ensures.taken.1 ∙ sym c.deref_mut.ensures.value)
    c.join-status.ensures c.put_left.ensures
