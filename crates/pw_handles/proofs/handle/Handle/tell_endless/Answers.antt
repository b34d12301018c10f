use Rattle.std.proofs.Common.{refl, sym, ◌∙◌}
use Rattle.pw_handles.specs.Endless.{AtEndless}
use Rattle.pw_handles.proofs.Handling.{handled}
use Rattle.pw_handles.proofs.handle.Handle.tell_endless.Goals as goal

pub returns-in-Endless : goal.returns-in-Endless
unfolding AtEndless
returns-in-Endless c =
    let full = sym c.is_open.ensures ∙ c.if-not-is_open.false in
    handled _ _ _ _ _ _ _ _ _ full (sym c.kept.ensures.value) full refl (rw c.in-Endless.is (c.in-Endless.seat, refl, (refl, c.tell.ensures)))
