use Rattle.std.proofs.Common.{refl, sym, ◌∙◌}
use Rattle.pw_handles.specs.Handled.{AtCppc}
use Rattle.pw_handles.proofs.Handling.{handled}
use Rattle.pw_handles.proofs.handle.Handle.ask_cppc.Goals as goal

pub returns-in-Cppc : goal.returns-in-Cppc
unfolding AtCppc
returns-in-Cppc c =
    let full = sym c.is_open.ensures ∙ c.if-not-is_open.false in
    handled _ _ _ _ _ _ _ _ _ full (sym c.kept.ensures.value) full refl (rw c.in-Cppc.is (c.ask.new.self, refl, c.ask.ensures))
