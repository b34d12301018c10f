use Rattle.std.proofs.Common.{sym, ◌∙◌}
use Rattle.pw_core.proofs.Leaving.{is_none_by}
use Rattle.pw_core.proofs.state.State.apply.Goals as goal

pub note-requires-clause-accepted : goal.note-requires-clause-accepted
note-requires-clause-accepted c =
    rw (← c.self.view_is) (sym c.refusal.ensures ∙ is_none_by c.refusal.result c.is_none.result c.is_none.ensures c.if-is_none.true)
