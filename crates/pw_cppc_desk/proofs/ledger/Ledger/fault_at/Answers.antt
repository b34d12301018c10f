use Rattle.std.proofs.Common.{ap, refl, ◌∙◌}
use Rattle.std.specs.Prelude.{is_some}
use Rattle.pw_cppc.specs.History.{fault_at}
use Rattle.pw_cppc_desk.specs.Ledgered.{Ledgered}
use Rattle.pw_cppc_desk.proofs.Entering.{running, stopped}
use Rattle.pw_cppc_desk.proofs.ledger.Ledger.fault_at.Goals as goal

pub returns-then-self-clause-none : goal.returns-then-self-clause-none
returns-then-self-clause-none g c =
    let same = c.self.invariant.4 ∙ ap (λ (w : Ledgered g.row.R.Denot). is_some (fault_at w.entries)) c.self.view_is in
    (λ e. cc, λ none. absurd (stopped c.args.self.now.entries c.self.inside.stopped same c.if-self.true none))

pub returns-else-self-clause-none : goal.returns-else-self-clause-none
returns-else-self-clause-none g c =
    let same = c.self.invariant.4 ∙ ap (λ (w : Ledgered g.row.R.Denot). is_some (fault_at w.entries)) c.self.view_is in
    (λ e. running c.args.self.now.entries c.self.inside.stopped same c.if-self.false, λ none. refl)
