use Rattle.std.proofs.lemmas.Result.{IfErr-weaker, IfOk-weaker}
use Rattle.pw_rule.specs.Rule.{given_of}
use Rattle.pw_turns.specs.Told.{Told}
use Rattle.pw_turns.specs.TwoSteps.{IsBegun}
use Rattle.pw_turns.specs.Views.{view_in}
use Rattle.pw_turns.proofs.Again.{since_none}
use Rattle.pw_turns.proofs.coordinator.Coordinator.try_begin.Goals as goal

pub returns-clause-begun : goal.returns-clause-begun
returns-clause-begun g c =
    let shared = c.args.self.now.table.shared in
    IfOk-weaker c.start_with.result _ _ (λ b s. since_none (view_in c.args.seat.badge.views) (λ u. IsBegun g.R.Registers shared.key shared.table_id u b) s) c.start_with.ensures.begun

pub returns-clause-told : goal.returns-clause-told
returns-clause-told g c =
    let given = given_of g.R.Registers c.args.self.now.table.shared.key in
    IfErr-weaker c.start_with.result _ _
    (λ e s. since_none (view_in c.args.seat.badge.views) (λ u. Told given u c.args.request e.told (view_in e.seat.badge.views)) s) c.start_with.ensures.told
