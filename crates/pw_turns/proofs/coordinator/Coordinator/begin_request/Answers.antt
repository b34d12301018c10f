use Rattle.std.proofs.lemmas.Result.{IfErr-weaker}
use Rattle.pw_rule.specs.Rule.{given_of}
use Rattle.pw_turns.specs.Views.{view_in}
use Rattle.pw_turns.proofs.Finishing.{finishes}
use Rattle.pw_turns.proofs.coordinator.Coordinator.begin_request.Goals as goal

pub returns-clause-told : goal.returns-clause-told
returns-clause-told g c =
    let given = given_of g.R.Registers c.args.self.now.table.shared.key in
    IfErr-weaker c.start_with.result _ _
    (λ e s. finishes given (view_in c.args.seat.badge.views) c.args.request e.told (view_in e.seat.badge.views) s) c.start_with.ensures.told
