use Rattle.std.proofs.Common.{ap, sym, subst, List}
use Rattle.pw_model.specs.Records.{record_count}
use Rattle.pw_machine.specs.Steps.{Kind}
use Rattle.pw_turns.specs.Went.{OpenSteps, own_in}
use Rattle.pw_turns.proofs.coordinator.Coordinator.first_seat.Goals as goal

pub returns-clause-steps : goal.returns-clause-steps
returns-clause-steps g c =
    subst (λ (own : List Kind). OpenSteps (record_count c.args.self.now.plan) own) (sym (ap own_in c.into_badge.ensures.2))
    (c.open_records.new.raw.me.0.own, c.open_records.ensures.own, (_, c.open_journal.ensures.own))
