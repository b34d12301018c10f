use Rattle.std.proofs.Common.{codes}
use Rattle.pw_load.specs.Seen.{outputs_seen}
use Rattle.pw_regs.specs.Seen.{registers_seen}
use Rattle.pw_load.proofs.Outcomes.{ended_as, ended_saying}
use Rattle.pw_cppc_drive.specs.Reading.{requests_of}
use Rattle.pw_runs.specs.CppcWorkers.{IsRunBy}
use Rattle.pw_runs.specs.inner.CppcWorks.Works.{worked}
use Rattle.pw_runs.proofs.CppcHistories.{entries_state}
use Rattle.pw_runs.proofs.CppcSteps.{works_none}
use Rattle.pw_runs.proofs.cppc_working.work.Goals as goal

pub print_driven-requires-clause-entries : goal.print_driven-requires-clause-entries
print_driven-requires-clause-entries g c =
    let driven = c.in-Ok.driven in
    rw c.in-Ok.ensures.plan (entries_state c.args.plan (requests_of c.args.script.now.lines) driven.opening driven.entries c.in-Ok.ensures.lawful)

pub print_driven-requires-clause-known : goal.print_driven-requires-clause-known
print_driven-requires-clause-known g c = rw c.in-Ok.ensures.unknown tt

pub returns-in-Err-clause-worked : goal.returns-in-Err-clause-worked
returns-in-Err-clause-worked g c =
    let before = outputs_seen g.K.Sink c.args.out.now c.args.err.now in
    let after = outputs_seen g.K.Sink c.args.out.now c.without_memory.new.err in
    ended_saying g.K.Sink c.args.out.now c.args.err.now c.without_memory.new.err (codes "no memory\n") c.without_memory.result
    (rw c.without_memory.ensures.status
    (works_none g.R.Registers c.args.plan c.args.script.now.lines before after c.args.regs c.in-Err.regs c.in-Err.ensures.given_back)) c.without_memory.ensures.line

pub returns-in-Ok-clause-worked : goal.returns-in-Ok-clause-worked
returns-in-Ok-clause-worked g c =
    let printed = rw c.in-Ok.ensures.plan at c.print_driven.ensures.printed in
    let driven = c.in-Ok.driven in
    let before = registers_seen g.R.Registers c.args.regs in
    let run : IsRunBy c.args.plan c.args.script.now.lines driven.opening driven.entries before (registers_seen g.R.Registers driven.regs) =
    record { lawful = c.in-Ok.ensures.lawful; seats = c.in-Ok.ensures.seats; operates = c.in-Ok.ensures.operates } in
    rw c.print_driven.ensures.regs (ended_as (λ written text prints. worked run prints) printed)
