use Rattle.std.proofs.Common.{ap, codes, refl}
use Rattle.pw_regs.specs.Seen.{registers_seen}
use Rattle.pw_load.proofs.Outcomes.{ended_as, ended_saying}
use Rattle.pw_cppc_drive.specs.Reading.{requests_of}
use Rattle.pw_cppc_drive.proofs.Serial.{serial-lawful}
use Rattle.pw_runs.specs.CppcRuns.{IsSerialRun}
use Rattle.pw_runs.specs.inner.CppcParts.RunsSerially.{ran, undone}
use Rattle.pw_runs.proofs.CppcHistories.{entries_state}
use Rattle.pw_runs.proofs.cppc_running.run.Goals as goal

pub print_driven-requires-clause-entries : goal.print_driven-requires-clause-entries
print_driven-requires-clause-entries g c =
    let driven = c.in-Ok.driven in
    let asked = requests_of c.args.script.now.lines in
    rw c.in-Ok.ensures.plan (entries_state c.args.plan asked driven.opening driven.entries
    (serial-lawful c.args.plan asked driven.opening driven.entries c.in-Ok.ensures.lawful))

pub print_driven-requires-clause-known : goal.print_driven-requires-clause-known
print_driven-requires-clause-known g c = rw (c.in-Ok.ensures.replies, c.in-Ok.ensures.plan) refl

pub returns-in-Err-clause-ran : goal.returns-in-Err-clause-ran
returns-in-Err-clause-ran g c =
    ended_saying g.K.Sink c.args.out.now c.args.err.now c.without_memory.new.err (codes "no memory\n") c.without_memory.result
    (rw c.without_memory.ensures.status (undone (ap (registers_seen g.R.Registers) c.in-Err.ensures.given_back))) c.without_memory.ensures.line

pub returns-in-Ok-clause-ran : goal.returns-in-Ok-clause-ran
returns-in-Ok-clause-ran g c =
    let printed = rw c.in-Ok.ensures.plan at c.print_driven.ensures.printed in
    let driven = c.in-Ok.driven in
    let before = registers_seen g.R.Registers c.args.regs in
    let run : IsSerialRun c.args.plan c.args.script.now.lines driven.opening driven.entries before (registers_seen g.R.Registers driven.regs) =
    record { lawful = c.in-Ok.ensures.lawful; seats = c.in-Ok.ensures.seats; operates = c.in-Ok.ensures.operates } in
    rw c.print_driven.ensures.regs (ended_as (λ written text prints. ran run prints) printed)
