-- The seats of a case whose requests are in two steps.
use Rattle.std.specs.Prelude.{◌≤◌, vec_capacity}
use Rattle.pw_model.specs.Records.{record_count}
use Rattle.pw_machine.specs.declared.view.View.{View}
use Rattle.pw_journal.specs.Reported.{ReportedHeld}
use Rattle.pw_journal.specs.contracts.reported.ReportedRegistersRegisters.TheImpl.{ghosts}
use Rattle.pw_turns.specs.Owning.{Owns}
use Rattle.pw_turns.specs.TwoSteps.{IsBegun}
use Rattle.pw_turns.specs.declared.coordinator.Coordinator.{Coordinator}
use Rattle.pw_turns.specs.declared.keeping.Counted.{Counted}
use Rattle.pw_turns.specs.declared.keeping.Keeps.{Ghosts as Keeps}
use Rattle.pw_seats.specs.declared.steps.Stepper.{Stepper}
use Rattle.pw_seats.specs.declared.steps.Stepper.TheVariants.{Between, Ready}

-- it counts the entries of its history
abbrev pub counts_all : Keeps Counted
counts_all = record { most = 18446744073709551615 }

-- the seat is the coordinator's, with room for the records of any request; or its request has begun there
abbrev pub IsStepper : Coordinator ReportedHeld Counted counts_all → Stepper → Type 0
IsStepper c (Ready seat room) = Owns c.table.shared.table_id seat × (record_count c.plan ≤ vec_capacity room.records)
IsStepper c (Between begun) = (v : View) × IsBegun ghosts c.table.shared.key c.table.shared.table_id v begun

abbrev pub AreSteppers : Coordinator ReportedHeld Counted counts_all → Stepper × Stepper → Type 0
AreSteppers c pair = IsStepper c pair.0 × IsStepper c pair.1
