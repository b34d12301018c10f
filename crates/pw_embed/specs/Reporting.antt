-- A coordinator without end, over registers that the caller operates.
use Rattle.std.specs.Prelude.{[]}
use Rattle.pw_machine.specs.declared.view.View.{View}
use Rattle.pw_regs.specs.declared.registers.Registers.{Ghosts as Registers}
use Rattle.pw_journal.specs.Reported.{ReportedHeld, reported_faults, reported_log, reported_room, reported_tells}
use Rattle.pw_turns.specs.declared.coordinator.Coordinator.{Coordinator}
use Rattle.pw_turns.specs.declared.keeping.Keeps.{Ghosts as Keeps}
use Rattle.pw_turns.specs.declared.keeping.Counted.{Counted}
use Rattle.pw_turns.specs.declared.two_steps.Begun.{Begun}
use Rattle.pw_turns.specs.TwoSteps.{IsBegun}

-- it counts the entries of its history
abbrev pub counts_all : Keeps Counted
counts_all = record { most = 18446744073709551615 }

-- registers of which the caller tells
abbrev pub by_word : Registers ReportedHeld
by_word = record { told = reported_tells; log = reported_log; room = reported_room; faults = reported_faults }

-- nothing was told yet
abbrev pub nothing_done : ReportedHeld
nothing_done = record { log = []; faults = 0 }

abbrev pub ByWord : Type 0
ByWord = Coordinator ReportedHeld Counted counts_all

-- the request began at a seat of this coordinator
abbrev pub BeganAt : ByWord → Begun ReportedHeld → Type 0
BeganAt c b = (v : View) × IsBegun by_word c.table.shared.key c.table.shared.table_id v b
