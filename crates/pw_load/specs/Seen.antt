-- What a run sees of the outside at one moment.
use Rattle.std.specs.Prelude.{ℕ, List, Contains}
use Rattle.pw_base.specs.declared.files.Files.{Ghosts as Files}
use Rattle.pw_base.specs.declared.sink.Sink.{Ghosts as Sink}
use Rattle.pw_base.specs.Outside.{Rose}
use Rattle.pw_base.specs.Seen.{FilesSeen, SinkSeen, files_seen, sink_seen}
use Rattle.pw_regs.specs.declared.registers.Registers.{Ghosts as Registers}
use Rattle.pw_regs.specs.Seen.{RegistersSeen, registers_seen}

-- its output and its error output
pub record Outputs : Type 0 where
  pub out : SinkSeen
  pub err : SinkSeen

-- the files that it reads, its two outputs, and the registers that it operates
pub record Seen : Type 0 where
  pub files : FilesSeen
  pub outputs : Outputs
  pub regs : RegistersSeen

-- what is seen of two sinks of some type
abbrev pub outputs_seen : {S : Type 0} → Sink S → S → S → Outputs
outputs_seen K out err = record { out = sink_seen K out; err = sink_seen K err }

-- what is seen of files of some type, of two sinks of another, and of registers
abbrev pub all_seen : {S T U : Type 0} → Files S → Sink T → Registers U → S → T → T → U → Seen
all_seen F K R files out err regs = record {
  files = files_seen F files;
  outputs = outputs_seen K out err;
  regs = registers_seen R regs;
}

-- no read of a file of these names failed
abbrev pub NoneFailed : List (List ℕ) → FilesSeen → FilesSeen → Type 0
NoneFailed names before after = (name : List ℕ) → Contains names name → Rose (before.faults name) (after.faults name) → ⊥
