-- How a command ends: its status, what the output grew by, and the line on the error output.
use Rattle.std.specs.Prelude.{◌≡◌, ℕ, Bool, true, List, [], codes, take, Result, Ok, Err}
use Rattle.pw_base.specs.Outside.{Rose}
use Rattle.pw_base.specs.Seen.{SinkSeen, Grew, GrewByLine}
use Rattle.pw_text.specs.declared.fault.PrintFault.{PrintFault}
use Rattle.pw_text.specs.declared.fault.PrintFault.TheVariants as faults
use Rattle.pw_load.specs.Seen.{Outputs}

-- # What a command is about

-- what a command does with what it was given
pub record Work : Type 1 where
  -- this is the text that it prints
  pub text : List ℕ → Type 0
  -- it refuses what it was given, with this status and this line
  pub refusal : ℕ → List ℕ → Type 0
  -- a file that it needs couldn't be read
  pub read_fault : Type 0
  -- its text is made in pieces while it is printed, so that memory may run out in its midst
  pub in_pieces : Bool

-- # The ways in which it ends

-- It ended before its output: what it was given is refused, a file couldn't be read, or memory ran out.
pub data Stops (work : Work) : ℕ → List ℕ → Type 0 where
  refused : {status : ℕ} {line : List ℕ} → work.refusal status line → Stops work status line
  read_fault : work.read_fault → Stops work 3 (codes "read fault\n")
  without_memory : Stops work 6 (codes "no memory\n")

-- It printed its text, whole, or a beginning of it: the output failed, or memory ran out.
pub data Prints (work : Work) (text : List ℕ) (before after : Outputs) : ℕ → List ℕ → List ℕ → Type 0 where
  whole : Prints work text before after 0 text []
  write_fault : (n : ℕ) → Rose before.out.faults after.out.faults → Prints work text before after 4 (take n text) (codes "write fault\n")
  cut : (n : ℕ) → work.in_pieces ≡ true → Prints work text before after 6 (take n text) (codes "no memory\n")

-- one of the two
pub data Does (work : Work) (before after : Outputs) : ℕ → List ℕ → List ℕ → Type 0 where
  stopped : {status : ℕ} {line : List ℕ} → Stops work status line → Does work before after status [] line
  printed : {status : ℕ} {text written line : List ℕ} → work.text text → Prints work text before after status written line
      → Does work before after status written line

-- # What stands on the outputs

-- It ended with this status in one of these ways, and the two outputs grew by just what that way says.
pub record Ended (ways : ℕ → List ℕ → List ℕ → Type 0) (before after : Outputs) (status : ℕ) : Type 0 where
  pub text : List ℕ
  pub line : List ℕ
  pub way : ways status text line
  pub on_out : Grew before.out after.out text
  pub on_err : GrewByLine before.err after.err line

-- a command did its work
abbrev pub Did : Work → Outputs → Outputs → ℕ → Type 0
Did work before after status = Ended (Does work before after) before after status

-- It ended with this status, this text and this line.
pub record EndedSo (before after : Outputs) (status : ℕ) (so : ℕ) (text line : List ℕ) : Type 0 where
  pub is : status ≡ so
  pub on_out : Grew before.out after.out text
  pub on_err : GrewByLine before.err after.err line

-- It ended well: it printed one of the work's texts, whole, and said nothing.
pub record EndedWell (work : Work) (before after : Outputs) (status : ℕ) : Type 0 where
  pub text : List ℕ
  pub made : work.text text
  pub so : EndedSo before after status 0 text []

-- A command stopped with this status, before it printed anything, and the error output grew by its line.
pub record Stopped (work : Work) (before after : SinkSeen) (status : ℕ) : Type 0 where
  pub line : List ℕ
  pub way : Stops work status line
  pub said : GrewByLine before after line

-- # Texts that are printed

-- the status once a text was to be printed
abbrev pub print_status : Result (Unit {0}) PrintFault → ℕ
print_status (Ok x) = 0
print_status (Err faults.Sink) = 4
print_status (Err faults.Memory) = 6

-- and the line
abbrev pub print_line : Result (Unit {0}) PrintFault → List ℕ
print_line (Ok x) = []
print_line (Err faults.Sink) = codes "write fault\n"
print_line (Err faults.Memory) = codes "no memory\n"
