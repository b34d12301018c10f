-- How a run of the program ends.
use Rattle.std.specs.Prelude.{◌≡◌, ◌≢◌, ◌≤◌, ◌∷◌, ℕ, Bool, true, false, List, [], codes, Option, None, if◌then◌else◌}
use Rattle.std.proofs.Common.{◌⊎◌}
use Rattle.pw_base.specs.Outside.{Rose}
use Rattle.pw_base.specs.Seen.{FilesSeen}
use Rattle.pw_words.specs.declared.command.Review.{Review}
use Rattle.pw_words.specs.declared.command.WordsFault.{WordsFault}
use Rattle.pw_words.specs.declared.command.WordsFault.TheVariants.{Refused, Memory}
use Rattle.pw_words.specs.Words.{AskFor, Asked, IsCommand}
use Rattle.pw_words.specs.Words.Asked.{on_blocks, drive, audit, cppc, generate}
use Rattle.pw_audit.specs.declared.form.Form.{Form}
use Rattle.pw_audit.specs.declared.form.Form.TheVariants.{History, Trace}
use Rattle.pw_load.specs.Seen.{Seen, NoneFailed}
use Rattle.pw_load.specs.Ends.{Does, Ended, EndedSo, EndedWell, Work}
use Rattle.pw_tasks.specs.Tasks.{work_on}
use Rattle.pw_turns.specs.declared.close.Sealed.{Sealed}
use Rattle.pw_runs.specs.Runs.{DrivesSerially, driving}
use Rattle.pw_runs.specs.Workers.{Drives, working}
use Rattle.pw_runs.specs.Trials.{Generates, trying}
use Rattle.pw_runs.specs.Reviews.{reviewing}
use Rattle.pw_runs.specs.CppcReviews.{reviewing as reviewing_cppc}
use Rattle.pw_runs.specs.CppcRuns.{SteersSerially, steering}
use Rattle.pw_runs.specs.CppcWorkers.{Steers, steering_together}

-- # What is asked for

-- to drive a machine, on one thread or by workers
abbrev pub driving_by : (serial : Bool) → (step : Bool) → (script : List ℕ) → (names : List (List ℕ)) → FilesSeen → FilesSeen → Work
driving_by true step script names before after = driving step script names before after
driving_by false step script names before after = working step script names before after

-- to ask for the performance of a machine's processors, on one thread or by workers
abbrev pub steering_by : (serial : Bool) → (script : List ℕ) → (names : List (List ℕ)) → FilesSeen → FilesSeen → Work
steering_by true script names before after = steering script names before after
steering_by false script names before after = steering_together script names before after

-- the form of a text that is audited
abbrev pub form_of : Review → Form
form_of review = if review.trace then Trace else History

-- to audit a text of this form, of what `drive` prints, or with `--cppc` of what `cppc` does
abbrev pub reviewing_by : (cppc : Bool) → Form → (step : Bool) → (script history : List ℕ) → (names : List (List ℕ)) → FilesSeen
    → FilesSeen → Work
reviewing_by true form step script history names before after = reviewing_cppc form script history names before after
reviewing_by false form step script history names before after = reviewing form step script history names before after

-- what a command does, which words ask for: of `drive`, `cppc` and `generate` what they do where no register fails
abbrev pub work_of : Asked → FilesSeen → FilesSeen → Work
work_of (on_blocks task names) before after = work_on task names before after
work_of (drive way script names) before after = driving_by way.serial way.step script names before after
work_of (audit review script history names) before after =
    reviewing_by review.cppc (form_of review) review.step script history names before after
work_of (cppc serial script names) before after = steering_by serial script names before after
work_of (generate n) before after = trying n

-- the names of the files that it reads
abbrev pub names_in : Asked → List (List ℕ)
names_in (on_blocks task names) = names
names_in (drive way script names) = script ∷ names
names_in (audit review script history names) = script ∷ history ∷ names
names_in (cppc serial script names) = script ∷ names
names_in (generate n) = []

-- It has one text at most. `drive` and `cppc` by workers have one for each history that the script allows.
abbrev pub IsSettled : Asked → Type 0
IsSettled (drive way script names) = way.serial ≡ true
IsSettled (cppc serial script names) = serial ≡ true
IsSettled _ = Unit {0}

-- # The run

-- the numbers of a command are in their bounds
abbrev pub IsWithin : Asked → Type 0
IsWithin (generate n) = n ≤ 32
IsWithin _ = Unit {0}

-- A command did its work, and no register was operated.
abbrev pub OnlyDoes : Work → Option Sealed → Seen → Seen → ℕ → List ℕ → List ℕ → Type 0
OnlyDoes work sealed before after status text line =
    Does work before.outputs after.outputs status text line × (after.regs ≡ before.regs) × (sealed ≡ None)

-- A machine was driven, on one thread or by workers. These alone hand on what a closed coordinator gave.
abbrev pub DrivesBy : (serial : Bool) → (step : Bool) → (script : List ℕ) → (names : List (List ℕ)) → Option Sealed → Seen → Seen → ℕ
    → List ℕ → List ℕ → Type 0
DrivesBy true step script names sealed before after status text line =
    DrivesSerially step script names before after status text line × (sealed ≡ None)
DrivesBy false step script names sealed before after status text line = Drives step script names sealed before after status text line

-- The performance of a machine's processors was asked for, on one thread or by workers.
abbrev pub SteersBy : (serial : Bool) → (script : List ℕ) → (names : List (List ℕ)) → Seen → Seen → ℕ → List ℕ → List ℕ → Type 0
SteersBy true script names before after status text line = SteersSerially script names before after status text line
SteersBy false script names before after status text line = Steers script names before after status text line

-- A command did its work. None but `drive`, `cppc` and `generate` operates a register.
abbrev pub Obeys : Asked → Option Sealed → Seen → Seen → ℕ → List ℕ → List ℕ → Type 0
Obeys (on_blocks task names) sealed before after status text line =
    OnlyDoes (work_on task names before.files after.files) sealed before after status text line
Obeys (drive way script names) sealed before after status text line =
    DrivesBy way.serial way.step script names sealed before after status text line
Obeys (audit review script history names) sealed before after status text line =
    OnlyDoes (reviewing_by review.cppc (form_of review) review.step script history names before.files after.files) sealed before after
    status text line
Obeys (cppc serial script names) sealed before after status text line =
    SteersBy serial script names before after status text line × (sealed ≡ None)
Obeys (generate n) sealed before after status text line =
    Generates n sealed before.outputs after.outputs before.regs after.regs status text line

-- the status and the line where words are no command
abbrev pub words_status : WordsFault → ℕ
words_status Refused = 2
words_status Memory = 6

abbrev pub words_line : WordsFault → List ℕ
words_line Refused = codes "words: refused\n"
words_line Memory = codes "no memory\n"

-- What a run does with words.
pub data EndsBy (words : List (List ℕ)) (sealed : Option Sealed) (before after : Seen) : ℕ → List ℕ → List ℕ → Type 0 where
  -- they are no command
  misworded : (IsCommand words → ⊥) → after.regs ≡ before.regs → sealed ≡ None
      → EndsBy words sealed before after 2 [] (codes "words: refused\n")
  -- memory ran out before they were read
  without_memory : after.regs ≡ before.regs → sealed ≡ None → EndsBy words sealed before after 6 [] (codes "no memory\n")
  -- they ask for something, and this is done
  commanded : {status : ℕ} {text line : List ℕ} (asked : Asked) → AskFor words asked
      → Obeys asked sealed before after status text line → EndsBy words sealed before after status text line

-- one run
abbrev pub Ran : List (List ℕ) → Option Sealed → Seen → Seen → ℕ → Type 0
Ran words sealed before after status = Ended (EndsBy words sealed before after) before.outputs after.outputs status

-- no register failed: the status doesn't say so, and their count stands
pub record IsSpared (before after status : ℕ) : Type 0 where
  pub status_is : status ≢ 5
  pub count : after ≡ before

-- # What must come, want of memory aside

-- It ended with this status, this text and this line, or for want of memory.
abbrev pub EndsSo : Seen → Seen → ℕ → ℕ → List ℕ → List ℕ → Type 0
EndsSo before after status so text line = EndedSo before.outputs after.outputs status so text line ⊎ (status ≡ 6)

-- no register that the command operates failed
abbrev pub RegistersHeld : Asked → Seen → Seen → Type 0
RegistersHeld (on_blocks task names) before after = Unit {0}
RegistersHeld (drive way script names) before after = Rose before.regs.faults after.regs.faults → ⊥
RegistersHeld (audit review script history names) before after = Unit {0}
RegistersHeld (cppc serial script names) before after = Rose before.regs.faults after.regs.faults → ⊥
RegistersHeld (generate n) before after = Rose before.regs.faults after.regs.faults → ⊥

-- What must come where the files tell, and no read of the command's files failed.
pub record IsCompleteFor (asked : Asked) (before after : Seen) (status : ℕ) : Type 0 where
  -- where it has a text, one is printed, if no register and no write of the output failed
  pub prints : (text : List ℕ) → (work_of asked before.files after.files).text text → RegistersHeld asked before after
      → (Rose before.outputs.out.faults after.outputs.out.faults → ⊥)
      → EndedWell (work_of asked before.files after.files) before.outputs after.outputs status ⊎ (status ≡ 6)
  pub one : IsSettled asked → (a b : List ℕ) → (work_of asked before.files after.files).text a
      → (work_of asked before.files after.files).text b → a ≡ b
  -- what it refuses is refused, by its status and its line
  pub refuses : (so : ℕ) (line : List ℕ) → (work_of asked before.files after.files).refusal so line → EndsSo before after status so [] line
  -- it refuses exactly what it doesn't print
  pub unprinted : ((text : List ℕ) → (work_of asked before.files after.files).text text → ⊥)
      → ((line : List ℕ) × (work_of asked before.files after.files).refusal status line) ⊎ (status ≡ 6)
  pub printable : (text : List ℕ) → (work_of asked before.files after.files).text text → RegistersHeld asked before after
      → (status ≡ 0) ⊎ (status ≡ 4) ⊎ (status ≡ 6)

pub record IsComplete (words : List (List ℕ)) (before after : Seen) (status : ℕ) : Type 0 where
  -- words that are no command are refused, and no others
  pub misworded : (IsCommand words → ⊥) → EndsSo before after status 2 [] (codes "words: refused\n")
  pub worded : status ≡ 2 → IsCommand words → ⊥
  -- a command is obeyed
  pub obeyed : (asked : Asked) → AskFor words asked → before.files.told ≡ true → NoneFailed (names_in asked) before.files after.files
      → IsCompleteFor asked before after status
