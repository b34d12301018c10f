-- What each exit status says, of every command: `docs/PROMISES.md` has the same in sentences.
use Rattle.std.specs.Prelude.{◌≡◌, ◌⊎◌, ℕ, Bool, true, List, [], codes, take, Option, Some, Contains}
use Rattle.pw_base.specs.Outside.{Rose}
use Rattle.pw_base.specs.Seen.{FilesSeen, Grew, GrewByLine}
use Rattle.pw_plan.specs.declared.plan.Plan.{Plan}
use Rattle.pw_model.specs.declared.entry.HistoryEntry.{HistoryEntry}
use Rattle.pw_cppc.specs.declared.entry.CppcEntry.{CppcEntry}
use Rattle.pw_cppc.specs.declared.plan.CppcPlan.{CppcPlan}
use Rattle.pw_cppc.specs.History.{stopped_at as stopped_behind}
use Rattle.pw_script.specs.declared.script.Line.{Line as line}
use Rattle.pw_script.specs.HistoryText.{history_text}
use Rattle.pw_script.specs.Lawful.{Lawful}
use Rattle.pw_script.specs.Reading.{requests_of}
use Rattle.pw_drive.specs.Driven.{stopped_at}
use Rattle.pw_cppc_drive.specs.declared.script.CppcLine.{CppcLine}
use Rattle.pw_cppc_drive.specs.HistoryText.{history_text as steered_text}
use Rattle.pw_words.specs.declared.command.Way.{Way}
use Rattle.pw_words.specs.Words.{AskFor, Asked, IsCommand}
use Rattle.pw_words.specs.Words.Asked.{on_blocks, drive, audit, cppc, generate}
use Rattle.pw_load.specs.Seen.{NoneFailed, Outputs, Seen}
use Rattle.pw_runs.specs.Runs.{AreGiven, register_line}
use Rattle.pw_runs.specs.CppcRuns.{AreGiven as AreSteeredBy}
use Rattle.pw_cli.specs.Runs.{RegistersHeld, names_in, work_of}

-- Where they tell, the output grew by this text, and the error output by this line, or by a beginning of it where it failed.
pub record Says (before after : Outputs) (text line : List ℕ) : Type 0 where
  pub on_out : Grew before.out after.out text
  pub on_err : GrewByLine before.err after.err line

-- the commands that operate registers
abbrev pub Operates : Asked → Type 0
Operates (on_blocks task names) = ⊥
Operates (drive way script names) = Unit {0}
Operates (audit review script history names) = ⊥
Operates (cppc serial script names) = Unit {0}
Operates (generate n) = Unit {0}

-- # What a status says

-- The words ask for a command, and one of its texts was printed, whole.
pub record IsDone (words : List (List ℕ)) (before after : Seen) : Type 0 where
  pub asked : Asked
  pub asks : AskFor words asked
  pub text : List ℕ
  pub made : (work_of asked before.files after.files).text text
  pub says : Says before.outputs after.outputs text []

-- They ask for a command, which refuses what the files hold: nothing was printed, and a line says why.
pub record IsRefusedSo (words : List (List ℕ)) (before after : Seen) (status : ℕ) : Type 0 where
  pub asked : Asked
  pub asks : AskFor words asked
  pub line : List ℕ
  pub why : (work_of asked before.files after.files).refusal status line
  pub says : Says before.outputs after.outputs [] line

-- They are no command.
pub record IsMisworded (words : List (List ℕ)) (before after : Seen) : Type 0 where
  pub no_command : IsCommand words → ⊥
  pub says : Says before.outputs after.outputs [] (codes "words: refused\n")

-- They ask for a command, and a read of one of its files failed.
pub record IsUnread (words : List (List ℕ)) (before after : Seen) : Type 0 where
  pub asked : Asked
  pub asks : AskFor words asked
  pub name : List ℕ
  pub named : Contains (names_in asked) name
  pub rose : Rose (before.files.faults name) (after.files.faults name)
  pub says : Says before.outputs after.outputs [] (codes "read fault\n")

-- They ask for a command, and a write of its text failed, of which a beginning was printed.
pub record IsUnwritten (words : List (List ℕ)) (before after : Seen) : Type 0 where
  pub asked : Asked
  pub asks : AskFor words asked
  pub text : List ℕ
  pub made : (work_of asked before.files after.files).text text
  pub printed : ℕ
  pub rose : Rose before.outputs.out.faults after.outputs.out.faults
  pub says : Says before.outputs after.outputs (take printed text) (codes "write fault\n")

-- What was printed before a register failed behind so many operations of the start or of the last request: by `drive` and `cppc` a
-- beginning of the history's text up to there, by `generate` nothing.
pub data IsTextUpTo (files : FilesSeen) (done : ℕ) (text : List ℕ) : Asked → Type 0 where
  of_drive : {way : Way} {script : List ℕ} {names : List (List ℕ)} (P : Plan) (lines : List line) (opening : Option ℕ)
      (es : List HistoryEntry) (n : ℕ) → AreGiven files way.step script names P lines → Lawful P (requests_of lines) opening es
      → stopped_at opening es ≡ Some done → text ≡ take n (history_text P opening es) → IsTextUpTo files done text (drive way script names)
  of_cppc : {serial : Bool} {script : List ℕ} {names : List (List ℕ)} (P : CppcPlan) (lines : List CppcLine) (opening : Option ℕ)
      (es : List CppcEntry) (n : ℕ) → AreSteeredBy files script names P lines → stopped_behind opening es ≡ Some done
      → text ≡ take n (steered_text P opening es) → IsTextUpTo files done text (cppc serial script names)
  of_load : {n : ℕ} → text ≡ [] → IsTextUpTo files done text (generate n)

-- They ask for a command that operates registers, and one failed: the line says after how many operations of the start or a request.
pub record IsFailed (words : List (List ℕ)) (before after : Seen) : Type 0 where
  pub asked : Asked
  pub asks : AskFor words asked
  pub operates : Operates asked
  pub rose : Rose before.regs.faults after.regs.faults
  pub done : ℕ
  pub text : List ℕ
  pub printed : IsTextUpTo before.files done text asked
  pub says : Says before.outputs after.outputs text (register_line done)

-- Memory ran out, before anything was printed, or in the midst of a text of the command that they ask for.
pub record IsStarved (words : List (List ℕ)) (before after : Seen) : Type 0 where
  pub text : List ℕ
  pub made : (text ≡ []) ⊎ ((asked : Asked) × AskFor words asked × (work_of asked before.files after.files).text text)
  pub printed : ℕ
  pub says : Says before.outputs after.outputs (take printed text) (codes "no memory\n")

-- # Every run

-- The status says how it ended.
pub data EndsWith (words : List (List ℕ)) (before after : Seen) : ℕ → Type 0 where
  done : IsDone words before after → EndsWith words before after 0
  -- the blocks are refused
  blocks : IsRefusedSo words before after 1 → EndsWith words before after 1
  misworded : IsMisworded words before after → EndsWith words before after 2
  unread : IsUnread words before after → EndsWith words before after 3
  unwritten : IsUnwritten words before after → EndsWith words before after 4
  failed : IsFailed words before after → EndsWith words before after 5
  starved : IsStarved words before after → EndsWith words before after 6
  -- the script is refused, or the history
  script : IsRefusedSo words before after 7 → EndsWith words before after 7
  history : IsRefusedSo words before after 8 → EndsWith words before after 8

-- What the status of a run on these words says, and when it comes.
pub record KeepsStatus (words : List (List ℕ)) (before after : Seen) (status : ℕ) : Type 0 where
  pub ends : EndsWith words before after status
  -- want of memory aside, words that are no command are refused, and what a command refuses, where no read of its files failed
  pub misworded : (IsCommand words → ⊥) → (status ≡ 2) ⊎ (status ≡ 6)
  pub refused : (asked : Asked) → AskFor words asked → before.files.told ≡ true → NoneFailed (names_in asked) before.files after.files
      → (so : ℕ) (line : List ℕ) → (work_of asked before.files after.files).refusal so line → (status ≡ so) ⊎ (status ≡ 6)
  -- and where it has a text, that is printed, if no register and no write of the output failed
  pub done : (asked : Asked) → AskFor words asked → before.files.told ≡ true → NoneFailed (names_in asked) before.files after.files
      → (text : List ℕ) → (work_of asked before.files after.files).text text → RegistersHeld asked before after
      → (Rose before.outputs.out.faults after.outputs.out.faults → ⊥) → (status ≡ 0) ⊎ (status ≡ 6)
  -- no register is operated but by a command that does so
  pub still : (asked : Asked) → AskFor words asked → (Operates asked → ⊥) → after.regs ≡ before.regs
  pub still_misworded : (IsCommand words → ⊥) → after.regs ≡ before.regs
