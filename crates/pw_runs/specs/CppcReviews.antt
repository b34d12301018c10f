-- Whether a printed history of requests for performance, or a trace of a running system, is one that a script allows on the processors
-- that blocks describe, wherever it came from.
use Rattle.std.specs.Prelude.{ℕ, false, List}
use Rattle.std.proofs.Common.{◌⊎◌}
use Rattle.pw_base.specs.Seen.{FilesSeen}
use Rattle.pw_cppc_drive.specs.HistoryText.{performance_words}
use Rattle.pw_cppc_drive.specs.Reading.{requests_of}
use Rattle.pw_audit.specs.declared.form.Form.{Form}
use Rattle.pw_load.specs.Ends.{Work}
use Rattle.pw_load.specs.Steps.{IsOneUnread}
use Rattle.pw_runs.specs.CppcRuns.{AreGiven, IsRefusalOn, IsScriptUnread}
use Rattle.pw_runs.specs.Reviewing as any

-- The text says how many entries the history has that is held under its name: it is a whole one, in this form, of the plan and the
-- script that are given.
abbrev pub IsLawfulOn : Form → FilesSeen → (script history : List ℕ) → (names : List (List ℕ)) → List ℕ → Type 0
IsLawfulOn form files script history names =
    any.IsLawfulOn performance_words requests_of (λ given. AreGiven given script names) form files history

-- # Why it is refused

-- The blocks and the script come before the history: there is no plan or no script, or else the history isn't lawful.
abbrev pub IsRefusalFor : Form → FilesSeen → (script history : List ℕ) → (names : List (List ℕ)) → ℕ → List ℕ → Type 0
IsRefusalFor form files script history names =
    any.IsRefusalFor performance_words requests_of (λ given. AreGiven given script names) (λ given. IsRefusalOn given script names)
    form files history

-- a read of the history's file failed, once the plan and the script were given
abbrev pub IsHistoryUnread : FilesSeen → FilesSeen → (script history : List ℕ) → (names : List (List ℕ)) → Type 0
IsHistoryUnread before after script history names =
    any.IsHistoryUnread performance_words requests_of (λ given. AreGiven given script names) before after history

-- to audit a text of this form by this script and the processors of these blocks
abbrev pub reviewing : Form → (script history : List ℕ) → (names : List (List ℕ)) → FilesSeen → FilesSeen → Work
reviewing form script history names before after = record {
  text = IsLawfulOn form before script history names;
  refusal = IsRefusalFor form before script history names;
  read_fault = IsOneUnread before after names ⊎ IsScriptUnread before after script names
      ⊎ IsHistoryUnread before after script history names;
  in_pieces = false;
}
