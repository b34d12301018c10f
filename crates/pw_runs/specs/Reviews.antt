-- Whether a printed history, or a trace of a running system, is one that a script allows on the machine that blocks describe, wherever it
-- came from.
use Rattle.std.specs.Prelude.{ℕ, Bool, false, List}
use Rattle.std.proofs.Common.{◌⊎◌}
use Rattle.pw_base.specs.Seen.{FilesSeen}
use Rattle.pw_script.specs.HistoryText.{power_words}
use Rattle.pw_script.specs.Reading.{requests_of}
use Rattle.pw_audit.specs.declared.form.Form.{Form}
use Rattle.pw_load.specs.Ends.{Work}
use Rattle.pw_load.specs.Steps.{IsOneUnread}
use Rattle.pw_runs.specs.Runs.{AreGiven, IsRefusalOn, IsScriptUnread}
use Rattle.pw_runs.specs.Reviewing as any

-- The text says how many entries the history has that is held under its name: it is a whole one, in this form, of the plan and the
-- script that are given.
abbrev pub IsLawfulOn : Form → FilesSeen → (step : Bool) → (script history : List ℕ) → (names : List (List ℕ)) → List ℕ → Type 0
IsLawfulOn form files step script history names =
    any.IsLawfulOn power_words requests_of (λ given. AreGiven given step script names) form files history

-- # Why it is refused

-- Under the history's name no whole one is held of the plan and the script that are given.
abbrev pub IsUnlawfulOn : Form → FilesSeen → (step : Bool) → (script history : List ℕ) → (names : List (List ℕ)) → ℕ → List ℕ → Type 0
IsUnlawfulOn form files step script history names =
    any.IsUnlawfulOn power_words requests_of (λ given. AreGiven given step script names) form files history

-- The blocks and the script come before the history: there is no plan or no script, or else the history isn't lawful.
abbrev pub IsRefusalFor : Form → FilesSeen → (step : Bool) → (script history : List ℕ) → (names : List (List ℕ)) → ℕ → List ℕ → Type 0
IsRefusalFor form files step script history names =
    any.IsRefusalFor power_words requests_of (λ given. AreGiven given step script names) (λ given. IsRefusalOn given step script names)
    form files history

-- a read of the history's file failed, once the plan and the script were given
abbrev pub IsHistoryUnread : FilesSeen → FilesSeen → (step : Bool) → (script history : List ℕ) → (names : List (List ℕ)) → Type 0
IsHistoryUnread before after step script history names =
    any.IsHistoryUnread power_words requests_of (λ given. AreGiven given step script names) before after history

-- to audit a text of this form by this script and the machine of these blocks
abbrev pub reviewing : Form → (step : Bool) → (script history : List ℕ) → (names : List (List ℕ)) → FilesSeen → FilesSeen → Work
reviewing form step script history names before after = record {
  text = IsLawfulOn form before step script history names;
  refusal = IsRefusalFor form before step script history names;
  read_fault = IsOneUnread before after names ⊎ IsScriptUnread before after script names
      ⊎ IsHistoryUnread before after step script history names;
  in_pieces = false;
}
