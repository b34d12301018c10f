-- What the parts of an audit do, of any kind of coordination.
use Rattle.std.specs.Prelude.{◌≡◌, ◌≢◌, ℕ, false, List}
use Rattle.pw_base.specs.Outside.{Rose}
use Rattle.pw_base.specs.Seen.{FilesSeen}
use Rattle.pw_history.specs.Wording.{Wording}
use Rattle.pw_audit.specs.declared.answer.AuditFault.{AuditFault}
use Rattle.pw_audit.specs.declared.answer.AuditFault.TheVariants.{Memory}
use Rattle.pw_audit.specs.declared.form.Form.{Form}
use Rattle.pw_load.specs.Ends.{Work}
use Rattle.pw_runs.specs.declared.history.Unlawful.{Unlawful}
use Rattle.pw_runs.specs.declared.history.Unlawful.TheVariants.{Unread, Fault}
use Rattle.pw_runs.specs.Histories.{history_line, lawful_line}
use Rattle.pw_runs.specs.Texts.{HoldNoText, HoldText, IsNoText}

-- to tell that a history of so many entries is lawful
abbrev pub telling : ℕ → Work
telling entries = record { text = λ text. text ≡ lawful_line entries; refusal = λ status line. ⊥; read_fault = ⊥; in_pieces = false }

module _ {Plan Request Reply Entry State : Type 0} (W : Wording Plan Request Reply Entry State) where
  -- why bytes are no whole text, want of memory aside
  abbrev pub IsWhy : Form → Plan → List Request → List ℕ → AuditFault → Type 0
  IsWhy form plan asked bytes fault = fault ≢ Memory → IsNoText W form plan asked bytes fault

  abbrev pub IsWhyNone : Form → Plan → List Request → List ℕ → Unlawful → Type 0
  IsWhyNone form plan asked bytes Unread = ⊥
  IsWhyNone form plan asked bytes (Fault fault) = IsWhy form plan asked bytes fault

  -- why there is no history under a name: a read of it failed, or what is held is none
  abbrev pub IsWhyUnlawful : Form → FilesSeen → FilesSeen → List ℕ → Plan → List Request → Unlawful → Type 0
  IsWhyUnlawful form before after name plan asked Unread = Rose (before.faults name) (after.faults name)
  IsWhyUnlawful form before after name plan asked (Fault fault) = fault ≢ Memory → HoldNoText W form before name plan asked fault

  -- under this name a history is held, and the text says how many entries it has
  pub record IsToldOf (form : Form) (files : FilesSeen) (name : List ℕ) (plan : Plan) (asked : List Request) (text : List ℕ) : Type 0 where
    pub entries : ℕ
    pub held : HoldText W form files name plan asked entries
    pub says : text ≡ lawful_line entries

  -- under this name none is held
  pub record IsRefusedOf (form : Form) (files : FilesSeen) (name : List ℕ) (plan : Plan) (asked : List Request) (status : ℕ) (text : List ℕ)
      : Type 0 where
    pub is : status ≡ 8
    pub fault : AuditFault
    pub held : HoldNoText W form files name plan asked fault
    pub says : text ≡ history_line fault

  -- to judge the history of a plan and a script
  abbrev pub judging : Form → FilesSeen → FilesSeen → List ℕ → Plan → List Request → Work
  judging form before after name plan asked = record {
    text = IsToldOf form before name plan asked;
    refusal = IsRefusedOf form before name plan asked;
    read_fault = Rose (before.faults name) (after.faults name);
    in_pieces = false;
  }
