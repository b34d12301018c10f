-- Whether the history or the trace in a file is one that a script allows, of any kind of coordination, where a plan and a script are
-- given in some way.
use Rattle.std.specs.Prelude.{◌≡◌, ℕ, List}
use Rattle.pw_base.specs.Outside.{Rose}
use Rattle.pw_base.specs.Seen.{FilesSeen}
use Rattle.pw_history.specs.Wording.{Wording}
use Rattle.pw_audit.specs.declared.answer.AuditFault.{AuditFault}
use Rattle.pw_audit.specs.declared.form.Form.{Form}
use Rattle.pw_runs.specs.Histories.{history_line, lawful_line}
use Rattle.pw_runs.specs.Texts.{HoldNoText, HoldText}

-- By `Given` files give a plan and a script's lines, which ask for requests; by `Refused` they give none, with this status and text.
module _ {Plan Request Reply Entry State Line : Type 0} (W : Wording Plan Request Reply Entry State) (asks : List Line → List Request)
    (Given : FilesSeen → Plan → List Line → Type 0) where
  -- The text says how many entries the history has that is held under its name: it is a whole one, in this form, of the plan and the
  -- script that are given.
  pub record IsLawfulOn (form : Form) (files : FilesSeen) (history : List ℕ) (text : List ℕ) : Type 0 where
    pub plan : Plan
    pub lines : List Line
    pub given : Given files plan lines
    pub entries : ℕ
    pub held : HoldText W form files history plan (asks lines) entries
    pub says : text ≡ lawful_line entries

  -- Under the history's name no whole one is held of the plan and the script that are given.
  pub record IsUnlawfulOn (form : Form) (files : FilesSeen) (history : List ℕ) (status : ℕ) (text : List ℕ) : Type 0 where
    pub is : status ≡ 8
    pub plan : Plan
    pub lines : List Line
    pub given : Given files plan lines
    pub fault : AuditFault
    pub held : HoldNoText W form files history plan (asks lines) fault
    pub says : text ≡ history_line fault

  -- The blocks and the script come before the history: there is no plan or no script, or else the history isn't lawful.
  pub data IsRefusalFor (Refused : FilesSeen → ℕ → List ℕ → Type 0) (form : Form) (files : FilesSeen) (history : List ℕ) (status : ℕ)
      (text : List ℕ) : Type 0 where
    ungiven : Refused files status text → IsRefusalFor Refused form files history status text
    unlawful : IsUnlawfulOn form files history status text → IsRefusalFor Refused form files history status text

  -- a read of the history's file failed, once the plan and the script were given
  pub record IsHistoryUnread (before after : FilesSeen) (history : List ℕ) : Type 0 where
    pub plan : Plan
    pub lines : List Line
    pub given : Given before plan lines
    pub rose : Rose (before.faults history) (after.faults history)
