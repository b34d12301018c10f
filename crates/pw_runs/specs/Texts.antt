-- The history or the trace in a file, of any kind of coordination: a whole text that a script allows, or why it is none.
use Rattle.std.specs.Prelude.{◌≡◌, ◌<◌, ℕ, List, length, Some}
use Rattle.pw_base.specs.Seen.{FilesSeen, OfFiles}
use Rattle.pw_history.specs.Wording.{Wording}
use Rattle.pw_history.specs.Wholes.{pieces_of}
use Rattle.pw_audit.specs.declared.answer.AuditFault.{AuditFault}
use Rattle.pw_audit.specs.declared.answer.AuditFault.TheVariants.{TooLong, Wrong, Unfinished}
use Rattle.pw_audit.specs.declared.answer.TheConstants.{MOST_BYTES}
use Rattle.pw_audit.specs.declared.form.Form.{Form}
use Rattle.pw_audit.specs.Judging.{IsShort}
use Rattle.pw_audit.specs.Tracing.{IsUnfinishedAs, IsWholeAs, IsWrongAs}

module _ {Plan Request Reply Entry State : Type 0} (W : Wording Plan Request Reply Entry State) where
  -- # What bytes are

  -- Bytes are the whole text of what may come of a script's lines, a history or a trace of it, with so many entries.
  pub record IsText (form : Form) (plan : Plan) (asked : List Request) (bytes : List ℕ) (entries : ℕ) : Type 0 where
    pub short : IsShort bytes
    pub whole : IsWholeAs W form plan asked bytes
    pub count : entries ≡ length whole.entries

  -- Bytes are no such text: they are too many, or a line is wrong, or they end before the text does.
  pub data IsNoText (form : Form) (plan : Plan) (asked : List Request) (bytes : List ℕ) : AuditFault → Type 0 where
    too_long : MOST_BYTES < length bytes → IsNoText form plan asked bytes (TooLong MOST_BYTES)
    wrong : {line : ℕ} → IsShort bytes → IsWrongAs W form plan asked bytes line → IsNoText form plan asked bytes (Wrong line)
    unfinished : IsShort bytes → IsUnfinishedAs W form plan asked bytes
        → IsNoText form plan asked bytes (Unfinished (length (pieces_of bytes)))

  -- # What is held under its name, where files tell

  pub record HoldText (form : Form) (files : FilesSeen) (name : List ℕ) (plan : Plan) (asked : List Request) (entries : ℕ) : Type 0 where
    pub bytes : List ℕ
    pub held : OfFiles files (λ holds. holds name ≡ Some bytes)
    pub is : IsText form plan asked bytes entries

  pub record HoldNoText (form : Form) (files : FilesSeen) (name : List ℕ) (plan : Plan) (asked : List Request) (fault : AuditFault)
      : Type 0 where
    pub bytes : List ℕ
    pub held : OfFiles files (λ holds. holds name ≡ Some bytes)
    pub fails : IsNoText form plan asked bytes fault
