-- Whether a text is a whole one of a script, and else which line can't be one of it, of any kind of coordination.
use Rattle.std.specs.Prelude.{◌≡◌, ◌<◌, ◌≤◌, ℕ, List, length, take, Option, Result, Ok, Err}
use Rattle.std.specs.List.{AllByRecursion}
use Rattle.pw_history.specs.Wording.{Wording}
use Rattle.pw_history.specs.HistoryText.{history_text}
use Rattle.pw_history.specs.Asked.{Lawful}
use Rattle.pw_history.specs.Wholes.{BeginsWhole, IsWhole, pieces_of}
use Rattle.pw_audit.specs.declared.answer.AuditFault.{AuditFault}
use Rattle.pw_audit.specs.declared.answer.AuditFault.TheVariants.{TooLong, Wrong, Unfinished, Memory}
use Rattle.pw_audit.specs.declared.answer.TheConstants.{MOST_BYTES}
use Rattle.pw_audit.specs.declared.form.Form.{Form}
use Rattle.pw_audit.specs.Tracing.{IsUnfinishedAs, IsWrongAs, ShowsAs}

-- no more bytes than an audit reads
abbrev pub IsShort : List ℕ → Type 0
IsShort text = length text ≤ MOST_BYTES

module _ {Plan Request Reply Entry State : Type 0} (W : Wording Plan Request Reply Entry State) where
  -- Line k, counted from 1, is wrong: the first k lines aren't the first k lines of any whole text, and fewer of them are.
  pub record IsWrong (plan : Plan) (asked : List Request) (text : List ℕ) (k : ℕ) : Type 0 where
    pub some : 1 ≤ k
    pub within : k ≤ length (pieces_of text)
    pub wrong : BeginsWhole W plan asked (take k (pieces_of text)) → ⊥
    pub least : (j : ℕ) → j < k → BeginsWhole W plan asked (take j (pieces_of text))

  -- No line is wrong, and yet the text isn't whole.
  pub record IsUnfinished (plan : Plan) (asked : List Request) (text : List ℕ) : Type 0 where
    pub begins : BeginsWhole W plan asked (pieces_of text)
    pub lacks : IsWhole W plan asked text → ⊥

  -- The text is that of this opening and these entries, which may come of the script; their seats are 0.
  pub record Shows (plan : Plan) (asked : List Request) (text : List ℕ) (o : Option ℕ) (entries : List Entry) : Type 0 where
    pub lawful : Lawful W plan asked o entries
    pub is : text ≡ history_text W plan o entries
    pub seats : AllByRecursion (λ (e : Entry). W.seat e ≡ 0) entries

  -- what an answer tells of a text: the opening and the entries that it is of, or why it isn't whole
  abbrev pub Told : Form → Plan → List Request → List ℕ → Result (Option ℕ × List Entry) AuditFault → Type 0
  Told form plan asked text (Ok (o, entries)) = IsShort text × ShowsAs W form plan asked text o entries
  Told form plan asked text (Err (TooLong b)) = (b ≡ MOST_BYTES) × (MOST_BYTES < length text)
  Told form plan asked text (Err (Wrong k)) = IsShort text × IsWrongAs W form plan asked text k
  Told form plan asked text (Err (Unfinished n)) = IsShort text × (n ≡ length (pieces_of text)) × IsUnfinishedAs W form plan asked text
  Told form plan asked text (Err Memory) = Unit {0}
