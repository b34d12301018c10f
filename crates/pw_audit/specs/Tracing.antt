-- What the text of a history and a trace of a running system have of a history, of any kind of coordination.
use Rattle.std.specs.Prelude.{◌≡◌, ◌==◌, ◌⊎◌, ◌+◌, ◌<◌, ◌≤◌, ◌++◌, ◌∷◌, ℕ, List, [], map, filter, take, length, codes, Option, Some, None}
use Rattle.std.specs.List.{AllByRecursion}
use Rattle.acpi_values.specs.declared.operation.Op.{Op}
use Rattle.acpi_values.specs.declared.operation.Op.TheVariants.{Set, Enter}
use Rattle.pw_kind.specs.History as histories
use Rattle.pw_text.specs.Lines.{text_of}
use Rattle.pw_history.specs.Wording.{Wording}
use Rattle.pw_history.specs.HistoryText.{entry_line, history_text, op_line, opening_lines}
use Rattle.pw_history.specs.Asked.{Lawful}
use Rattle.pw_history.specs.Wholes.{pieces_of}
use Rattle.pw_audit.specs.declared.form.Form.{Form}
use Rattle.pw_audit.specs.declared.form.Form.TheVariants.{History, Trace}

-- # Operations

-- the processor that an operation is on
abbrev pub op_cpu : Op → ℕ
op_cpu (Set p r v) = p
op_cpu (Enter p composite) = p

-- the operations on processor p
abbrev pub ops_on : ℕ → List Op → List Op
ops_on p ops = filter (λ o. op_cpu o == p) ops

-- On each processor they are the same operations, in the same order.
abbrev pub AreSameOnEach : List Op → List Op → Type 0
AreSameOnEach xs ys = (p : ℕ) → ops_on p xs ≡ ops_on p ys

module _ {Plan Request Reply Entry State : Type 0} (W : Wording Plan Request Reply Entry State) where
  -- the lines of these operations, in any order of the processors
  pub record AreTraced (plan : Plan) (ops : List Op) (ls : List (List ℕ)) : Type 0 where
    pub done : List Op
    pub same : AreSameOnEach done ops
    pub is : ls ≡ map (op_line W plan) done

  -- the lines of an entry's operations
  abbrev pub TellsOps : Form → Plan → List Op → List (List ℕ) → Type 0
  TellsOps History plan ops ls = ls ≡ map (op_line W plan) ops
  TellsOps Trace plan ops ls = AreTraced plan ops ls

  -- # Entries

  -- the lines of entry n, asked in state S, and then some of which this holds
  pub record TellsFirst (form : Form) (plan : Plan) (S : State) (n : ℕ) (e : Entry) (Later : List (List ℕ) → Type 0) (ls : List (List ℕ))
      : Type 0 where
    pub ops : List (List ℕ)
    pub tells : TellsOps form plan (histories.entry_ops W.kind plan S e) ops
    pub later : List (List ℕ)
    pub goes_on : Later later
    pub is : ls ≡ entry_line W plan S n e ∷ ops ++ later

  -- the lines of the entries from n on
  abbrev pub Tells : Form → Plan → State → ℕ → List Entry → List (List ℕ) → Type 0
  Tells form plan S n [] ls = ls ≡ []
  Tells form plan S n (e ∷ es) ls =
      TellsFirst form plan S n e (λ later. Tells form plan (histories.after_entry W.kind plan S e) (n + 1) es later) ls

  -- # The opening

  -- its lines; those of a trace may be the line `open` alone
  abbrev pub Opens : Form → Plan → Option ℕ → List (List ℕ) → Type 0
  Opens History plan o ls = ls ≡ opening_lines W plan o
  Opens Trace plan None ls = (ls ≡ codes "open" ∷ []) ⊎ (ls ≡ opening_lines W plan None)
  Opens Trace plan (Some k) ls = ls ≡ opening_lines W plan (Some k)

  -- # Texts

  -- The text tells of an opening and these entries.
  pub record TextTells (form : Form) (plan : Plan) (o : Option ℕ) (es : List Entry) (text : List ℕ) : Type 0 where
    pub first : List (List ℕ)
    pub later : List (List ℕ)
    pub opens : Opens form plan o first
    pub tells : Tells form plan (W.kind.opening plan) 1 es later
    pub is : text ≡ text_of (first ++ later)

  -- The text is that of what may come of a script's lines.
  pub record IsWholeAs (form : Form) (plan : Plan) (asked : List Request) (text : List ℕ) : Type 0 where
    pub o : Option ℕ
    pub entries : List Entry
    pub lawful : Lawful W plan asked o entries
    pub is : TextTells form plan o entries text

  -- These are the first lines of a whole text.
  pub record BeginsAs (form : Form) (plan : Plan) (asked : List Request) (lines : List (List ℕ)) : Type 0 where
    pub text : List ℕ
    pub whole : IsWholeAs form plan asked text
    pub first : take (length lines) (pieces_of text) ≡ lines

  -- Line k, counted from 1, is wrong: the first k lines aren't the first k lines of any whole text, and fewer of them are.
  pub record IsWrongAs (form : Form) (plan : Plan) (asked : List Request) (text : List ℕ) (k : ℕ) : Type 0 where
    pub some : 1 ≤ k
    pub within : k ≤ length (pieces_of text)
    pub wrong : BeginsAs form plan asked (take k (pieces_of text)) → ⊥
    pub least : (j : ℕ) → j < k → BeginsAs form plan asked (take j (pieces_of text))

  -- No line is wrong, and yet the text isn't whole.
  pub record IsUnfinishedAs (form : Form) (plan : Plan) (asked : List Request) (text : List ℕ) : Type 0 where
    pub begins : BeginsAs form plan asked (pieces_of text)
    pub lacks : IsWholeAs form plan asked text → ⊥

  -- The text tells of this opening and these entries, which may come of the script; their seats are 0.
  pub record ShowsAs (form : Form) (plan : Plan) (asked : List Request) (text : List ℕ) (o : Option ℕ) (entries : List Entry)
      : Type 0 where
    pub lawful : Lawful W plan asked o entries
    pub is : TextTells form plan o entries text
    pub seats : AllByRecursion (λ (e : Entry). W.seat e ≡ 0) entries

  -- # What a trace is to a history

  -- The history's text has the entries of the trace, with the operations of the opening, and those of each entry in their
  -- order.
  pub record IsSortedFrom (plan : Plan) (trace history : List ℕ) : Type 0 where
    pub o : Option ℕ
    pub entries : List Entry
    pub tells : TextTells Trace plan o entries trace
    pub is : history ≡ history_text W plan o entries
