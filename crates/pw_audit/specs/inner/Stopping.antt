-- Where the lines of a text stop to be those that should come.
use Rattle.std.specs.Prelude.{◌≡◌, ◌==◌, ◌<◌, ◌≤◌, ◌⊎◌, ◌+◌, ◌-◌, ◌++◌, ◌∷◌, ℕ, List, [], codes, map, take, length, slice_index_or, Option, Some, None, if◌then◌else◌, nat_lt, filter}
use Rattle.acpi_values.specs.declared.operation.Op.{Op}
use Rattle.pw_kind.specs.History as histories
use Rattle.pw_text.specs.Lines.{text_of, with_feed}
use Rattle.pw_text.specs.HistoryText.{fault_words}
use Rattle.pw_text.specs.Openings.{opened, opening_line}
use Rattle.pw_history.specs.Wording.{Wording}
use Rattle.pw_history.specs.HistoryText.{entry_line, op_line}
use Rattle.pw_history.specs.Asked.{Begins}
use Rattle.pw_history.specs.Wholes.{pieces_of}
use Rattle.pw_audit.specs.declared.answer.AuditFault.{AuditFault}
use Rattle.pw_audit.specs.declared.answer.AuditFault.TheVariants.{TooLong, Wrong, Unfinished, Memory}
use Rattle.pw_audit.specs.declared.form.Form.{Form}
use Rattle.pw_audit.specs.declared.form.Form.TheVariants.{Trace}
use Rattle.pw_audit.specs.Tracing.{IsUnfinishedAs, IsWrongAs, Opens, TellsOps}
use Rattle.pw_audit.specs.inner.Queues.{IsNext}

-- # Lines that should come

-- a text has the first k of these lines, and then nothing
pub record EndsIn (ls : List (List ℕ)) (left : List ℕ) (k : ℕ) : Type 0 where
  pub within : k < length ls
  pub is : left ≡ text_of (take k ls)

-- a text has the first k of these lines, and then something else than the next
pub record BreaksIn (ls : List (List ℕ)) (left : List ℕ) (k : ℕ) : Type 0 where
  pub within : k < length ls
  pub rest : List ℕ
  pub is : left ≡ text_of (take k ls) ++ rest
  pub some : 0 < length rest
  pub other : Begins (with_feed (slice_index_or ls k [])) rest → ⊥

-- what is told of a text, behind n lines, that should begin with these lines and doesn't
abbrev pub StopsIn : List (List ℕ) → ℕ → List ℕ → AuditFault → Type 0
StopsIn ls n left (TooLong bound) = ⊥
StopsIn ls n left (Wrong line) = (k : ℕ) × BreaksIn ls left k × (line ≡ n + k + 1)
StopsIn ls n left (Unfinished lines) = (k : ℕ) × EndsIn ls left k × (lines ≡ n + k)
StopsIn ls n left Memory = Unit {0}

-- what is told of a text, behind n lines, that should begin with this line, its line feed included, and doesn't
abbrev pub MissesLine : List ℕ → ℕ → List ℕ → AuditFault → Type 0
MissesLine line n left (TooLong bound) = ⊥
MissesLine line n left (Wrong number) = (number ≡ n + 1) × (0 < length left) × (Begins line left → ⊥)
MissesLine line n left (Unfinished lines) = (lines ≡ n) × (length left ≡ 0)
MissesLine line n left Memory = ⊥

-- # The opening

-- a fault in the opening comes before so many operations
abbrev pub WithinOpening : ℕ → Option ℕ → Type 0
WithinOpening count None = Unit {0}
WithinOpening count (Some k) = k < count

module _ {Plan Request Reply Entry State : Type 0} (W : Wording Plan Request Reply Entry State) where
  -- # Operations that should come

  -- the lines of an entry's operations, and what stands behind them
  pub record OpsRead (form : Form) (plan : Plan) (ops : List Op) (left rest : List ℕ) : Type 0 where
    pub lines : List (List ℕ)
    pub tells : TellsOps W form plan ops lines
    pub is : left ≡ text_of lines ++ rest

  -- a text has lines of some of these operations, and then nothing
  pub record OpsEnd (form : Form) (plan : Plan) (ops : List Op) (left : List ℕ) : Type 0 where
    pub done : List (List ℕ)
    pub later : List (List ℕ)
    pub tells : TellsOps W form plan ops (done ++ later)
    pub lacks : 0 < length later
    pub is : left ≡ text_of done

  -- a text has lines of some of these operations, and then something else than a line that may come next
  pub record OpsBreak (form : Form) (plan : Plan) (ops : List Op) (left : List ℕ) : Type 0 where
    pub done : List (List ℕ)
    pub later : List (List ℕ)
    pub tells : TellsOps W form plan ops (done ++ later)
    pub lacks : 0 < length later
    pub rest : List ℕ
    pub is : left ≡ text_of done ++ rest
    pub some : 0 < length rest
    pub other : (l : List ℕ) (more : List (List ℕ)) → TellsOps W form plan ops (done ++ l ∷ more) → Begins (with_feed l) rest → ⊥

  -- what is told of a text, behind n lines, that should begin with the lines of an entry's operations and doesn't
  abbrev pub StopsInOps : Form → Plan → List Op → ℕ → List ℕ → AuditFault → Type 0
  StopsInOps form plan ops n left (TooLong bound) = ⊥
  StopsInOps form plan ops n left (Wrong line) = (breaks : OpsBreak form plan ops left) × (line ≡ n + length breaks.done + 1)
  StopsInOps form plan ops n left (Unfinished lines) = (ends : OpsEnd form plan ops left) × (lines ≡ n + length ends.done)
  StopsInOps form plan ops n left Memory = Unit {0}

  -- # Entries that may come

  -- what came of a request that was asked in state S, with this fault
  abbrev pub outcome_at : Plan → State → Request → ℕ → List (List ℕ)
  outcome_at plan S q fault = if fault == 0 then W.reply_words (W.kind.answer plan S q) else fault_words (fault - 1)

  -- a fault comes at one of the operations
  abbrev pub FitsAt : Plan → State → Request → ℕ → Type 0
  FitsAt plan S q fault = (fault ≡ 0) ⊎ (fault ≤ length (W.kind.ops plan S q))

  -- an entry that may come next, where the plan is in state S and this is left of a script
  pub record MayCome (plan : Plan) (S : State) (queues : List (List Request)) (e : Entry) : Type 0 where
    pub entry : W.kind.IsEntry plan e
    pub fits : histories.FaultFits W.kind plan S e
    pub next : IsNext W queues (W.kind.request e)

  -- the text begins with the line of no such entry, numbered n
  abbrev pub NoEntry : Plan → State → ℕ → List (List Request) → List ℕ → Type 0
  NoEntry plan S n queues left = (e : Entry) → MayCome plan S queues e → Begins (with_feed (entry_line W plan S n e)) left → ⊥

  -- the lines of entry n, and what stands behind them
  pub record EntryRead (form : Form) (plan : Plan) (S : State) (n : ℕ) (e : Entry) (left rest : List ℕ) : Type 0 where
    pub ops : List (List ℕ)
    pub tells : TellsOps W form plan (histories.entry_ops W.kind plan S e) ops
    pub is : left ≡ text_of (entry_line W plan S n e ∷ ops) ++ rest

  -- the text begins with the line of such an entry, and stops in its operations; there are `before` lines before it
  pub record StopsBehind (form : Form) (plan : Plan) (S : State) (n : ℕ) (queues : List (List Request)) (before : ℕ) (left : List ℕ)
      (fault : AuditFault) : Type 0 where
    pub entry : Entry
    pub may : MayCome plan S queues entry
    pub rest : List ℕ
    pub is : left ≡ with_feed (entry_line W plan S n entry) ++ rest
    pub stops : StopsInOps form plan (histories.entry_ops W.kind plan S entry) (before + 1) rest fault

  -- what is told of a text, behind so many lines, that should begin with the lines of an entry and doesn't
  abbrev pub StopsAtEntry : Form → Plan → State → ℕ → List (List Request) → ℕ → List ℕ → AuditFault → Type 0
  StopsAtEntry form plan S n queues before left fault =
      (fault ≡ Memory) ⊎ (((fault ≡ Wrong (before + 1)) × NoEntry plan S n queues left)
      ⊎ StopsBehind form plan S n queues before left fault)

  -- # The opening

  -- the text begins with no first line
  abbrev pub NoOpening : Plan → List ℕ → Type 0
  NoOpening plan text = (f : Option ℕ) → WithinOpening (length (W.opening_ops plan)) f → Begins (with_feed (opening_line f)) text → ⊥

  -- the text doesn't begin with the first operation of the opening; it does
  abbrev pub LacksFirst : Plan → List ℕ → Type 0
  LacksFirst plan left = (o : Op) (os : List Op) → W.opening_ops plan ≡ o ∷ os → Begins (with_feed (op_line W plan o)) left → ⊥

  abbrev pub HasFirst : Plan → List ℕ → Type 0
  HasFirst plan left = (o : Op) (os : List Op) → W.opening_ops plan ≡ o ∷ os → Begins (with_feed (op_line W plan o)) left

  -- the lines of an opening, so many, and what stands behind them: where a trace left the operations out, not their first
  pub record OpeningRead (form : Form) (plan : Plan) (o : Option ℕ) (text : List ℕ) (before : ℕ) (left : List ℕ) : Type 0 where
    pub first : List (List ℕ)
    pub opens : Opens W form plan o first
    pub lines : before ≡ length first
    pub is : text ≡ text_of first ++ left
    pub out : form ≡ Trace → first ≡ codes "open" ∷ [] → LacksFirst plan left

  -- the text begins with a first line, and stops in the operations of the opening; in a trace that it opens behind their first
  pub record StopsInOpening (form : Form) (plan : Plan) (text : List ℕ) (fault : AuditFault) : Type 0 where
    pub opening : Option ℕ
    pub within : WithinOpening (length (W.opening_ops plan)) opening
    pub rest : List ℕ
    pub is : text ≡ with_feed (opening_line opening) ++ rest
    pub stops : StopsIn (map (op_line W plan) (opened opening (W.opening_ops plan))) 1 rest fault
    pub has : form ≡ Trace → opening ≡ None → HasFirst plan rest

  -- what is told of a text that should begin with the lines of an opening and doesn't
  abbrev pub StopsAtOpening : Form → Plan → List ℕ → AuditFault → Type 0
  StopsAtOpening form plan text fault =
      (fault ≡ Memory) ⊎ (((fault ≡ Unfinished 0) × (length text ≡ 0))
      ⊎ (((fault ≡ Wrong 1) × (0 < length text) × NoOpening plan text) ⊎ StopsInOpening form plan text fault))

  -- # Texts

  -- what is told of a text that isn't whole
  abbrev pub Refuses : Form → Plan → List Request → List ℕ → AuditFault → Type 0
  Refuses form plan asked text (TooLong bound) = ⊥
  Refuses form plan asked text (Wrong line) = IsWrongAs W form plan asked text line
  Refuses form plan asked text (Unfinished lines) = (lines ≡ length (pieces_of text)) × IsUnfinishedAs W form plan asked text
  Refuses form plan asked text Memory = Unit {0}

  -- the requests of processors of the plan
  abbrev pub known : Plan → List Request → List Request
  known plan asked = filter (λ q. nat_lt (W.cpu q) (W.cpus plan)) asked
