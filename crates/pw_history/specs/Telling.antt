-- What a printed text tells of a history.
use Rattle.std.specs.Prelude.{◌≡◌, ◌<◌, ◌+◌, ◌^◌, ℕ, Option, Some, None, List, ◌∷◌, ◌++◌, codes, decimal, length}
use Rattle.std.specs.List.{AllByRecursion}
use Rattle.acpi_values.specs.declared.operation.Op.{Op}
use Rattle.pw_history.specs.Wording.{Wording}
use Rattle.pw_history.specs.HistoryText.{entry_line, op_line, outcome_words}

-- each byte is above this one
abbrev pub Over : ℕ → List ℕ → Type 0
Over c w = AllByRecursion (λ b. c < b) w

-- after how many operations a fault ended the opening, if one did: a number of 32 bits
abbrev pub IsNarrowFault : Option ℕ → Type 0
IsNarrowFault None = Unit {0}
IsNarrowFault (Some k) = k < 2 ^ 32

module _ {P Q A E S : Type 0} (W : Wording P Q A E S) where
  -- Words that tell: none has a space, no line of an operation has a line feed, and the line of an entry whose numbers are narrow tells
  -- it, but for its seat.
  pub record WordsTell (plan : P) (IsNarrow : E → Type 0) : Type 0 where
    pub words : (s : S) (n : ℕ) (e : E) → AllByRecursion (Over 32)
        (decimal n ∷ W.path plan (W.asker e) ∷ W.request_words (W.kind.request e) ++ codes "->" ∷ outcome_words W plan s e)
    pub operations : (o : Op) → Over 10 (op_line W plan o)
    pub entries : (s : S) (n : ℕ) (e f : E) → W.kind.IsEntry plan e → W.kind.IsEntry plan f → IsNarrow e → IsNarrow f
        → entry_line W plan s n e ≡ entry_line W plan s n f → W.unseated e ≡ W.unseated f

  -- Entries that fit requests: what an entry asks is asked in its processor's name, one of the plan's; what it asks, its fault, and
  -- whether it is one of the plan don't depend on its seat; and the entry of a request asks it, faultless.
  pub record EntriesFit (plan : P) : Type 0 where
    pub asker : (e : E) → W.cpu (W.kind.request e) ≡ W.asker e
    pub within : (e : E) → W.kind.IsEntry plan e → W.asker e < W.cpus plan
    pub same_request : (e : E) → W.kind.request (W.unseated e) ≡ W.kind.request e
    pub same_fault : (e : E) → W.kind.fault (W.unseated e) ≡ W.kind.fault e
    pub seated : (e : E) → W.kind.IsEntry plan e → W.kind.IsEntry plan (W.unseated e)
    pub unseated : (e : E) → W.kind.IsEntry plan (W.unseated e) → W.kind.IsEntry plan e
    pub request : (q : Q) → W.kind.request (W.entry q) ≡ q
    pub faultless : (q : Q) → W.kind.fault (W.entry q) ≡ 0
    pub entry : (q : Q) → W.cpu q < W.cpus plan → W.kind.IsEntry plan (W.entry q)

  -- Entries that are made: that of a request with a fault asks it, has the fault, is one of the plan, and has the seat 0.
  pub record EntriesMade (plan : P) : Type 0 where
    pub request : (q : Q) (k : ℕ) → W.kind.request (W.faulted q k) ≡ q
    pub fault : (q : Q) (k : ℕ) → W.kind.fault (W.faulted q k) ≡ k
    pub entry : (q : Q) (k : ℕ) → W.cpu q < W.cpus plan → W.kind.IsEntry plan (W.faulted q k)
    pub seat : (q : Q) (k : ℕ) → W.seat (W.faulted q k) ≡ 0

  -- Paths that tell: no two processors of the plan have the same, none has a space; and what is asked has a word behind one.
  pub record PathsTell (plan : P) : Type 0 where
    pub apart : (p q : ℕ) → p < W.cpus plan → q < W.cpus plan → W.path plan p ≡ W.path plan q → p ≡ q
    pub words : (p : ℕ) → Over 32 (W.path plan p)
    pub spaced : (q : Q) → (w : List ℕ) × (ws : List (List ℕ)) × (W.request_words q ≡ w ∷ ws)

  -- Numbers of 32 bits: an entry has such where its request has and its fault is one; and no request has as many operations, nor an
  -- opening with its line as many lines.
  pub record NumbersFit (plan : P) (IsNarrow : E → Type 0) (IsNarrowRequest : Q → Type 0) : Type 0 where
    pub entry : (e : E) → W.kind.IsEntry plan e → IsNarrowRequest (W.kind.request e) → W.kind.fault e < 2 ^ 32 → IsNarrow e
    pub requests : (s : S) (q : Q) → length (W.kind.ops plan s q) < 2 ^ 32
    pub opening : length (W.opening_ops plan) + 1 < 2 ^ 32

  -- All three: texts of this plan's histories tell them.
  pub record TextsTell (plan : P) (IsNarrow : E → Type 0) (IsNarrowRequest : Q → Type 0) : Type 0 where
    pub words : WordsTell plan IsNarrow
    pub entries : EntriesFit plan
    pub numbers : NumbersFit plan IsNarrow IsNarrowRequest
