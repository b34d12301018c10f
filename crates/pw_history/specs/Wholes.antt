-- Whole texts, and the lines that begin one.
use Rattle.std.specs.Prelude.{◌≡◌, ◌==◌, ◌<◌, ◌⊎◌, ◌+◌, ◌++◌, ℕ, List, [], ◌∷◌, map, take, length, codes, Option, Some, None, if◌then◌else◌}
use Rattle.pw_kind.specs.History as histories
use Rattle.pw_text.specs.Lines.{spaced, with_feed}
use Rattle.pw_text.specs.HistoryText.{fault_words}
use Rattle.pw_history.specs.Wording.{Wording}
use Rattle.pw_history.specs.HistoryText.{entry_line, history_lines, history_text, op_line}
use Rattle.pw_history.specs.Asked.{IsStart, Lawful}

-- # Lines of a text

-- a byte before the first of these
abbrev pub onto_first : ℕ → List (List ℕ) → List (List ℕ)
onto_first b [] = (b ∷ []) ∷ []
onto_first b (l ∷ ls) = (b ∷ l) ∷ ls

-- The lines of a text, each with its line feed, and what follows the last line feed, unless that is empty.
abbrev pub pieces_of : List ℕ → List (List ℕ)
pieces_of [] = []
pieces_of (b ∷ bs) = if b == 10 then (10 ∷ []) ∷ pieces_of bs else onto_first b (pieces_of bs)

-- It has its line feed.
pub record HasFeed (l : List ℕ) : Type 0 where
  pub line : List ℕ
  pub is : l ≡ with_feed line

module _ {P Q A E S : Type 0} (W : Wording P Q A E S) where
  -- # Whole texts

  -- The text is that of what may come of these requests.
  pub record IsWhole (plan : P) (asked : List Q) (text : List ℕ) : Type 0 where
    pub opening : Option ℕ
    pub entries : List E
    pub lawful : Lawful W plan asked opening entries
    pub is : text ≡ history_text W plan opening entries

  -- These are the first lines of a whole text.
  pub record BeginsWhole (plan : P) (asked : List Q) (lines : List (List ℕ)) : Type 0 where
    pub text : List ℕ
    pub whole : IsWhole plan asked text
    pub first : take (length lines) (pieces_of text) ≡ lines

  -- # Beginnings

  -- an opening that a fault ended, or a start
  abbrev pub Starts : P → List Q → Option ℕ → List E → Type 0
  Starts plan asked (Some k) es = (k < length (W.opening_ops plan)) × (es ≡ [])
  Starts plan asked None es = IsStart W plan asked es

  -- These are the first lines of one of them.
  pub record BeginsStart (plan : P) (asked : List Q) (lines : List (List ℕ)) : Type 0 where
    pub opening : Option ℕ
    pub entries : List E
    pub starts : Starts plan asked opening entries
    pub first : take (length lines) (map with_feed (history_lines W plan opening entries)) ≡ lines

  -- # The next line

  -- the line of an entry behind a history
  abbrev pub next_line : P → List E → E → List ℕ
  next_line plan es e = entry_line W plan (histories.replay W.kind plan es) (1 + length es) e

  -- the lines of its operations
  abbrev pub next_op_lines : P → List E → E → List (List ℕ)
  next_op_lines plan es e = map (op_line W plan) (histories.entry_ops W.kind plan (histories.replay W.kind plan es) e)

  -- the lines of a history, and that of an entry behind it with the first j of its operations
  abbrev pub lines_within : P → List E → E → ℕ → List (List ℕ)
  lines_within plan es e j = history_lines W plan None es ++ next_line plan es e ∷ take j (next_op_lines plan es e)

  -- An entry with this line goes on with this history.
  pub record GoesOnWith (plan : P) (asked : List Q) (es : List E) (l : List ℕ) : Type 0 where
    pub entry : E
    pub starts : IsStart W plan asked (es ++ entry ∷ [])
    pub line : l ≡ next_line plan es entry

  -- that a fault ended the opening after fewer operations than it has
  abbrev pub IsFaultLine : P → List ℕ → Type 0
  IsFaultLine plan l = (k : ℕ) × (k < length (W.opening_ops plan)) × (l ≡ spaced (codes "open" ∷ codes "->" ∷ fault_words k))

  -- the line `open`, or that of a fault in the opening
  abbrev pub IsFirstLine : P → List ℕ → Type 0
  IsFirstLine plan l = (l ≡ codes "open") ⊎ IsFaultLine plan l
