-- The printed text of a history, of any kind of coordination.
use Rattle.std.specs.Prelude.{◌==◌, ◌+◌, ◌-◌, ℕ, List, [], ◌∷◌, ◌++◌, map, Option, if◌then◌else◌}
use Rattle.acpi_values.specs.declared.operation.Op.{Op}
use Rattle.pw_kind.specs.History as histories
use Rattle.pw_text.specs.HistoryText.{asked_line, fault_words, op_line_by, opened_lines}
use Rattle.pw_text.specs.Lines.{text_of}
use Rattle.pw_history.specs.Wording.{Wording}

module _ {P Q A E S : Type 0} (W : Wording P Q A E S) where
  -- what came of an entry that was asked in state s
  abbrev pub outcome_words : P → S → E → List (List ℕ)
  outcome_words plan s e =
      if W.kind.fault e == 0 then W.reply_words (W.kind.answer plan s (W.kind.request e)) else fault_words (W.kind.fault e - 1)

  abbrev pub op_line : P → Op → List ℕ
  op_line plan = op_line_by (W.path plan)

  -- request n, of processor p, and what came of it
  abbrev pub request_line : P → ℕ → ℕ → Q → List (List ℕ) → List ℕ
  request_line plan n p q outcome = asked_line n (W.path plan p) (W.request_words q) outcome

  -- the line of entry n, asked in state s
  abbrev pub entry_line : P → S → ℕ → E → List ℕ
  entry_line plan s n e = request_line plan n (W.asker e) (W.kind.request e) (outcome_words plan s e)

  -- and the operations that were done
  abbrev pub entry_lines : P → S → ℕ → E → List (List ℕ)
  entry_lines plan s n e = entry_line plan s n e ∷ map (op_line plan) (histories.entry_ops W.kind plan s e)

  -- those of the entries from n on
  abbrev pub lines_from : P → S → ℕ → List E → List (List ℕ)
  lines_from plan s n [] = []
  lines_from plan s n (e ∷ es) = entry_lines plan s n e ++ lines_from plan (histories.after_entry W.kind plan s e) (n + 1) es

  abbrev pub opening_lines : P → Option ℕ → List (List ℕ)
  opening_lines plan fault = opened_lines (op_line plan) (W.opening_ops plan) fault

  unfoldable pub history_lines : P → Option ℕ → List E → List (List ℕ)
  history_lines plan fault es = opening_lines plan fault ++ lines_from plan (W.kind.opening plan) 1 es

  -- The text of a history, or of an opening that a fault ended.
  unfoldable pub history_text : P → Option ℕ → List E → List ℕ
  history_text plan fault es = text_of (history_lines plan fault es)
