-- Lines of operations by the texts of a plan's paths.
use Rattle.std.proofs.Common.{◌≡◌, ℕ, List, [], ◌∷◌, map, refl, ap₂}
use Rattle.acpi_values.specs.declared.operation.Op.{Op}
use Rattle.acpi_values.specs.declared.operation.Op.TheVariants.{Set, Enter}
use Rattle.pw_text.specs.HistoryText.{op_line_by}
use Rattle.pw_text.specs.Paths.{text_at}
use Rattle.pw_history.specs.HistoryText.{op_line}
use Rattle.pw_history.specs.Paths.{ArePaths}
use Rattle.pw_history.specs.Wording.{Wording}

module _ {Plan Request Reply Entry State : Type 0} (W : Wording Plan Request Reply Entry State) (plan : Plan) (texts : List (List ℕ)) (named : ArePaths W plan texts) where
  pub line_by : (o : Op) → op_line_by (text_at texts) o ≡ op_line W plan o
  line_by (Set p r v) = rw (named p) refl
  line_by (Enter p composite) = rw (named p) refl

  pub lines_by : (ops : List Op) → map (op_line_by (text_at texts)) ops ≡ map (op_line W plan) ops
  lines_by [] = refl
  lines_by (o ∷ ops) = ap₂ (λ (l : List ℕ) (ls : List (List ℕ)). l ∷ ls) (line_by o) (lines_by ops)
