-- Lines of operations by the texts of a plan's paths.
use Rattle.std.proofs.Common.{◌≡◌, ℕ, List, [], ◌∷◌, ◌++◌, ap, Option}
use Rattle.std.specs.List.{flat_map}
use Rattle.acpi_values.specs.declared.operation.Op.{Op}
use Rattle.pw_text.specs.Lines.{text_of}
use Rattle.pw_text.specs.HistoryText.{op_line_by, opened_lines}
use Rattle.pw_text.specs.Paths.{text_at}
use Rattle.pw_text.proofs.Pathed.{opened_same, ops_same}
use Rattle.pw_history.specs.Wording.{Wording}
use Rattle.pw_history.specs.HistoryText.{op_line, opening_lines}
use Rattle.pw_history.specs.Paths.{ArePaths}

module _ {P Q A E S : Type 0} (W : Wording P Q A E S) (plan : P) (texts : List (List ℕ)) (named : ArePaths W plan texts) where
  pub plan_ops : (ops : List Op) → flat_map (λ o. op_line_by (text_at texts) o ++ (10 ∷ [])) ops ≡ flat_map (λ o. op_line W plan o ++ (10 ∷ [])) ops
  plan_ops ops = ops_same (text_at texts) (W.path plan) named ops

  pub plan_opened : (fault : Option ℕ) → text_of (opened_lines (op_line_by (text_at texts)) (W.opening_ops plan) fault) ≡ text_of (opening_lines W plan fault)
  plan_opened fault = ap text_of (opened_same (text_at texts) (W.path plan) named (W.opening_ops plan) fault)
