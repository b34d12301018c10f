-- Lines of operations by the same paths.
use Rattle.std.proofs.Common.{◌≡◌, ◌∙◌, ℕ, List, [], ◌∷◌, ◌++◌, map, take, codes, refl, ap, ap₂, sym, Option, Some, None}
use Rattle.std.specs.List.{flat_map}
use Rattle.std.proofs.lemmas.List.Folds.{flat_map-map}
use Rattle.acpi_values.specs.declared.operation.Op.{Op}
use Rattle.acpi_values.specs.declared.operation.Op.TheVariants.{Set, Enter}
use Rattle.pw_text.specs.HistoryText.{fault_words, op_line_by, opened_lines}
use Rattle.pw_text.specs.Lines.{spaced, with_feed}

map_same : (f g : Op → List ℕ) → ((o : Op) → f o ≡ g o) → (ops : List Op) → map f ops ≡ map g ops
map_same f g h [] = refl
map_same f g h (o ∷ ops) = ap₂ (λ (l : List ℕ) (ls : List (List ℕ)). l ∷ ls) (h o) (map_same f g h ops)

module _ (f g : ℕ → List ℕ) (same : (p : ℕ) → f p ≡ g p) where
  op_same : (o : Op) → op_line_by f o ≡ op_line_by g o
  op_same (Set p r v) = rw (same p) refl
  op_same (Enter p composite) = rw (same p) refl

  pub ops_same : (ops : List Op) → flat_map (λ o. op_line_by f o ++ (10 ∷ [])) ops ≡ flat_map (λ o. op_line_by g o ++ (10 ∷ [])) ops
  ops_same ops =
      sym (flat_map-map with_feed (op_line_by f) ops) ∙ ap (flat_map with_feed) (map_same (op_line_by f) (op_line_by g) op_same ops)
      ∙ flat_map-map with_feed (op_line_by g) ops

  pub opened_same : (ops : List Op) (fault : Option ℕ) → opened_lines (op_line_by f) ops fault ≡ opened_lines (op_line_by g) ops fault
  opened_same ops None = ap (λ (ls : List (List ℕ)). codes "open" ∷ ls) (map_same (op_line_by f) (op_line_by g) op_same ops)
  opened_same ops (Some k) =
      ap (λ (ls : List (List ℕ)). spaced (codes "open" ∷ codes "->" ∷ fault_words k) ∷ ls) (map_same (op_line_by f) (op_line_by g) op_same (take k ops))
