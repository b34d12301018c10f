-- Lines of operations in their parts.
use Rattle.std.proofs.Common.{◌≡◌, ◌∙◌, ℕ, List, [], ◌∷◌, ◌++◌, append_assoc, codes, decimal, refl, ap, sym}
use Rattle.acpi_values.specs.declared.operation.Composite.{Composite}
use Rattle.acpi_values.specs.declared.operation.Op.TheVariants.{Set, Enter}
use Rattle.acpi_values.specs.declared.register.Register.{Register}
use Rattle.pw_text.specs.Text.{hex_text}
use Rattle.pw_text.specs.HistoryText.{op_line_by, register_text}
use Rattle.pw_text.specs.inner.Front.{front_text}

fields : (a b c d h t : List ℕ)
    → (a ++ 44 ∷ (b ++ 44 ∷ (c ++ 44 ∷ (d ++ 44 ∷ [])))) ++ (h ++ t) ≡ (a ++ 44 ∷ (b ++ 44 ∷ (c ++ 44 ∷ (d ++ 44 ∷ h)))) ++ t
fields a b c d h t = simp append_assoc refl

closed : (r : Register) (rest : List ℕ) → front_text r ++ (hex_text r.address ++ (93 ∷ rest)) ≡ 32 ∷ (register_text r ++ rest)
closed r rest =
    let all = decimal r.space ++ 44 ∷ (decimal r.width ++ 44 ∷ (decimal r.offset ++ 44 ∷ (decimal r.access ++ 44 ∷ hex_text r.address))) in
    ap (λ (l : List ℕ). 32 ∷ 91 ∷ l)
    (fields (decimal r.space) (decimal r.width) (decimal r.offset) (decimal r.access) (hex_text r.address) (93 ∷ rest) ∙ sym (append_assoc all (93 ∷ []) rest))

placed : (path : List ℕ) (r : Register) (rest : List ℕ) → (path ++ (front_text r ++ hex_text r.address)) ++ (93 ∷ rest) ≡ (path ++ (32 ∷ register_text r)) ++ rest
placed path r rest =
    append_assoc path (front_text r ++ hex_text r.address) (93 ∷ rest)
    ∙ ap (λ (l : List ℕ). path ++ l) (append_assoc (front_text r) (hex_text r.address) (93 ∷ rest) ∙ closed r rest)
    ∙ sym (append_assoc path (32 ∷ register_text r) rest)

pub enter_line : (path : ℕ → List ℕ) (p : ℕ) (c : Composite)
    → codes "  enter " ++ ((path p ++ (front_text c.register ++ hex_text c.register.address)) ++ codes "]\n") ≡ op_line_by path (Enter p c) ++ (10 ∷ [])
enter_line path p c = ap (λ (l : List ℕ). codes "  enter " ++ l) (placed (path p) c.register (10 ∷ []))

valued : (a r v t : List ℕ) → (a ++ (32 ∷ r)) ++ (32 ∷ (v ++ t)) ≡ (a ++ 32 ∷ (r ++ 32 ∷ v)) ++ t
valued a r v t = simp append_assoc refl

pub set_line : (path : ℕ → List ℕ) (p : ℕ) (r : Register) (v : ℕ)
    → codes "  set " ++ ((path p ++ (front_text r ++ hex_text r.address)) ++ (codes "] " ++ (hex_text v ++ (10 ∷ [])))) ≡ op_line_by path (Set p r v) ++ (10 ∷ [])
set_line path p r v =
    ap (λ (l : List ℕ). codes "  set " ++ l) (placed (path p) r (32 ∷ (hex_text v ++ (10 ∷ []))) ∙ valued (path p) (register_text r) (hex_text v) (10 ∷ []))
