-- The text of an entry and of an opening in its parts.
use Rattle.std.proofs.Common.{◌≡◌, ◌∙◌, ℕ, List, [], ◌∷◌, ◌++◌, map, take, ap, sym, append_assoc, codes, decimal, Option, Some, None}
use Rattle.std.specs.List.{flat_map}
use Rattle.std.proofs.lemmas.List.Folds.{flat_map-map}
use Rattle.acpi_values.specs.declared.operation.Op.{Op}
use Rattle.pw_text.specs.Behind.{asked_head, behind}
use Rattle.pw_text.specs.HistoryText.{asked_line, opened_lines}
use Rattle.pw_text.specs.Lines.{text_of}
use Rattle.pw_text.specs.Openings.{opened, opening_line}
use Rattle.pw_text.proofs.Spacing.{behind_append, behind_more, spaced_behind}

-- # Entries

four : (a b r s o : List ℕ) → (a ++ (b ++ (r ++ s))) ++ o ≡ a ++ (b ++ (r ++ (s ++ o)))
four a b r s o = append_assoc a (b ++ (r ++ s)) o ∙ ap (λ (l : List ℕ). a ++ l) (append_assoc b (r ++ s) o ∙ ap (λ (l : List ℕ). b ++ l) (append_assoc r s o))

pub asked_parts : (n : ℕ) (path : List ℕ) (asked out : List (List ℕ)) → asked_line n path asked out ≡ asked_head n path asked ++ behind out
asked_parts n path asked out =
    let arrow : behind (codes "->" ∷ out) ≡ codes " ->" ++ behind out = behind_more (codes "->") out in
    let words : behind (asked ++ (codes "->" ∷ out)) ≡ behind asked ++ (codes " ->" ++ behind out) = behind_append asked (codes "->" ∷ out) ∙ ap (λ (l : List ℕ). behind asked ++ l) arrow in
    let named : behind (path ∷ (asked ++ (codes "->" ∷ out))) ≡ (32 ∷ path) ++ (behind asked ++ (codes " ->" ++ behind out)) = behind_more path (asked ++ (codes "->" ∷ out)) ∙ ap
    (λ (l : List ℕ). (32 ∷ path) ++ l) words in
    spaced_behind (decimal n) (path ∷ (asked ++ (codes "->" ∷ out))) ∙ ap (λ (l : List ℕ). decimal n ++ l) named
    ∙ sym (four (decimal n) (32 ∷ path) (behind asked) (codes " ->") (behind out))

pub asked_text : (line : Op → List ℕ) (n : ℕ) (path : List ℕ) (asked out : List (List ℕ)) (ops : List Op)
    → asked_head n path asked ++ (behind out ++ (10 ∷ flat_map (λ o. line o ++ (10 ∷ [])) ops)) ≡ text_of (asked_line n path asked out ∷ map line ops)
asked_text line n path asked out ops =
    let head = asked_head n path asked in
    let done = flat_map (λ (o : Op). line o ++ (10 ∷ [])) ops in
    sym (append_assoc head (behind out) (10 ∷ done))
    ∙ ap (λ (l : List ℕ). l ++ (10 ∷ done)) (sym (asked_parts n path asked out))
    ∙ sym (append_assoc (asked_line n path asked out) (10 ∷ []) done)
    ∙ ap (λ (l : List ℕ). (asked_line n path asked out ++ (10 ∷ [])) ++ l) (sym (flat_map-map (λ (l : List ℕ). l ++ (10 ∷ [])) line ops))

-- # Openings

pub opened_text : (line : Op → List ℕ) (ops : List Op) (fault : Option ℕ)
    → opening_line fault ++ (10 ∷ flat_map (λ o. line o ++ (10 ∷ [])) (opened fault ops)) ≡ text_of (opened_lines line ops fault)
opened_text line ops None = ap (λ (l : List ℕ). codes "open" ++ (10 ∷ l)) (sym (flat_map-map (λ (l : List ℕ). l ++ (10 ∷ [])) line ops))
opened_text line ops (Some k) =
    let done = take k ops in
    let lead = codes "open -> register fault after " in
    ap (λ (l : List ℕ). (lead ++ decimal k) ++ (10 ∷ l)) (sym (flat_map-map (λ (l : List ℕ). l ++ (10 ∷ [])) line done))
    ∙ sym (append_assoc (lead ++ decimal k) (10 ∷ []) (text_of (map line done)))
