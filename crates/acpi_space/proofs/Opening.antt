-- Which place a Scope opens, in words and as it is computed.
use Rattle.std.proofs.Common.{◌≡◌, ◌<◌, ◌≤◌, ◌-◌, ◌==◌, ◌&&◌, not, ℕ, zero, suc, Bool, true, false, List, [], ◌∷◌, ◌++◌, length, take, drop, get_or, if◌then◌else◌}
use Rattle.std.proofs.Common.{refl, sym, ap, subst, ◌∙◌, arith, inl, inr}
use Rattle.std.proofs.lemmas.Bool.{false≢true, cases_lt}
use Rattle.std.proofs.lemmas.Bool.Decides.{eqb_tells}
use Rattle.std.proofs.lemmas.List.{take-append-drop, take_at, take_all}
use Rattle.aml_data.specs.declared.path.Path.{Path}
use Rattle.acpi_space.specs.Places.{Place, place_of, up, is_known, is_single, opened, IsKnown, Opens, opens_there, opens_nearest, opens_new}
use Rattle.acpi_space.proofs.Known.{begins_from, begins_to, or_true, true_or, begin, found_there, found_nowhere}
use Rattle.pw_base.proofs.Facts.{choice}

-- ---- known places

known_to : (known : List Place) (q : Place) → is_known known q ≡ true → IsKnown known q
known_to [] q e = absurd (false≢true e)
known_to (p ∷ ps) q e = elim (or_true (begin p q) (is_known ps q) e) [
  | inl here ↦ (drop (length q) p, (0, omega arith, sym (take-append-drop (length q) p) ∙ ap (λ (front : Place). front ++ drop (length q) p) (begins_to p q here)))
  | inr more ↦ let rest = known_to ps q more in (rest.0, (suc rest.1.0, (let l = rest.1.1 in omega (arith, l)), rest.1.2))
]

known_from_at : (known : List Place) (q rest : Place) (i : ℕ) → i < length known → get_or known i (q ++ rest) ≡ q ++ rest → is_known known q ≡ true
known_from_at [] q rest i l e = absurd (let impossible = l in omega arith)
known_from_at (p ∷ ps) q rest zero l e = true_or (begin p q) (is_known ps q) (inl (begins_from p q (ap (take (length q)) e ∙ take_at q rest (length q) refl)))
known_from_at (p ∷ ps) q rest (suc i) l e = true_or (begin p q) (is_known ps q) (inr (known_from_at ps q rest i (omega (arith, l)) e))

known_from : (known : List Place) (q : Place) → IsKnown known q → is_known known q ≡ true
known_from known q (rest, (i, l, e)) = known_from_at known q rest i l e

unknown : (known : List Place) (q : Place) → (IsKnown known q → ⊥) → is_known known q ≡ false
unknown known q none = elim (choice (is_known known q)) [
  | inl there ↦ absurd (none (known_to known q there))
  | inr missing ↦ missing
]

-- ---- both ways

bare : (scope : Place) (root : Bool) (ups count : ℕ) → (not root && (ups == 0) && (count == 1)) ≡ true → (if root then [] else up ups scope) ≡ scope
bare scope true ups count e = absurd (false≢true e)
bare scope false ups count e = elim (eqb_tells ups 0) [
  | inl same ↦ rw same.1 (take_all (length scope - 0) scope (omega arith))
  | inr apart ↦ absurd (false≢true (subst (λ b. (not false && b && (count == 1)) ≡ true) apart.0 e))
]

single_here : (scope : Place) (path : Path) → is_single path ≡ true → place_of scope path ≡ scope ++ path.segs
single_here scope path single = ap (λ (front : Place). front ++ path.segs) (bare scope path.root path.ups (length path.segs) single)

pub opened_by : (known : List Place) (scope whole : Place) (path : Path) → Opens known scope path whole → whole ≡ opened known scope path
opened_by known scope whole path (opens_there other) = rw other refl
opened_by known scope whole path (opens_nearest single n le there further) =
    sym (rw single (found_there known scope path.segs (place_of scope path) (length scope) n le (known_from known (take n scope ++ path.segs) there)
    (λ m more fits. unknown known (take m scope ++ path.segs) (further m more fits))))
opened_by known scope whole path (opens_new single none) =
    sym (rw single (found_nowhere known scope path.segs (place_of scope path) (length scope) (λ m fits. unknown known (take m scope ++ path.segs) (none m fits)) ∙ single_here scope path single))

from_single : (known : List Place) (scope : Place) (path : Path) (n : ℕ) → is_single path ≡ true → n ≤ length scope
    → ((m : ℕ) → n < m → m ≤ length scope → IsKnown known (take m scope ++ path.segs) → ⊥) → (whole : Place) × Opens known scope path whole
from_single known scope path zero single le further = elim (choice (is_known known (take 0 scope ++ path.segs))) [
  | inl there ↦ (take 0 scope ++ path.segs, opens_nearest single 0 le (known_to known (take 0 scope ++ path.segs) there) further)
  | inr missing ↦ (
    scope ++ path.segs,
    opens_new single (λ m fits among. elim (cases_lt 0 m) [
      | inl more ↦ further m more fits among
      | inr none ↦
          let e : m ≡ 0 = omega (arith, none) in
          false≢true (sym missing ∙ known_from known (take 0 scope ++ path.segs) (subst (λ k. IsKnown known (take k scope ++ path.segs)) e among))
    ]),
  )
]
from_single known scope path (suc n) single le further = elim (choice (is_known known (take (suc n) scope ++ path.segs))) [
  | inl there ↦ (take (suc n) scope ++ path.segs, opens_nearest single (suc n) le (known_to known (take (suc n) scope ++ path.segs) there) further)
  | inr missing ↦ from_single known scope path n single (omega (arith, le)) (λ m more fits among. elim (cases_lt (suc n) m) [
    | inl past ↦ further m past fits among
    | inr here ↦
        let e : m ≡ suc n = omega (arith, more, here) in
        false≢true (sym missing ∙ known_from known (take (suc n) scope ++ path.segs) (subst (λ k. IsKnown known (take k scope ++ path.segs)) e among))
  ])
]

some_opened : (known : List Place) (scope : Place) (path : Path) → (whole : Place) × Opens known scope path whole
some_opened known scope path = elim (choice (is_single path)) [
  | inl single ↦ from_single known scope path (length scope) single (omega arith) (λ m more fits among. absurd (omega (arith, more, fits)))
  | inr other ↦ (place_of scope path, opens_there other)
]

pub opened_to : (known : List Place) (scope whole : Place) (path : Path) → whole ≡ opened known scope path → Opens known scope path whole
opened_to known scope whole path e =
    let some = some_opened known scope path in
    subst (Opens known scope path) (opened_by known scope some.0 path some.1 ∙ sym e) some.1
