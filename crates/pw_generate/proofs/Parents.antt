-- Which container is the parent of an object.
use Rattle.std.proofs.Common.{◌≡◌, ◌≢◌, ◌<◌, ◌≤◌, ◌+◌, ◌*◌, ℕ, suc, zero, Bool, true, false, List, map, length, take, Some, None, refl, ap, sym, ◌∙◌, arith, inl, inr}
use Rattle.std.specs.Prelude.{◌&&◌, nat_lt}
use Rattle.std.specs.List.{range_with_len}
use Rattle.std.proofs.lemmas.Bool.Decides.{eqb_tells}
use Rattle.acpi_space.specs.Lookup.{is_place, path_in}
use Rattle.acpi_space.specs.Namespace.{Entry}
use Rattle.acpi_space.specs.Places.{Place}
use Rattle.acpi_space.proofs.Lookups.{place_decides, not_place}
use Rattle.acpi_build.specs.Finding.{is_around, last_from, parent_of}
use Rattle.pw_plan.specs.Limits.{in_32_bits}
use Rattle.pw_generate.proofs.Entries.{container_place, cpu_place, machine_entries}
use Rattle.pw_generate.proofs.Numbered.{container_apart, container_spot, cpu_spot}
use Rattle.pw_generate.proofs.Members.{at_cpu_first, at_first, machine_containers_are}

-- # The last that passes

last_none : (t : ℕ → Bool) (f : ℕ → ℕ) (a m : ℕ) → ((x : ℕ) → a ≤ x → x < a + m → t (f x) ≡ false)
    → last_from t a (map f (range_with_len a m)) ≡ None
last_none t f a zero none = refl
last_none t f a (suc m) none = rw (
  last_none t f (a + 1) m (λ x l r. none x (omega arith) (omega arith)),
  none a (omega arith)
      (omega arith),
) refl

last_one : (t : ℕ → Bool) (f : ℕ → ℕ) (c a m : ℕ) → a ≤ c → c < a + m → t (f c) ≡ true
    → ((x : ℕ) → a ≤ x → x < a + m → x ≢ c → t (f x) ≡ false)
    → last_from t a (map f (range_with_len a m)) ≡ Some c
last_one t f c a zero le l here none = absurd (omega arith)
last_one t f c a (suc m) le l here none = elim (eqb_tells a c) [
  | inl same ↦
      let at : t (f a) ≡ true = ap (λ x. t (f x)) same.1 ∙ here in
      rw (last_none t f (a + 1) m (λ x low high. none x (omega arith) (omega arith) (λ e. (let s = same.1 in absurd (omega arith)))), at)
      (ap Some same.1)
  | inr apart ↦ rw (last_one t f c (a + 1) m (let other = apart.1 in
      omega arith) (omega arith) here (λ x low high. none x (omega arith) (omega arith))) refl
]

-- # Which containers are around an object

-- a path of two segments is none's, and one of three is its container's
around_is : (entries : List Entry) (k c : ℕ) (path place : Place) → path_in entries k ≡ path → path_in entries c ≡ place
    → is_around entries k c ≡ (nat_lt (length place) (length path) && is_place (take (length place) path) place)
around_is entries k c path place here there = rw (here, there) refl

module _ (n : ℕ) (small : n ≤ 32) where
  abbrev entries : List Entry
  entries = machine_entries n

  pub container_path : (c : ℕ) → c < n → path_in entries (container_spot c) ≡ container_place c
  container_path c l = ap (λ (e : Entry). e.path) (at_first n small c l)

  pub cpu_path : (c i : ℕ) → c < n → i < 8 → path_in entries (cpu_spot c i) ≡ cpu_place c (8 * c + i)
  cpu_path c i l less = ap (λ (e : Entry). e.path) (at_cpu_first n small c i l less)

  pub container_parent : (c : ℕ) → c < n → parent_of entries (container_spot c) ≡ None
  unfolding parent_of
  container_parent c l = rw (
    machine_containers_are n small,
    last_none (is_around entries (container_spot c)) container_spot 0 n
        (λ d a b. around_is entries (container_spot c) (container_spot d) (container_place c) (container_place d) (container_path c l)
        (container_path d (omega arith))),
  ) refl

  pub cpu_parent : (c i : ℕ) → c < n → i < 8 → parent_of entries (cpu_spot c i) ≡ Some c
  unfolding parent_of
  cpu_parent c i l less =
      let k = cpu_spot c i in
      let short : in_32_bits c ≡ c = omega arith in
      let is : (d : ℕ) → d < n → is_around entries k (container_spot d) ≡ is_place (container_place c) (container_place d) =
      λ d b. around_is entries k (container_spot d) (cpu_place c (8 * c + i)) (container_place d) (cpu_path c i l less) (container_path d b)
      in
      let one : last_from (is_around entries k) 0 (map container_spot (range_with_len 0 n)) ≡ Some c =
      last_one (is_around entries k) container_spot c 0 n (omega arith) (omega arith)
      (is c l ∙ (place_decides (container_place c) (container_place c)).1 refl)
      (λ d a b other. is d (omega arith) ∙ not_place (container_place c) (container_place d)
      (λ e. other (sym (container_apart c d (omega arith) (omega arith) e)))) in
      rw (machine_containers_are n small, one) (ap Some short)
