-- The tree of a plan.
use Rattle.std.proofs.Common.{◌≡◌, ◌<◌, ℕ, Bool, true, List, [], ◌∷◌, map, length, get_or, refl, ap, ◌∙◌, arith}
use Rattle.std.proofs.Common.{zero-add, inl, inr}
use Rattle.std.specs.Prelude.{nat_lt}
use Rattle.std.specs.List.{list_all, AllByRecursion}
use Rattle.std.proofs.lemmas.List.{get_or_past}
use Rattle.std.proofs.lemmas.List.FromFn.{get_or-map-range_with_len, length-map-range_with_len}
use Rattle.std.proofs.lemmas.Bool.{cases_lt}
use Rattle.std.proofs.lemmas.Bool.Decides.{nat_tests}
use Rattle.pw_plan.specs.declared.domain.Child.{Child}
use Rattle.pw_plan.specs.declared.domain.Child.TheVariants.{Cpu, Container}
use Rattle.pw_plan.specs.declared.parts.ContainerParts.{ContainerParts}
use Rattle.pw_plan.specs.declared.parts.CpuParts.{CpuParts}
use Rattle.pw_plan.specs.Parts.{PartsFit, container_in, cpu_in, no_container, no_cpu}
use Rattle.pw_plan.specs.Tree.{all_children, children_of, is_number, places_from}
use Rattle.pw_plan.specs.Sound.{IsTree, is_child}
use Rattle.pw_plan.proofs.Lines.{parent_below}
use Rattle.pw_plan.proofs.Lists.{and_both, each_append, places-each}

pub all_of : {X : Type 0} (t : X → Bool) (xs : List X) → AllByRecursion (λ x. t x ≡ true) xs → list_all t xs ≡ true
all_of t [] a = refl
all_of t (x ∷ xs) a = and_both (t x) (list_all t xs) a.0 (all_of t xs a.1)

mapped : {X Y : Type 0} (P : Y → Type 0) (f : X → Y) (xs : List X) → AllByRecursion (λ x. P (f x)) xs → AllByRecursion P (map f xs)
mapped P f [] a = tt
mapped P f (x ∷ xs) a = (a.0, mapped P f xs a.1)

pub lt_true : (m n : ℕ) → m < n → nat_lt m n ≡ true
lt_true m n lt = grind (arith, nat_tests)

module _ (cs : List ContainerParts) (ps : List CpuParts) (fit : PartsFit cs ps) where
  children_are : (n : ℕ) → AllByRecursion (λ c. is_child cs ps n c ≡ true) (children_of cs ps n)
  children_are n = each_append (λ c. is_child cs ps n c ≡ true) (map (λ m. Container m) (places_from (λ (c : ContainerParts). is_number n c.parent) 0 cs)) (map
      (λ p. Cpu p) (places_from (λ (c : CpuParts). is_number n c.parent) 0 ps))
      (mapped (λ c. is_child cs ps n c ≡ true) (λ m. Container m) (places_from (λ (c : ContainerParts). is_number n c.parent) 0 cs)
      (places-each (λ m. is_child cs ps n (Container m) ≡ true) (λ (c : ContainerParts). is_number n c.parent) 0 cs no_container (λ i lt e. rw zero-add (and_both
      (nat_lt i (length cs)) (is_number n (container_in cs i).parent) (lt_true i (length cs) lt) e))))
      (mapped (λ c. is_child cs ps n c ≡ true) (λ p. Cpu p) (places_from (λ (c : CpuParts). is_number n c.parent) 0 ps)
      (places-each (λ p. is_child cs ps n (Cpu p) ≡ true) (λ (c : CpuParts). is_number n c.parent) 0 ps no_cpu (λ i lt e. rw zero-add (and_both (nat_lt i (length ps))
      (is_number n (cpu_in ps i).parent) (lt_true i (length ps) lt) e))))

  listed : (n : ℕ) → list_all (is_child cs ps n) (get_or (all_children cs ps) n []) ≡ true
  listed n = elim (cases_lt n (length cs)) [
    | inl lt ↦ rw (get_or-map-range_with_len (children_of cs ps) 0 (length cs) n n [] lt (zero-add n)) (all_of (is_child cs ps n) (children_of cs ps n) (children_are n))
    | inr le ↦ rw (get_or_past (all_children cs ps) n [] (rw (length-map-range_with_len (children_of cs ps) 0 (length cs)) le)) refl
  ]

  pub is_tree : (children : List (List Child)) → children ≡ all_children cs ps → IsTree cs ps children
  is_tree children e = record {
    lists = ap length e ∙ length-map-range_with_len (children_of cs ps) 0 (length cs);
    children_exist = λ n. rw e (listed n);
    falls = λ m n lt p. parent_below m n (container_in cs m).parent (fit.containers m lt) p;
    within = λ p n lt e. parent_below (length cs) n (cpu_in ps p).parent (fit.processors p lt) e;
  }
