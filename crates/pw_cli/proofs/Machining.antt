-- The plan of objects is that of the machine that they tell of, in words.
use Rattle.std.proofs.Common.{◌≡◌, ◌≤◌, ◌<◌, ◌∙◌, ◌++◌, ◌∷◌, ℕ, Bool, true, false, List, length, Option, Some, None, refl, sym, ap, subst, arith, eqb-true}
use Rattle.std.specs.Prelude.{◌↔◌, Contains, nat_lt, slice_index, slice_index_or}
use Rattle.std.specs.List.{AllZip}
use Rattle.std.proofs.lemmas.Bool.{false≢true}
use Rattle.std.proofs.lemmas.Bool.Decides.{nat_tests}
use Rattle.std.proofs.lemmas.List.Folds.{list_all_at}
use Rattle.std.proofs.lemmas.Map.Views.{Contains-from_any}
use Rattle.std.proofs.lemmas.Slice.Zip.{AllZip-long}
use Rattle.aml_block.specs.declared.block.Block.{Block}
use Rattle.acpi_values.proofs.Null.{taken_from, taken_to}
use Rattle.acpi_space.specs.Distinct.{IsDistinct}
use Rattle.aml_block.specs.declared.block.Signature.TheVariants.{Dsdt}
use Rattle.acpi_space.specs.Namespace.{Entry, entries_in, places_of}
use Rattle.acpi_space.specs.Widths.{AreOfWidthBy, HaveNoDsdt}
use Rattle.acpi_build.specs.declared.note.Note.{Note}
use Rattle.acpi_build.specs.Finding.{containers_of, processors_of}
use Rattle.acpi_build.specs.Finding.{parent_of as parent_in}
use Rattle.acpi_build.specs.Meaning.{IsAround, IsContainer, IsParent, IsProcessor}
use Rattle.acpi_build.specs.Planning.{IsPlanFrom}
use Rattle.acpi_build.specs.Sources.{IsContainerOf, IsCpuOf}
use Rattle.acpi_build.proofs.Parents.{containers_in_order, processors_rise}
use Rattle.pw_plan.specs.declared.domain.Child.{Child}
use Rattle.pw_plan.specs.declared.domain.Child.TheVariants.{Container, Cpu}
use Rattle.pw_plan.specs.declared.plan.Plan.{Plan}
use Rattle.pw_plan.specs.Groups.{AreGroups}
use Rattle.pw_plan.specs.Orderly.{is_same}
use Rattle.pw_plan.specs.Places.{IsIn, children_at, container_at, cpu_at, parent_of}
use Rattle.pw_plan.specs.Sound.{is_child}
use Rattle.pw_plan.specs.Tree.{is_number}
use Rattle.pw_plan.proofs.Grouping.{are_groups}
use Rattle.pw_plan.proofs.Lists.{and_first, and_second}
use Rattle.pw_cli.specs.Machines.{IsMachineOf}

-- # Children

is_numbered : (n : ℕ) (m : Option ℕ) → is_number n m ≡ true → m ≡ Some n
is_numbered n None e = absurd (false≢true e)
is_numbered n (Some m) e = ap (λ k. Some k) (eqb-true m n e)

below : (a b : ℕ) → nat_lt a b ≡ true → a < b
below a b e = grind (arith, nat_tests)

same_child : (c d : Child) → is_same c d ≡ true → c ≡ d
same_child (Cpu p) (Cpu q) e = ap (λ k. Cpu k) (sym (eqb-true q p e))
same_child (Cpu p) (Container n) e = absurd (false≢true e)
same_child (Container m) (Cpu q) e = absurd (false≢true e)
same_child (Container m) (Container n) e = ap (λ k. Container k) (sym (eqb-true n m e))

module _ (P : Plan) (n : ℕ) where
  -- who is a child by its own parent
  told : (c : Child) → is_child P.containers P.cpus n c ≡ true → IsIn P c × (parent_of P c ≡ Some n)
  told (Cpu p) e =
      let here = nat_lt p (length P.cpus) in
      let named = is_number n (cpu_at P p).parent in
      (below p (length P.cpus) (and_first here named e), is_numbered n (cpu_at P p).parent (and_second here named e))
  told (Container m) e =
      let here = nat_lt m (length P.containers) in
      let named = is_number n (container_at P m).parent in
      (below m (length P.containers) (and_first here named e), is_numbered n (container_at P m).parent (and_second here named e))

  passes : (c : Child) → Contains (children_at P n) c → is_child P.containers P.cpus n c ≡ true
  passes c (k, lt, is) = step (is_child P.containers P.cpus n (slice_index_or (children_at P n) k c)) refl
    where
      step : (b : Bool) → is_child P.containers P.cpus n (slice_index_or (children_at P n) k c) ≡ b → is_child P.containers P.cpus n c ≡ true
      step true e = ap (is_child P.containers P.cpus n) (sym is) ∙ e
      step false e = absurd (false≢true (sym (list_all_at (is_child P.containers P.cpus n) (children_at P n) k c lt e) ∙ P.sound.tree.children_exist n))

  listed : (c : Child) → IsIn P c → parent_of P c ≡ Some n → Contains (children_at P n) c
  listed (Cpu p) lt e = Contains-from_any same_child (Cpu p) (children_at P n) (P.orderly.listed n p lt e)
  listed (Container m) lt e = Contains-from_any same_child (Container m) (children_at P n) (P.orderly.nested n m lt e)

-- # The machine

-- what laws of objects say
pub record ObjectLaws : Type 0 where
  pub processors : (entries : List Entry) (k : ℕ) → IsDistinct (places_of entries) → (Contains (processors_of entries) k ↔ IsProcessor entries k)
  pub containers : (entries : List Entry) (k : ℕ) → IsDistinct (places_of entries) → (Contains (containers_of entries) k ↔ IsContainer entries k)
  pub innermost : (entries : List Entry) (k n : ℕ) → IsDistinct (places_of entries) → length (containers_of entries) ≤ 256
      → ((parent_in entries k ≡ Some n) ↔ ((n < length (containers_of entries)) × IsParent entries k (slice_index (containers_of entries) n)))
  pub outermost : (entries : List Entry) (k : ℕ) → IsDistinct (places_of entries)
      → ((parent_in entries k ≡ None) ↔ ((c : ℕ) → Contains (containers_of entries) c → IsAround entries k c → ⊥))
  pub of_containers : (entries : List Entry) (P : Plan) (notes : List Note) → IsDistinct (places_of entries) → IsPlanFrom entries P notes
      → AllZip (IsContainerOf entries) (containers_of entries) P.containers
  pub of_processors : (entries : List Entry) (P : Plan) (notes : List Note) → IsDistinct (places_of entries) → IsPlanFrom entries P notes
      → AllZip (IsCpuOf entries) (processors_of entries) P.cpus
  pub widths : (front back : List Block) (dsdt : Block) → HaveNoDsdt front → dsdt.header.signature ≡ Dsdt
      → AreOfWidthBy dsdt.header.revision (entries_in (front ++ dsdt ∷ back))

pub machine_of : ObjectLaws → (blocks : List Block) (P : Plan) (notes : List Note) → IsDistinct (places_of (entries_in blocks))
    → IsPlanFrom (entries_in blocks) P notes → IsMachineOf blocks P
machine_of laws blocks P notes distinct made =
    let entries = entries_in blocks in
    let of_containers = laws.of_containers entries P notes distinct made in
    let as_many = AllZip-long (IsContainerOf entries) (containers_of entries) P.containers of_containers in
    let few = P.sound.small.containers in
    let within : length (containers_of entries) ≤ 256 = omega (arith, as_many, few) in
    record {
      apart = distinct;
      widths = λ front back dsdt is none first. subst (λ (bs : List Block). AreOfWidthBy dsdt.header.revision (entries_in bs)) (sym is) (laws.widths front back dsdt none first);
      processors = λ k. laws.processors entries k distinct;
      in_order = processors_rise entries;
      containers = λ k. laws.containers entries k distinct;
      outer_first = containers_in_order entries;
      innermost = λ k n. laws.innermost entries k n distinct within;
      outermost = λ k. laws.outermost entries k distinct;
      of_containers = of_containers;
      of_processors = laws.of_processors entries P notes distinct made;
      controls = λ pair r. (taken_to pair.control r, taken_from pair.control r);
      children = λ n c. (λ h. told P n c (passes P n c h), λ h. listed P n c h.0 h.1);
      domains = made.plan.domains_are;
      groups = subst (AreGroups P.domains) (sym made.plan.groups_are) (are_groups P.domains (length P.cpus) P.sound.domains.members);
      small = P.sound.small;
    }
