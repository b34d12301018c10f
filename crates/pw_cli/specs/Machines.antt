-- The machine that the objects of blocks tell of, in words (ACPI 6.5, 8.3, 8.4): who is a processor and who a container, what stands
-- around it, its tables, and the domains and groups that these make.
use Rattle.std.specs.Prelude.{◌≡◌, ◌≢◌, ◌↔◌, ◌<◌, ◌++◌, ◌∷◌, ℕ, List, length, slice_index, Some, None, Contains}
use Rattle.std.specs.List.{AllPairs, AllZip}
use Rattle.pw_base.specs.Seen.{FilesSeen}
use Rattle.aml_block.specs.declared.block.Block.{Block}
use Rattle.aml_block.specs.declared.block.Signature.TheVariants.{Dsdt}
use Rattle.acpi_values.specs.declared.performance.ControlPair.{ControlPair}
use Rattle.acpi_values.specs.declared.register.Register.{Register}
use Rattle.acpi_values.specs.Null.{null_register}
use Rattle.acpi_space.specs.Distinct.{IsDistinct}
use Rattle.acpi_space.specs.Namespace.{entries_in, places_of}
use Rattle.acpi_space.specs.Widths.{AreOfWidthBy, HaveNoDsdt}
use Rattle.acpi_build.specs.Finding.{containers_of, parent_of, processors_of}
use Rattle.acpi_build.specs.Machine.{register_in}
use Rattle.acpi_build.specs.Meaning.{IsAround, IsContainer, IsOuter, IsParent, IsProcessor}
use Rattle.acpi_build.specs.Sources.{IsContainerOf, IsCpuOf}
use Rattle.pw_plan.specs.declared.domain.Child.{Child}
use Rattle.pw_plan.specs.declared.plan.Plan.{Plan}
use Rattle.pw_plan.specs.Domains.{AreDomains}
use Rattle.pw_plan.specs.Groups.{AreGroups}
use Rattle.pw_plan.specs.Places.{children_at, IsIn}
use Rattle.pw_plan.specs.Places.{parent_of as around}
use Rattle.pw_plan.specs.Sound.{IsSmall}
use Rattle.pw_load.specs.Steps.{AreHeldBy}

-- The plan is that of the machine that these blocks describe.
pub record IsMachineOf (blocks : List Block) (P : Plan) : Type 0 where
  -- the objects that they place stand apart, and their integers are as wide as the first DSDT says
  pub apart : IsDistinct (places_of (entries_in blocks))
  pub widths : (front back : List Block) (dsdt : Block) → blocks ≡ front ++ dsdt ∷ back → HaveNoDsdt front → dsdt.header.signature ≡ Dsdt
      → AreOfWidthBy dsdt.header.revision (entries_in blocks)
  -- who is a processor, in the order of the objects, and who a container, the outer ones first
  pub processors : (k : ℕ) → Contains (processors_of (entries_in blocks)) k ↔ IsProcessor (entries_in blocks) k
  pub in_order : AllPairs (λ i j. i < j) (processors_of (entries_in blocks))
  pub containers : (k : ℕ) → Contains (containers_of (entries_in blocks)) k ↔ IsContainer (entries_in blocks) k
  pub outer_first : AllPairs (IsOuter (entries_in blocks)) (containers_of (entries_in blocks))
  -- the container around an object is the innermost one, if there is one
  pub innermost : (k n : ℕ) → (parent_of (entries_in blocks) k ≡ Some n)
      ↔ ((n < length (containers_of (entries_in blocks)))
      × IsParent (entries_in blocks) k (slice_index (containers_of (entries_in blocks)) n))
  pub outermost : (k : ℕ) → (parent_of (entries_in blocks) k ≡ None)
      ↔ ((c : ℕ) → Contains (containers_of (entries_in blocks)) c → IsAround (entries_in blocks) k c → ⊥)
  -- each has its path, what is around it, and its tables
  pub of_containers : AllZip (IsContainerOf (entries_in blocks)) (containers_of (entries_in blocks)) P.containers
  pub of_processors : AllZip (IsCpuOf (entries_in blocks)) (processors_of (entries_in blocks)) P.cpus
  -- of these a control register is used unless it is the null register
  pub controls : (pair : ControlPair) (r : Register) → (register_in (Some pair) ≡ Some r) ↔ ((pair.control ≡ r) × (r ≢ null_register))
  -- the children of a container are those that it is around
  pub children : (n : ℕ) (c : Child) → Contains (children_at P n) c ↔ (IsIn P c × (around P c ≡ Some n))
  -- the domains are those that the tables declare, and the groups those that idle domains join
  pub domains : AreDomains P.cpus P.domains
  pub groups : AreGroups P.domains P.groups
  -- what the limits leave room for
  pub small : IsSmall P.containers P.cpus

-- The files hold blocks under these names, where they tell, and this is the machine of these.
pub record IsMachineIn (files : FilesSeen) (names : List (List ℕ)) (P : Plan) : Type 0 where
  pub blocks : List Block
  pub held : AreHeldBy files names blocks
  pub machine : IsMachineOf blocks P
