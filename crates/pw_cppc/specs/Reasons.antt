-- Why the members of a domain can't be coordinated, in words (ACPI 6.5, 8.3 and 8.4.6.1).
use Rattle.std.specs.Prelude.{◌≡◌, ◌<◌, ◌≤◌, ◌⊎◌, ℕ, true, List, [], ◌∷◌, length, Some}
use Rattle.acpi_values.specs.declared.dependency.Coord.TheVariants.{SwAll}
use Rattle.acpi_values.specs.declared.performance.CpcEntry.TheVariants.{Number}
use Rattle.acpi_values.specs.declared.register.Register.{Register as register}
use Rattle.pw_plan.specs.Groups.{has_member}
use Rattle.pw_cppc.specs.declared.parts.Control.TheVariants as controls
use Rattle.pw_cppc.specs.declared.parts.CppcParts.{CppcParts}
use Rattle.pw_cppc.specs.declared.plan.CppcDomain.{CppcDomain}
use Rattle.pw_cppc.specs.Domains.{shown}
use Rattle.pw_cppc.specs.Parts.{entry_of, parts_in, register_of}

-- each two members show the same coordination type
abbrev pub ShowOneType : List CppcParts → List ℕ → Type 0
ShowOneType ps ms = (p q : ℕ) → has_member ms p ≡ true → has_member ms q ≡ true → (shown ps p).coord ≡ (shown ps q).coord

-- each two declare the same number of processors
abbrev pub ShowOneNumber : List CppcParts → List ℕ → Type 0
ShowOneNumber ps ms = (p q : ℕ) → has_member ms p ≡ true → has_member ms q ≡ true → (shown ps p).processors ≡ (shown ps q).processors

-- each declares as many as they are
abbrev pub ShowTheirNumber : List CppcParts → List ℕ → Type 0
ShowTheirNumber ps ms = (p : ℕ) → has_member ms p ≡ true → (shown ps p).processors ≡ length ms

-- all of this is so
pub record Agree (ps : List CppcParts) (ms : List ℕ) : Type 0 where
  pub types : ShowOneType ps ms
  pub numbers : ShowOneNumber ps ms
  pub count : ShowTheirNumber ps ms

-- The lowest and the highest performance are integers, these, and the lowest isn't above the highest.
pub record HasRange (c : CppcParts) (lowest highest : ℕ) : Type 0 where
  pub from : entry_of c.cpc 3 ≡ Some (Number lowest)
  pub to : entry_of c.cpc 0 ≡ Some (Number highest)
  pub ordered : lowest ≤ highest

-- each has a range
abbrev pub HaveRanges : List CppcParts → List ℕ → Type 0
HaveRanges ps ms = (p : ℕ) → has_member ms p ≡ true → (lowest : ℕ) × (highest : ℕ) × HasRange (parts_in ps p) lowest highest

-- all have the same range
abbrev pub HaveOneRange : List CppcParts → List ℕ → Type 0
HaveOneRange ps ms = (lowest : ℕ) × (highest : ℕ) × ((p : ℕ) → has_member ms p ≡ true → HasRange (parts_in ps p) lowest highest)

-- each has a register for desired performance
abbrev pub HaveRegisters : List CppcParts → List ℕ → Type 0
HaveRegisters ps ms = (p : ℕ) → has_member ms p ≡ true → (r : register) × (register_of controls.Desired (parts_in ps p) ≡ Some r)

-- What the number says of the members: 1 to 6 the first of six that isn't so, 0 that all are.
pub data IsReason (ps : List CppcParts) (ms : List ℕ) : ℕ → Type 0 where
  types_differ : (ShowOneType ps ms → ⊥) → IsReason ps ms 1
  numbers_differ : ShowOneType ps ms → (ShowOneNumber ps ms → ⊥) → IsReason ps ms 2
  number_is_wrong : ShowOneType ps ms → ShowOneNumber ps ms → (ShowTheirNumber ps ms → ⊥) → IsReason ps ms 3
  range_is_none : Agree ps ms → (HaveRanges ps ms → ⊥) → IsReason ps ms 4
  ranges_differ : Agree ps ms → HaveRanges ps ms → (HaveOneRange ps ms → ⊥) → IsReason ps ms 5
  register_is_none : Agree ps ms → HaveOneRange ps ms → (HaveRegisters ps ms → ⊥) → IsReason ps ms 6
  all_agree : Agree ps ms → HaveOneRange ps ms → HaveRegisters ps ms → IsReason ps ms 0

-- Processor p is alone in the domain, which is one of SW_ALL; if it is unfit, then not by what is declared.
pub record IsAlone (d : CppcDomain) (p : ℕ) : Type 0 where
  pub members : d.members ≡ p ∷ []
  pub coord : d.coord ≡ SwAll
  pub undeclared : (d.unfit ≡ 0) ⊎ (3 < d.unfit)
