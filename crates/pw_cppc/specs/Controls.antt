-- What the controls of continuous performance are to say, and what they were set to (ACPI 6.5, 8.4.6.1.2).
use Rattle.std.specs.Prelude.{◌≡◌, ◌≢◌, ◌<◌, ◌⊎◌, ◌++◌, ℕ, true, List, ◌∷◌, length, None, Some}
use Rattle.std.specs.List.{AllByRecursion}
use Rattle.acpi_values.specs.declared.dependency.Coord.TheVariants.{SwAll, SwAny}
use Rattle.acpi_values.specs.declared.operation.Op.{Op}
use Rattle.acpi_values.specs.declared.operation.Op.TheVariants.{Set}
use Rattle.acpi_values.specs.declared.register.Register.{Register}
use Rattle.pw_plan.specs.Groups.{first_of, has_member}
use Rattle.pw_cppc.specs.declared.numbers.CppcNumbers.{CppcNumbers}
use Rattle.pw_cppc.specs.declared.parts.Control.{Control}
use Rattle.pw_cppc.specs.declared.parts.Control.TheVariants.{Desired, Minimum, Maximum}
use Rattle.pw_cppc.specs.declared.plan.CppcPlan.{CppcPlan}
use Rattle.pw_cppc.specs.declared.request.CppcRequest.{CppcRequest}
use Rattle.pw_cppc.specs.declared.request.CppcRequest.TheVariants as requests
use Rattle.pw_cppc.specs.Answers.{after, refusal}
use Rattle.pw_cppc.specs.Parts.{register_of}
use Rattle.pw_cppc.specs.Planning.{domain_at, parts_at}
use Rattle.pw_cppc.specs.Requests.{cpu_of, value_of}
use Rattle.pw_cppc.specs.States.{maximum_of, minimum_of, opening, standing}

-- what a control of member p of domain d is to say: where p stands, its minimum, its maximum
abbrev pub said_by : Control → CppcPlan → CppcNumbers → ℕ → ℕ → ℕ
said_by Desired P S d p = standing P S d p
said_by Minimum P S d p = minimum_of S p
said_by Maximum P S d p = maximum_of S p

-- Domain d is fit, and p is one of its members.
pub record IsFitMember (P : CppcPlan) (d p : ℕ) : Type 0 where
  pub exists : d < length P.domains
  pub fit : (domain_at P d).unfit ≡ 0
  pub member : has_member (domain_at P d).members p ≡ true

-- no two controls of processor p have the same register
abbrev pub HasOwnRegisters : CppcPlan → ℕ → Type 0
HasOwnRegisters P p = (a b : Control) (r : Register) → register_of a (parts_at P p) ≡ Some r → register_of b (parts_at P p) ≡ Some r → a ≡ b

-- The last of these operations that sets this control on one of some processors sets it to v.
pub record IsLastSetOn (P : CppcPlan) (control : Control) (on : ℕ → Type 0) (v : ℕ) (ops : List Op) : Type 0 where
  pub before : List Op
  pub later : List Op
  pub cpu : ℕ
  pub one : on cpu
  pub register : Register
  pub has : register_of control (parts_at P cpu) ≡ Some register
  pub set : ops ≡ before ++ Set cpu register v ∷ later
  pub none_later : (q : ℕ) (r : Register) → on q → register_of control (parts_at P q) ≡ Some r
      → AllByRecursion (λ o. (w : ℕ) → o ≢ Set q r w) later

-- At the start this operation sets a control of a member of a fit domain to what it is to say: the desired performance of a SW_ANY domain
-- on the first member alone, all else on each that has the register.
pub record IsStart (P : CppcPlan) (o : Op) : Type 0 where
  pub domain : ℕ
  pub cpu : ℕ
  pub on : IsFitMember P domain cpu
  pub control : Control
  pub first : control ≡ Desired → (domain_at P domain).coord ≡ SwAny → cpu ≡ first_of (domain_at P domain).members
  pub register : Register
  pub has : register_of control (parts_at P cpu) ≡ Some register
  pub is : o ≡ Set cpu register (said_by control P (opening P) domain cpu)

-- why a request sets a control in its processor's domain d: it names a minimum or a maximum, or the processor then stands elsewhere
abbrev pub Moves : CppcPlan → CppcNumbers → CppcRequest → ℕ → Control → Type 0
Moves P S q d Desired = standing P S d (cpu_of q) ≢ standing P (after P S q) d (cpu_of q)
Moves P S q d Minimum = q ≡ requests.Minimum (cpu_of q) (value_of q)
Moves P S q d Maximum = q ≡ requests.Maximum (cpu_of q) (value_of q)

-- on whom: on its processor itself, and the desired performance of a SW_ALL domain on each member
abbrev pub IsOn : CppcPlan → ℕ → ℕ → Control → ℕ → Type 0
IsOn P p d control m = (m ≡ p) ⊎ ((control ≡ Desired) × ((domain_at P d).coord ≡ SwAll) × (has_member (domain_at P d).members m ≡ true))

-- The request has this operation: it is accepted, and this sets a control that it moves to what that is to say after it.
pub record IsSetBy (P : CppcPlan) (S : CppcNumbers) (q : CppcRequest) (o : Op) : Type 0 where
  pub accepted : refusal P S q ≡ None
  pub domain : ℕ
  pub asks : IsFitMember P domain (cpu_of q)
  pub control : Control
  pub moves : Moves P S q domain control
  pub cpu : ℕ
  pub on : IsOn P (cpu_of q) domain control cpu
  pub register : Register
  pub has : register_of control (parts_at P cpu) ≡ Some register
  pub is : o ≡ Set cpu register (said_by control P (after P S q) domain cpu)
