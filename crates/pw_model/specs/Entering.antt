-- What is entered, by whom, and what idle domains are about, in words of their subject.
use Rattle.std.specs.Prelude.{◌≡◌, ◌==◌, ◌<◌, ◌≤◌, ℕ, true, List, [], ◌∷◌, map, zip, length, slice_index_or}
use Rattle.std.specs.List.{list_any}
use Rattle.acpi_values.specs.Idle.{rows_of}
use Rattle.acpi_values.specs.declared.dependency.CDependency.{CDependency}
use Rattle.acpi_values.specs.declared.dependency.Coord.TheVariants.{SwAll}
use Rattle.acpi_values.specs.declared.lpi.EntryMethod.{EntryMethod}
use Rattle.acpi_values.specs.declared.register.Register.{Register}
use Rattle.pw_plan.specs.declared.plan.Plan.{Plan}
use Rattle.pw_plan.specs.Groups.{has_member, is_idle}
use Rattle.pw_plan.specs.Parts.{no_row}
use Rattle.pw_plan.specs.Places.{container_at, cpu_at, domain_at, row_at}
use Rattle.pw_model.specs.declared.state.State.{State}
use Rattle.pw_model.specs.Containers.{ancestors}
use Rattle.pw_model.specs.Domains.{c_state, state_of}

-- # What is entered (ACPI 6.5, 8.4.3.3)

-- the entry methods of a chain of states: the processor's own, and those of its containers upwards
abbrev pub entries_of : Plan → ℕ → List ℕ → List EntryMethod
entries_of P p [] = []
entries_of P p (s ∷ ss) =
    (row_at (cpu_at P p).idle s).entry ∷ map (λ (c : ℕ × ℕ). (row_at (container_at P c.0).idle c.1).entry) (zip (ancestors P p) ss)

-- the register of fixed hardware at this address
abbrev pub fixed_hardware : ℕ → Register
fixed_hardware address = record { space = 127; width = 0; offset = 0; access = 0; address = address }

-- # Who enters by another's request (ACPI 6.5, 8.3)

-- Domain d is one of processor q about C state j, which software coordinates on all its members.
pub record IsOnAll (P : Plan) (d q j : ℕ) : Type 0 where
  pub exists : d < length P.domains
  pub kind : is_idle (domain_at P d).kind ≡ true
  pub coord : (domain_at P d).coord ≡ SwAll
  pub member : has_member (domain_at P d).members q ≡ true
  pub about : state_of (domain_at P d) ≡ j

-- Processor q comes to a deeper C state between two states, and a SW_ALL domain of its own is about it.
pub record ComesAlong (P : Plan) (S T : State) (q : ℕ) : Type 0 where
  pub deeper : c_state P S q < c_state P T q
  pub domain : ℕ
  pub on_all : IsOnAll P domain q (c_state P T q)

-- # What an idle domain is about (ACPI 6.5, 8.4.1.2)

-- Idle domain d is about the C state in the row of processor p's own table at the domain's index, counted from 0, and an
-- entry of the processor's `_CSD` has this index.
pub record IsAboutRow (P : Plan) (d p : ℕ) : Type 0 where
  pub entry : list_any (λ (e : CDependency). e.index == (domain_at P d).index) (cpu_at P p).csd ≡ true
  pub within : (domain_at P d).index < length (rows_of (cpu_at P p).idle)
  pub state : row_at (cpu_at P p).idle (state_of (domain_at P d)) ≡ slice_index_or (rows_of (cpu_at P p).idle) (domain_at P d).index no_row
  pub counted : 1 ≤ state_of (domain_at P d)
