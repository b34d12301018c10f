-- What a processor enters: the entry methods of a chain of states as one register (ACPI 6.5, 8.4.3.3).
use Rattle.std.specs.Prelude.{◌+◌, ◌%◌, ◌^◌, ℕ, List, [], ◌∷◌}
use Rattle.acpi_values.specs.declared.lpi.EntryMethod.{EntryMethod}
use Rattle.acpi_values.specs.declared.lpi.EntryMethod.TheVariants as entry
use Rattle.acpi_values.specs.declared.operation.Composite.{Composite}
use Rattle.acpi_values.specs.declared.register.Register.{Register}
use Rattle.pw_plan.specs.declared.plan.Plan.{Plan}
use Rattle.pw_plan.specs.Places.{container_at, cpu_at, row_at}
use Rattle.pw_model.specs.Containers.{ancestors}
use Rattle.pw_model.specs.Answers.{chain_of}

-- a processor's own entry method: a number is the address of a register of fixed hardware
abbrev pub own_register : EntryMethod → Register
own_register (entry.Register r) = r
own_register (entry.Integer n) = record { space = 127; width = 0; offset = 0; access = 0; address = n }

-- a container's entry method on top of what is below: a number is added to the address, a register takes its place
abbrev pub add_entry : Register → EntryMethod → Register
add_entry r (entry.Register s) = s
add_entry r (entry.Integer n) = record r { address = (r.address + n) % 2 ^ 64 }

-- the entry methods of these containers in these states on top of a register
abbrev pub add_entries : Plan → Register → List ℕ → List ℕ → Register
add_entries P r ns [] = r
add_entries P r [] (s ∷ ss) = r
add_entries P r (n ∷ ns) (s ∷ ss) = add_entries P (add_entry r (row_at (container_at P n).idle s).entry) ns ss

-- the register of processor p in its own state and its containers in theirs
abbrev pub entered_register : Plan → ℕ → List ℕ → Register
entered_register P p [] = own_register (entry.Integer 0)
entered_register P p (s ∷ ss) = add_entries P (own_register (row_at (cpu_at P p).idle s).entry) (ancestors P p) ss

-- what processor p enters in a chain of states
abbrev pub composite_of : Plan → ℕ → List ℕ → Composite
composite_of P p states = record { register = entered_register P p states; states = chain_of states }
