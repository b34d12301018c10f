-- The numbers of operations, and how they are told.
use Rattle.std.specs.Prelude.{◌≡◌, ◌≤◌, ◌<◌, ◌++◌, ℕ, List, length, map, drop, replicate}
use Rattle.acpi_values.specs.declared.operation.Chain.{Chain}
use Rattle.acpi_values.specs.declared.operation.Op.{Op}
use Rattle.acpi_values.specs.declared.operation.Op.TheVariants.{Set, Enter}
use Rattle.acpi_values.specs.declared.register.Register.{Register}
use Rattle.pw_plan.specs.Limits.{in_32_bits}
use Rattle.pw_embed.specs.declared.operations.OpNumbers.{OpNumbers}
use Rattle.pw_embed.specs.declared.status.Status.{Status}
use Rattle.pw_embed.specs.declared.status.Status.TheVariants.{Done, Room}

abbrev pub no_states : Chain
no_states = record { len = 0; states = replicate 9 0 }

-- the numbers of a kind of operation on this register
abbrev pub on : ℕ → ℕ → Register → ℕ → Chain → OpNumbers
on kind cpu r value chain = record {
  address = r.address;
  value = value;
  kind = kind;
  cpu = cpu;
  space = r.space;
  width = r.width;
  offset = r.offset;
  access = r.access;
  length = chain.len;
  states = chain.states;
}

-- the numbers of an operation
abbrev pub op_numbers : Op → OpNumbers
op_numbers (Set cpu register value) = on 1 cpu register value no_states
op_numbers (Enter cpu composite) = on 2 cpu composite.register 0 composite.states

-- The operations are written at the front of the room, and their count; or the room is too small, and stays as it was.
unfoldable pub Listed : List Op → List OpNumbers → List OpNumbers → ℕ → Status → Type 0
Listed list out out' count Done = (length list ≤ length out) × (out' ≡ map op_numbers list ++ drop (length list) out)
    × (count ≡ in_32_bits (length list))
Listed list out out' count Room = (length out < length list) × (out' ≡ out) × (count ≡ in_32_bits (length list))
Listed list out out' count _ = ⊥
