-- Opcodes of terms: a byte, or the prefix 5B and a second byte, which together are 0x5B00 plus the second byte (ACPI 6.5, 20.3).
use Rattle.std.specs.Prelude.{ℕ, ◌-◌, Bool, ◌||◌, List, [], ◌∷◌, nat_lt, ◌==◌, if◌then◌else◌}
use Rattle.aml_data.specs.declared.opcode.TheConstants.{EXT_OP_PREFIX}
use Rattle.aml_block.specs.declared.opcode.TheConstants.{EXTENDED, ALIAS_OP, NAME_OP, SCOPE_OP, METHOD_OP, EXTERNAL_OP, IF_OP, ELSE_OP, WHILE_OP, MUTEX_OP, EVENT_OP}
use Rattle.aml_block.specs.declared.opcode.TheConstants.{OP_REGION_OP, FIELD_OP, DEVICE_OP, PROCESSOR_OP, POWER_RES_OP, THERMAL_ZONE_OP, INDEX_FIELD_OP, BANK_FIELD_OP}

-- the bytes of an opcode
abbrev pub opcode_bytes : ℕ → List ℕ
opcode_bytes opcode = if nat_lt opcode 0x100 then opcode ∷ [] else EXT_OP_PREFIX ∷ (opcode - EXTENDED) ∷ []

-- the terms that hold no terms and are read whole
abbrev pub is_plain : ℕ → Bool
is_plain opcode =
    (opcode == NAME_OP) || (opcode == ALIAS_OP) || (opcode == EXTERNAL_OP)
    || (opcode == MUTEX_OP) || (opcode == EVENT_OP) || (opcode == OP_REGION_OP)

-- the terms that hold terms
abbrev pub is_holder : ℕ → Bool
is_holder opcode = (opcode == SCOPE_OP) || (opcode == DEVICE_OP) || (opcode == PROCESSOR_OP)

-- the terms whose bodies aren't read
abbrev pub is_unread : ℕ → Bool
is_unread opcode =
    (opcode == METHOD_OP) || (opcode == IF_OP) || (opcode == ELSE_OP) || (opcode == WHILE_OP)
    || (opcode == FIELD_OP) || (opcode == POWER_RES_OP) || (opcode == THERMAL_ZONE_OP) || (opcode == INDEX_FIELD_OP) || (opcode ==
    BANK_FIELD_OP)

-- an opcode of the profile
abbrev pub is_term : ℕ → Bool
is_term opcode = is_plain opcode || is_holder opcode || is_unread opcode
