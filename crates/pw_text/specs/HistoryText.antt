-- What the texts of all histories have in common: lines of operations, of entries and of an opening.
use Rattle.std.specs.Prelude.{ℕ, List, [], ◌∷◌, ◌++◌, map, take, codes, decimal, Option, Some, None}
use Rattle.std.specs.List.{join_with_byte}
use Rattle.acpi_values.specs.declared.operation.Op.{Op}
use Rattle.acpi_values.specs.declared.operation.Op.TheVariants.{Set, Enter}
use Rattle.acpi_values.specs.declared.register.Register.{Register}
use Rattle.pw_text.specs.Lines.{spaced}
use Rattle.pw_text.specs.Text.{hex_text}

-- a register: its space, width, offset, access size and address
abbrev pub register_text : Register → List ℕ
register_text r = 91 ∷ (join_with_byte 44 (decimal r.space ∷ decimal r.width ∷ decimal r.offset ∷ decimal r.access ∷ hex_text r.address
    ∷ []) ++ (93 ∷ []))

-- an operation, where each processor has this path
abbrev pub op_line_by : (ℕ → List ℕ) → Op → List ℕ
op_line_by path (Set p r v) = spaced ([] ∷ [] ∷ codes "set" ∷ path p ∷ register_text r ∷ hex_text v ∷ [])
op_line_by path (Enter p composite) = spaced ([] ∷ [] ∷ codes "enter" ∷ path p ∷ register_text composite.register ∷ [])

-- a fault after k operations
abbrev pub fault_words : ℕ → List (List ℕ)
fault_words k = codes "register" ∷ codes "fault" ∷ codes "after" ∷ decimal k ∷ []

-- entry n: the path of who asked, the words of what was asked, and those of what came of it
abbrev pub asked_line : ℕ → List ℕ → List (List ℕ) → List (List ℕ) → List ℕ
asked_line n path asked outcome = spaced (decimal n ∷ path ∷ (asked ++ (codes "->" ∷ outcome)))

-- an opening of these operations, each with its line, which a fault may end after k of them
abbrev pub opened_lines : (Op → List ℕ) → List Op → Option ℕ → List (List ℕ)
opened_lines line ops None = codes "open" ∷ map line ops
opened_lines line ops (Some k) = spaced (codes "open" ∷ codes "->" ∷ fault_words k) ∷ map line (take k ops)
