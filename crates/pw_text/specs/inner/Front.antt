-- The front of a register's text.
use Rattle.std.specs.Prelude.{ℕ, List, [], ◌∷◌, ◌++◌, decimal}
use Rattle.acpi_values.specs.declared.register.Register.{Register}

-- its fields before the address, each with a comma behind it, behind a space and a bracket
abbrev pub front_text : Register → List ℕ
front_text r = 32 ∷ 91 ∷ (decimal r.space ++ 44 ∷ (decimal r.width ++ 44 ∷ (decimal r.offset ++ 44 ∷ (decimal r.access ++ 44 ∷ []))))
