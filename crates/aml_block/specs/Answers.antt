-- What an answer says of bytes.
use Rattle.std.specs.Prelude.{◌≡◌, ◌⊎◌, ◌≢◌, ℕ, Bool, true, List, Option, Some, IsSomeAnd, Result, Ok, Err}
use Rattle.aml_block.specs.declared.fault.BlockFault.{BlockFault}
use Rattle.aml_block.specs.declared.fault.BlockFault.TheVariants.{Memory, ReadFault}

-- this value, unless memory ran out or the file couldn't be read
abbrev pub IsUnlessUnread : {X : Type 0} → Result X BlockFault → X → Type 0
IsUnlessUnread (Ok x) y = x ≡ y
IsUnlessUnread (Err e) y = (e ≡ Memory) ⊎ (e ≡ ReadFault)

-- this fault, unless memory ran out or the file couldn't be read
abbrev pub FailsUnlessUnread : {X : Type 0} → Result X BlockFault → BlockFault → Type 0
FailsUnlessUnread (Ok x) fault = ⊥
FailsUnlessUnread (Err e) fault = e ≢ Memory → e ≢ ReadFault → e ≡ fault

-- where files tell, the name is held, and its bytes have this property
abbrev pub IsHeldAnd : Bool → Option (List ℕ) → (List ℕ → Type 0) → Type 0
IsHeldAnd told held P = told ≡ true → IsSomeAnd held P

-- where files tell and the name is held, its bytes have this property
abbrev pub ForHeld : Bool → Option (List ℕ) → (List ℕ → Type 0) → Type 0
ForHeld told held P = told ≡ true → (content : List ℕ) → held ≡ Some content → P content
