-- Reading at a place.
use Rattle.std.specs.Prelude.{ℕ, ◌+◌, ◌-◌, List, length, drop, Result, Ok}
use Rattle.aml_data.specs.declared.fault.DataFault.{DataFault}
use Rattle.aml_data.specs.inner.Reading.{◌>>=◌, Read, length_at}

-- what is read from a place, and how many bytes it has
abbrev pub from_place : {A : Type 0} → (ℕ → List ℕ → Read A) → ℕ → List ℕ → Result (A × ℕ) DataFault
from_place read at bytes = read (length bytes) (drop at bytes) >>= λ x. Ok (x.0, length (drop at bytes) - length x.1)

-- where the length that is read from a place ends, and how many bytes it has
abbrev pub length_from_place : ℕ → List ℕ → Result (ℕ × ℕ) DataFault
length_from_place at bytes =
    length_at (length bytes) (drop at bytes) >>= λ x. Ok (length bytes - length x.1 + x.0, length (drop at bytes) - length x.1)
