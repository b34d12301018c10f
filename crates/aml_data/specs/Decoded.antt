-- What a decoder answers at a place.
use Rattle.std.specs.Prelude.{◌⊎◌, ℕ, ◌+◌, ◌-◌, ◌<◌, ◌≤◌, ◌^◌, List, length, take, drop}
use Rattle.std.specs.List.{AllByRecursion}
use Rattle.aml_data.specs.declared.fault.DataFault.{DataFault}
use Rattle.aml_data.specs.Lengths.{Len, LenFails}

-- The n bytes from a place spell this value.
pub record IsSpelledAt {A : Type 0} (Spelling : A → List ℕ → Type 0) (bytes : List ℕ) (at : ℕ) (value : A) (n : ℕ) : Type 0 where
  pub within : at + n ≤ length bytes
  pub spelled : Spelling value (take n (drop at bytes))

-- The n bytes from a place are a PkgLength that reaches from there to this end.
pub record IsLengthAt (bytes : List ℕ) (at end n : ℕ) : Type 0 where
  pub past : at + n ≤ end
  pub within : end ≤ length bytes
  pub spelled : Len (end - at) (take n (drop at bytes))

-- each of them is a byte
abbrev pub AreBytes : List ℕ → Type 0
AreBytes bytes = AllByRecursion (λ b. b < 2 ^ 8) bytes

-- From a place on a value is spelled, or there is a first fault.
abbrev pub SpelledOrFails : {A : Type 0} → (A → List ℕ → Type 0) → (ℕ → List ℕ → DataFault → Type 0) → List ℕ → ℕ → Type 0
SpelledOrFails {A} Spelling Faults bytes at =
    ((value : A) × (n : ℕ) × IsSpelledAt Spelling bytes at value n) ⊎ ((fault : DataFault) × Faults (length bytes) (drop at bytes) fault)

-- The same of a PkgLength, which reaches to an end.
abbrev pub LengthOrFails : List ℕ → ℕ → Type 0
LengthOrFails bytes at = ((end n : ℕ) × IsLengthAt bytes at end n) ⊎ ((fault : DataFault) × LenFails (length bytes) (drop at bytes) fault)
