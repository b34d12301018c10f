-- Layouts: parts that stand one after the other, and a PkgLength with what it holds; and the first fault among them
-- (ACPI 6.5, 20.2).
use Rattle.std.specs.Prelude.{◌≡◌, ℕ, ◌+◌, ◌-◌, ◌<◌, ◌^◌, List, [], ◌∷◌, ◌++◌, length}
use Rattle.std.specs.Int.{w32, to_le_bytes}
use Rattle.aml_data.specs.declared.fault.DataFault.{DataFault}
use Rattle.aml_data.specs.declared.fault.DataFault.TheVariants.{Short}
use Rattle.aml_data.specs.Lengths.{Len, LenFails}

-- # Parts

-- a byte
abbrev pub Byte : ℕ → List ℕ → Type 0
Byte b bytes = bytes ≡ b ∷ []

-- a number of one byte
pub record Octet (n : ℕ) (bytes : List ℕ) : Type 0 where
  pub is : Byte n bytes
  pub fits : n < 2 ^ 8

-- a number of four bytes, lowest first
pub record Double (n : ℕ) (bytes : List ℕ) : Type 0 where
  pub is : bytes ≡ to_le_bytes w32 n
  pub fits : n < 2 ^ 32

-- bytes to the end of what holds them
abbrev pub Rest : List ℕ → List ℕ → Type 0
Rest content bytes = bytes ≡ content

-- fewer bytes than a part has
pub data FewerThan (n : ℕ) : ℕ → List ℕ → DataFault → Type 0 where
  fails_few : {end : ℕ} {bytes : List ℕ} → length bytes < n → FewerThan n end bytes (Short end)

-- # One part after another

-- The bytes spell one part, and then another.
pub record Both {A B : Type 0} (S : A → List ℕ → Type 0) (T : B → List ℕ → Type 0) (v : A × B) (bytes : List ℕ) : Type 0 where
  pub front : List ℕ
  pub back : List ℕ
  pub parts : bytes ≡ front ++ back
  pub one : S v.0 front
  pub other : T v.1 back

-- The first part fails so, or it is spelled and the other fails so.
pub data BothFail {A : Type 0} (F : ℕ → List ℕ → DataFault → Type 0) (S : A → List ℕ → Type 0) (G : ℕ → List ℕ → DataFault → Type 0)
    : ℕ → List ℕ → DataFault → Type 0 where
  fails_in_one : {end : ℕ} {bytes : List ℕ} {fault : DataFault} → F end bytes fault → BothFail F S G end bytes fault
  fails_in_other : {end : ℕ} {fault : DataFault} {a : A} (front rest : List ℕ) → S a front → G end rest fault
      → BothFail F S G end (front ++ rest) fault

-- # A length and what it holds

-- The bytes are a PkgLength and this content: the length counts its own bytes and those of the content.
pub data Holds : List ℕ → List ℕ → Type 0 where
  holds : (p content : List ℕ) → Len (length p + length content) p → Holds content (p ++ content)

-- The bytes are a PkgLength and what spells this value.
pub record Sized {A : Type 0} (S : A → List ℕ → Type 0) (v : A) (bytes : List ℕ) : Type 0 where
  pub content : List ℕ
  pub held : Holds content bytes
  pub spelled : S v content

-- The PkgLength fails, or what it holds fails so, where its own bytes end.
pub data SizedFails (F : ℕ → List ℕ → DataFault → Type 0) : ℕ → List ℕ → DataFault → Type 0 where
  fails_in_length : {end : ℕ} {bytes : List ℕ} {fault : DataFault} → LenFails end bytes fault → SizedFails F end bytes fault
  fails_inside : {end : ℕ} {fault : DataFault} {content : List ℕ} (front rest : List ℕ) → Holds content front
      → F (end - length rest) content fault
      → SizedFails F end (front ++ rest) fault
