-- The layouts of terms, and the first fault among their parts (ACPI 6.5, 20.2.5).
use Rattle.std.specs.Prelude.{ℕ, ◌-◌, ◌<◌, Bool, List, ◌∷◌, ◌++◌, length}
use Rattle.aml_data.specs.declared.data.Data.{Data}
use Rattle.aml_data.specs.declared.path.Path.{Path}
use Rattle.aml_data.specs.declared.fault.DataFault.{DataFault}
use Rattle.aml_data.specs.declared.fault.DataFault.TheVariants.{BadName}
use Rattle.aml_data.specs.declared.opcode.TheConstants.{NULL_NAME}
use Rattle.aml_data.specs.Layouts.{Byte, Double, FewerThan, Both, BothFail}
use Rattle.aml_data.specs.Grammar.{Const, Prefix, NameOf, Spells}
use Rattle.aml_data.specs.Faults.{ConstFails, NameFails, Fails}
use Rattle.aml_block.specs.declared.term.Term.{Term}
use Rattle.aml_block.specs.declared.term.Term.TheVariants.{Scope, Device, Processor}
use Rattle.aml_block.specs.declared.opcode.TheConstants.{SCOPE_OP, DEVICE_OP, PROCESSOR_OP}

-- # Parts

-- it has a segment, so it names an object in a scope
abbrev pub HasSegment : Path → Type 0
HasSegment path = 0 < length path.segs

-- a name with a segment
pub record Named (path : Path) (bytes : List ℕ) : Type 0 where
  pub name : NameOf path bytes
  pub some : HasSegment path

-- it fails as a name, or at the null name in place of its segments
pub data NamedFails : ℕ → List ℕ → DataFault → Type 0 where
  fails_as_name : {end : ℕ} {bytes : List ℕ} {fault : DataFault} → NameFails end bytes fault → NamedFails end bytes fault
  fails_without_segment : {end ups : ℕ} {root : Bool} (p rest : List ℕ) → Prefix root ups p
      → NamedFails end (p ++ (NULL_NAME ∷ rest)) (BadName (end - length (NULL_NAME ∷ rest)))

-- # Layouts

-- a Name: its name and its object (ACPI 6.5, 20.2.5.1)
abbrev pub NameLayout : Path × Data → List ℕ → Type 0
NameLayout = Both Named Spells

abbrev pub NameLayoutFails : ℕ → List ℕ → DataFault → Type 0
NameLayoutFails = BothFail NamedFails Named Fails

-- an Alias: the name of an object, and its second name (ACPI 6.5, 20.2.5.1)
abbrev pub AliasLayout : Path × Path → List ℕ → Type 0
AliasLayout = Both NameOf Named

abbrev pub AliasLayoutFails : ℕ → List ℕ → DataFault → Type 0
AliasLayoutFails = BothFail NameFails NameOf NamedFails

-- an External: its name, and the bytes of its type and of its number of arguments (ACPI 6.5, 20.2.5.2)
abbrev pub ExternalLayout : Path × (ℕ × ℕ) → List ℕ → Type 0
ExternalLayout = Both NameOf (Both Byte Byte)

abbrev pub ExternalLayoutFails : ℕ → List ℕ → DataFault → Type 0
ExternalLayoutFails = BothFail NameFails NameOf (BothFail (FewerThan 1) Byte (FewerThan 1))

-- a Mutex: its name and its flags (ACPI 6.5, 20.2.5.2)
abbrev pub MutexLayout : Path × ℕ → List ℕ → Type 0
MutexLayout = Both NameOf Byte

abbrev pub MutexLayoutFails : ℕ → List ℕ → DataFault → Type 0
MutexLayoutFails = BothFail NameFails NameOf (FewerThan 1)

-- an OperationRegion: its name, its space, its offset and its length (ACPI 6.5, 20.2.5.2)
abbrev pub RegionLayout : Path × (ℕ × (ℕ × ℕ)) → List ℕ → Type 0
RegionLayout = Both NameOf (Both Byte (Both Const Const))

abbrev pub RegionLayoutFails : ℕ → List ℕ → DataFault → Type 0
RegionLayoutFails = BothFail NameFails NameOf (BothFail (FewerThan 1) Byte (BothFail ConstFails Const ConstFails))

-- what stands before the terms in a Processor: its name, its identifier, and the address and length of its registers (ACPI 5.1, 20.2.5.2)
abbrev pub ProcessorLayout : Path × (ℕ × (ℕ × ℕ)) → List ℕ → Type 0
ProcessorLayout = Both Named (Both Byte (Both Double Byte))

abbrev pub ProcessorLayoutFails : ℕ → List ℕ → DataFault → Type 0
ProcessorLayoutFails = BothFail NamedFails Named (BothFail (FewerThan 1) Byte (BothFail (FewerThan 4) Double (FewerThan 1)))

-- # Terms that hold terms

-- What stands in front of the terms that a term of an opcode holds, and the term that they make with it: a name, for a
-- Device one with a segment, and for a Processor its registers too (ACPI 6.5, 20.2.5.1 and 20.2.5.2).
pub data Head : ℕ → (List Term → Term) → List ℕ → Type 0 where
  scope_head : {path : Path} {b : List ℕ} → NameOf path b → Head SCOPE_OP (λ terms. Scope path terms) b
  device_head : {path : Path} {b : List ℕ} → Named path b → Head DEVICE_OP (λ terms. Device path terms) b
  processor_head : {path : Path} {id block len : ℕ} {b : List ℕ} → ProcessorLayout (path, (id, (block, len))) b
      → Head PROCESSOR_OP (λ terms. Processor path id block len terms) b

-- its first fault
pub data HeadFails : ℕ → ℕ → List ℕ → DataFault → Type 0 where
  scope_head_fails : {end : ℕ} {bytes : List ℕ} {fault : DataFault} → NameFails end bytes fault → HeadFails SCOPE_OP end bytes fault
  device_head_fails : {end : ℕ} {bytes : List ℕ} {fault : DataFault} → NamedFails end bytes fault → HeadFails DEVICE_OP end bytes fault
  processor_head_fails : {end : ℕ} {bytes : List ℕ} {fault : DataFault} → ProcessorLayoutFails end bytes fault
      → HeadFails PROCESSOR_OP end bytes fault
