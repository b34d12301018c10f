-- Reading what stands in front of the terms that a term holds.
use Rattle.std.specs.Prelude.{ℕ, ◌==◌, List, Ok, Err, if◌then◌else◌}
use Rattle.aml_data.specs.inner.Reading.{Read, byte_at, name_at}
use Rattle.aml_data.specs.declared.path.Path.{Path}
use Rattle.aml_block.specs.declared.front.Front.{Front}
use Rattle.aml_block.specs.declared.front.Front.TheVariants as front
use Rattle.aml_block.specs.declared.opcode.TheConstants.{SCOPE_OP, DEVICE_OP}
use Rattle.aml_block.specs.declared.term.Term.{Term}
use Rattle.aml_block.specs.declared.term.Term.TheVariants.{Scope, Device, Processor}
use Rattle.aml_block.specs.inner.ReadingParts.{both_at, named_at, double_at}

-- the term that holds these terms
abbrev pub with_terms : Front → List Term → Term
with_terms (front.Scope path) terms = Scope path terms
with_terms (front.Device path) terms = Device path terms
with_terms (front.Processor path id block len) terms = Processor path id block len terms

-- what a part is made to
abbrev pub made : {A B : Type 0} → (A → B) → Read A → Read B
made make (Ok x) = Ok (make x.0, x.1)
made make (Err fault) = Err fault

-- the registers of a Processor, behind its name
abbrev pub registers_at : ℕ → List ℕ → Read (ℕ × (ℕ × ℕ))
registers_at end bytes = both_at byte_at (both_at double_at byte_at) end bytes

-- what stands in front of the terms in a Processor
abbrev pub processor_at : ℕ → List ℕ → Read (Path × (ℕ × (ℕ × ℕ)))
processor_at end bytes = both_at named_at registers_at end bytes

-- what stands in front of the terms that a term of this opcode holds, as the term that it makes of them
unfoldable pub head_at : ℕ → ℕ → List ℕ → Read (List Term → Term)
head_at opcode end bytes =
    if opcode == SCOPE_OP then made (λ path terms. Scope path terms) (name_at end bytes)
    else (if opcode == DEVICE_OP then made (λ path terms. Device path terms) (named_at end bytes)
    else made (λ v terms. Processor v.0 v.1.0 v.1.1.0 v.1.1.1 terms) (processor_at end bytes))
