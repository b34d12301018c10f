-- The written form of terms: of every part the shortest spelling, and which terms have one.
use Rattle.std.specs.Prelude.{ℕ, zero, suc, ◌<◌, ◌^◌, IsTrue, List, [], ◌∷◌, ◌++◌, map}
use Rattle.std.specs.List.{AllByRecursion}
use Rattle.std.specs.Int.{w32, to_le_bytes}
use Rattle.aml_data.specs.Segment.{joined}
use Rattle.aml_data.specs.Written.{written, written_constant, written_name, sized, IsWritable, IsWritablePath}
use Rattle.aml_block.specs.declared.term.Term.{Term, Term-F, fold-Term, out-Term}
use Rattle.aml_block.specs.declared.term.Term.TheOpen as layer
use Rattle.aml_block.specs.declared.term.TheConstants.{DEEPEST}
use Rattle.aml_block.specs.declared.opcode.TheConstants.{NAME_OP, ALIAS_OP, EXTERNAL_OP, MUTEX_OP, EVENT_OP, OP_REGION_OP, SCOPE_OP, DEVICE_OP, PROCESSOR_OP}
use Rattle.aml_block.specs.Opcodes.{opcode_bytes, is_unread}
use Rattle.aml_block.specs.Layouts.{HasSegment}

-- what stands between the name and the terms of a Processor
abbrev pub written_registers : ℕ → ℕ → ℕ → List ℕ
written_registers id block len = id ∷ (to_le_bytes w32 block ++ (len ∷ []))

-- one layer of a term, the terms in which are written already
abbrev pub written_layer : Term-F (List ℕ) → List ℕ
written_layer (layer.Name path value) = opcode_bytes NAME_OP ++ (written_name path ++ written value)
written_layer (layer.Scope path terms) = opcode_bytes SCOPE_OP ++ sized (written_name path ++ joined terms)
written_layer (layer.Device path terms) = opcode_bytes DEVICE_OP ++ sized (written_name path ++ joined terms)
written_layer (layer.Processor path id block len terms) = opcode_bytes PROCESSOR_OP
    ++ sized ((written_name path ++ written_registers id block len) ++ joined terms)
written_layer (layer.Unread opcode body) = opcode_bytes opcode ++ sized body
written_layer (layer.Alias source alias) = opcode_bytes ALIAS_OP ++ (written_name source ++ written_name alias)
written_layer (layer.External path kind args) = opcode_bytes EXTERNAL_OP ++ (written_name path ++ (kind ∷ args ∷ []))
written_layer (layer.Mutex path flags) = opcode_bytes MUTEX_OP ++ (written_name path ++ (flags ∷ []))
written_layer (layer.Event path) = opcode_bytes EVENT_OP ++ written_name path
written_layer (layer.Region path space offset len) = opcode_bytes OP_REGION_OP
    ++ (written_name path ++ (space ∷ (written_constant offset ++ written_constant len)))

-- a term
unfoldable pub written_term : Term → List ℕ
written_term = fold-Term (List ℕ) written_layer

-- terms one after the other
abbrev pub written_terms : List Term → List ℕ
written_terms terms = joined (map written_term terms)

-- # What can be written

-- one layer of a term that can be written but for its length: the terms in it can be, as the first argument says, its name
-- can be, an object in it can be, and the body of an unread term follows one of its opcodes
abbrev pub IsWritableLayer : (List Term → Type 0) → Term-F Term → Type 0
IsWritableLayer Inner (layer.Name path value) = IsWritablePath path × HasSegment path × IsWritable value
IsWritableLayer Inner (layer.Scope path terms) = IsWritablePath path × Inner terms
IsWritableLayer Inner (layer.Device path terms) = IsWritablePath path × HasSegment path × Inner terms
IsWritableLayer Inner (layer.Processor path id block len terms) = IsWritablePath path × HasSegment path × (block < 2 ^ 32) × Inner terms
IsWritableLayer Inner (layer.Unread opcode body) = IsTrue (is_unread opcode)
IsWritableLayer Inner (layer.Alias source alias) = IsWritablePath source × IsWritablePath alias × HasSegment alias
IsWritableLayer Inner (layer.External path kind args) = IsWritablePath path
IsWritableLayer Inner (layer.Mutex path flags) = IsWritablePath path
IsWritableLayer Inner (layer.Event path) = IsWritablePath path
IsWritableLayer Inner (layer.Region path space offset len) = IsWritablePath path × (offset < 2 ^ 64) × (len < 2 ^ 64)

-- terms in a term that is one of so many levels that may be opened, which all can be written
unfoldable pub AreWritable : ℕ → List Term → Type 0
AreWritable zero terms = ⊥
AreWritable (suc depth) terms = AllByRecursion (λ term. IsWritableLayer (AreWritable depth) (out-Term term)) terms

-- a term in which so many levels may be opened, and which can be written
abbrev pub IsWritableTerm : ℕ → Term → Type 0
IsWritableTerm depth term = IsWritableLayer (AreWritable depth) (out-Term term)

-- the terms of a block that can be written but for their length
abbrev pub AreWritableTerms : List Term → Type 0
AreWritableTerms terms = AllByRecursion (IsWritableTerm DEEPEST) terms
