-- What spells terms (ACPI 6.5, 20.2.5).
use Rattle.std.specs.Prelude.{ℕ, suc, IsTrue, List, [], ◌∷◌, ◌++◌}
use Rattle.aml_data.specs.declared.data.Data.{Data}
use Rattle.aml_data.specs.declared.path.Path.{Path}
use Rattle.aml_data.specs.Grammar.{NameOf}
use Rattle.aml_data.specs.Layouts.{Holds}
use Rattle.aml_block.specs.declared.term.Term.{Term}
use Rattle.aml_block.specs.declared.term.Term.TheVariants.{Name, Unread, Alias, External, Mutex, Event, Region}
use Rattle.aml_block.specs.declared.term.TheConstants.{DEEPEST}
use Rattle.aml_block.specs.declared.opcode.TheConstants.{NAME_OP, ALIAS_OP, EXTERNAL_OP, MUTEX_OP, EVENT_OP, OP_REGION_OP}
use Rattle.aml_block.specs.Opcodes.{opcode_bytes, is_unread}
use Rattle.aml_block.specs.Layouts.{NameLayout, AliasLayout, ExternalLayout, MutexLayout, RegionLayout, Head}

-- A term in which Scope, Device and Processor nest at most so deep, and a list of such terms one after the other: the opcode,
-- and then the layout. A term that holds terms has its head and these terms behind a PkgLength.
mutual
  pub data TermSpellsWithin : ℕ → Term → List ℕ → Type 0 where
    spells_name_term : {depth : ℕ} {path : Path} {value : Data} {b : List ℕ} → NameLayout (path, value) b
        → TermSpellsWithin depth (Name path value) (opcode_bytes NAME_OP ++ b)
    spells_alias : {depth : ℕ} {source alias : Path} {b : List ℕ} → AliasLayout (source, alias) b
        → TermSpellsWithin depth (Alias source alias) (opcode_bytes ALIAS_OP ++ b)
    spells_external : {depth kind args : ℕ} {path : Path} {b : List ℕ} → ExternalLayout (path, (kind, args)) b
        → TermSpellsWithin depth (External path kind args) (opcode_bytes EXTERNAL_OP ++ b)
    spells_mutex : {depth flags : ℕ} {path : Path} {b : List ℕ} → MutexLayout (path, flags) b
        → TermSpellsWithin depth (Mutex path flags) (opcode_bytes MUTEX_OP ++ b)
    spells_event : {depth : ℕ} {path : Path} {b : List ℕ} → NameOf path b
        → TermSpellsWithin depth (Event path) (opcode_bytes EVENT_OP ++ b)
    spells_region : {depth space offset len : ℕ} {path : Path} {b : List ℕ} → RegionLayout (path, (space, (offset, len))) b
        → TermSpellsWithin depth (Region path space offset len) (opcode_bytes OP_REGION_OP ++ b)
    spells_unread : {depth opcode : ℕ} {body b : List ℕ} → IsTrue (is_unread opcode) → Holds body b
        → TermSpellsWithin depth (Unread opcode body) (opcode_bytes opcode ++ b)
    spells_holder : {depth opcode : ℕ} {make : List Term → Term} {terms : List Term} {b : List ℕ} (head body : List ℕ)
        → Holds (head ++ body) b
        → Head opcode make head → TermsSpellWithin depth terms body → TermSpellsWithin (suc depth) (make terms) (opcode_bytes opcode ++ b)

  pub data TermsSpellWithin : ℕ → List Term → List ℕ → Type 0 where
    spells_no_term : {depth : ℕ} → TermsSpellWithin depth [] []
    spells_more_terms : {depth : ℕ} {term : Term} {terms : List Term} {b bs : List ℕ} → TermSpellsWithin depth term b
        → TermsSpellWithin depth terms bs
        → TermsSpellWithin depth (term ∷ terms) (b ++ bs)

-- The terms of a block: Scope, Device and Processor nest no deeper than this project's profile allows.
abbrev pub TermsSpell : List Term → List ℕ → Type 0
TermsSpell terms b = TermsSpellWithin DEEPEST terms b
