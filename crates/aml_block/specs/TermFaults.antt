-- The first fault of terms: the parts before it are spelled in order, and the next part fails. The bytes end at `end`, so a
-- byte that stands before n more has the place end - (n + 1).
use Rattle.std.specs.Prelude.{◌≡◌, ◌≢◌, ℕ, zero, suc, ◌+◌, ◌-◌, false, IsTrue, List, [], ◌∷◌, ◌++◌, length}
use Rattle.aml_data.specs.declared.fault.DataFault.{DataFault}
use Rattle.aml_data.specs.declared.fault.DataFault.TheVariants.{Short, TooDeep}
use Rattle.aml_data.specs.Layouts.{Holds, SizedFails}
use Rattle.aml_data.specs.Faults.{LenFails, NameFails}
use Rattle.aml_block.specs.declared.term.Term.{Term}
use Rattle.aml_block.specs.declared.term_fault.TermFault.{TermFault}
use Rattle.aml_block.specs.declared.term_fault.TermFault.TheVariants.{Data as in_data, BadTerm}
use Rattle.aml_block.specs.declared.term.TheConstants.{DEEPEST}
use Rattle.aml_data.specs.declared.opcode.TheConstants.{EXT_OP_PREFIX}
use Rattle.aml_block.specs.declared.opcode.TheConstants.{EXTENDED, NAME_OP, ALIAS_OP, EXTERNAL_OP, MUTEX_OP, EVENT_OP, OP_REGION_OP}
use Rattle.aml_block.specs.Opcodes.{opcode_bytes, is_term, is_holder, is_unread}
use Rattle.aml_block.specs.Layouts.{NameLayoutFails, AliasLayoutFails, ExternalLayoutFails, MutexLayoutFails, RegionLayoutFails, Head, HeadFails}
use Rattle.aml_block.specs.Grammar.{TermSpellsWithin}

-- A term that may nest so deep: its opcode, and then its layout. In a term that holds terms these are the nesting, the
-- PkgLength, its head, and the terms; what is inside a PkgLength ends where its bytes end.
mutual
  pub data TermFailsWithin : ℕ → ℕ → List ℕ → TermFault → Type 0 where
    fails_no_term : {depth end : ℕ} → TermFailsWithin depth end [] (in_data (Short end))
    fails_no_second : {depth end : ℕ} → TermFailsWithin depth end (EXT_OP_PREFIX ∷ []) (in_data (Short end))
    fails_opcode : {depth end lead : ℕ} {rest : List ℕ} → lead ≢ EXT_OP_PREFIX → is_term lead ≡ false
        → TermFailsWithin depth end (lead ∷ rest) (BadTerm (end - length (lead ∷ rest)) lead)
    fails_second : {depth end b : ℕ} {rest : List ℕ} → is_term (EXTENDED + b) ≡ false
        → TermFailsWithin depth end (EXT_OP_PREFIX ∷ b ∷ rest) (BadTerm (end - length (EXT_OP_PREFIX ∷ b ∷ rest)) (EXTENDED + b))
    fails_in_name : {depth end : ℕ} {rest : List ℕ} {fault : DataFault} → NameLayoutFails end rest fault
        → TermFailsWithin depth end (opcode_bytes NAME_OP ++ rest) (in_data fault)
    fails_in_alias : {depth end : ℕ} {rest : List ℕ} {fault : DataFault} → AliasLayoutFails end rest fault
        → TermFailsWithin depth end (opcode_bytes ALIAS_OP ++ rest) (in_data fault)
    fails_in_external : {depth end : ℕ} {rest : List ℕ} {fault : DataFault} → ExternalLayoutFails end rest fault
        → TermFailsWithin depth end (opcode_bytes EXTERNAL_OP ++ rest) (in_data fault)
    fails_in_mutex : {depth end : ℕ} {rest : List ℕ} {fault : DataFault} → MutexLayoutFails end rest fault
        → TermFailsWithin depth end (opcode_bytes MUTEX_OP ++ rest) (in_data fault)
    fails_in_event : {depth end : ℕ} {rest : List ℕ} {fault : DataFault} → NameFails end rest fault
        → TermFailsWithin depth end (opcode_bytes EVENT_OP ++ rest) (in_data fault)
    fails_in_region : {depth end : ℕ} {rest : List ℕ} {fault : DataFault} → RegionLayoutFails end rest fault
        → TermFailsWithin depth end (opcode_bytes OP_REGION_OP ++ rest) (in_data fault)
    fails_in_unread : {depth end : ℕ} {fault : DataFault} (opcode : ℕ) (rest : List ℕ) → IsTrue (is_unread opcode) → LenFails end rest fault
        → TermFailsWithin depth end (opcode_bytes opcode ++ rest) (in_data fault)
    fails_too_deep : {end : ℕ} (opcode : ℕ) (rest : List ℕ) → IsTrue (is_holder opcode)
        → TermFailsWithin zero end (opcode_bytes opcode ++ rest) (in_data (TooDeep (end - length (opcode_bytes opcode ++ rest))))
    fails_in_head : {depth end : ℕ} {fault : DataFault} (opcode : ℕ) (rest : List ℕ) → IsTrue (is_holder opcode)
        → SizedFails (HeadFails opcode) end rest fault
        → TermFailsWithin (suc depth) end (opcode_bytes opcode ++ rest) (in_data fault)
    fails_in_inner_term : {depth end opcode : ℕ} {make : List Term → Term} {b : List ℕ} {fault : TermFault} (head body rest : List ℕ)
        → Holds (head ++ body) b
        → Head opcode make head → TermsFailWithin depth (end - length rest) body fault
        → TermFailsWithin (suc depth) end (opcode_bytes opcode ++ (b ++ rest)) fault

  -- terms to the end of the bytes: this one, or one after it
  pub data TermsFailWithin : ℕ → ℕ → List ℕ → TermFault → Type 0 where
    fails_this_term : {depth end b : ℕ} {rest : List ℕ} {fault : TermFault} → TermFailsWithin depth end (b ∷ rest) fault
        → TermsFailWithin depth end (b ∷ rest) fault
    fails_later_term : {depth end : ℕ} {fault : TermFault} (term : Term) (b rest : List ℕ) → TermSpellsWithin depth term b
        → TermsFailWithin depth end rest fault
        → TermsFailWithin depth end (b ++ rest) fault

-- the terms of a block
abbrev pub TermsFail : ℕ → List ℕ → TermFault → Type 0
TermsFail end bytes fault = TermsFailWithin DEEPEST end bytes fault
