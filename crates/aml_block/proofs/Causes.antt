-- No fault of terms is want of memory.
use Rattle.std.proofs.Common.{ℕ, List}
use Rattle.aml_data.specs.declared.fault.DataFault.{DataFault}
use Rattle.aml_data.specs.Faults.{NameFails, ConstFails}
use Rattle.aml_data.specs.Layouts.{FewerThan, BothFail}
use Rattle.aml_data.proofs.Causes.{IsCause, HasCauses, name_cause, constant_cause, length_cause, few_cause, both_cause, sized_cause, object_cause}
use Rattle.aml_block.specs.declared.term_fault.TermFault.{TermFault}
use Rattle.aml_block.specs.declared.term_fault.TermFault.TheVariants.{Data as in_data}
use Rattle.aml_block.specs.declared.term.TheConstants.{DEEPEST}
use Rattle.aml_block.specs.Layouts.{NamedFails, fails_as_name, fails_without_segment, HeadFails, scope_head_fails, device_head_fails, processor_head_fails}
use Rattle.aml_block.specs.TermFaults.{TermFailsWithin, TermsFailWithin, TermsFail, fails_this_term, fails_later_term}
use Rattle.aml_block.specs.TermFaults as terms

-- ---- parts of terms

pub named_cause : (end : ℕ) (bytes : List ℕ) (f : DataFault) → NamedFails end bytes f → IsCause f
named_cause end bytes f (fails_as_name h) = name_cause end bytes f h
named_cause end _ _ (fails_without_segment p rest prefixed) = tt

name_then : {A : Type 0} (S : A → List ℕ → Type 0) (G : ℕ → List ℕ → DataFault → Type 0) → HasCauses G → HasCauses (BothFail NameFails S G)
name_then S G other = both_cause NameFails S G name_cause other

named_then : {A : Type 0} (S : A → List ℕ → Type 0) (G : ℕ → List ℕ → DataFault → Type 0) → HasCauses G → HasCauses (BothFail NamedFails S G)
named_then S G other = both_cause NamedFails S G named_cause other

few_then : {A : Type 0} (n : ℕ) (S : A → List ℕ → Type 0) (G : ℕ → List ℕ → DataFault → Type 0) → HasCauses G → HasCauses (BothFail (FewerThan n) S G)
few_then n S G other = both_cause (FewerThan n) S G (few_cause n) other

constant_then : {A : Type 0} (S : A → List ℕ → Type 0) (G : ℕ → List ℕ → DataFault → Type 0) → HasCauses G → HasCauses (BothFail ConstFails S G)
constant_then S G other = both_cause ConstFails S G constant_cause other

-- ---- terms

-- a first fault of terms
abbrev pub IsTermCause : TermFault → Type 0
IsTermCause (in_data d) = IsCause d
IsTermCause other = Unit {0}

head_cause : (opcode end : ℕ) (bytes : List ℕ) (f : DataFault) → HeadFails opcode end bytes f → IsCause f
head_cause _ end bytes f (scope_head_fails h) = name_cause end bytes f h
head_cause _ end bytes f (device_head_fails h) = named_cause end bytes f h
head_cause _ end bytes f (processor_head_fails h) = named_then _ _ (few_then 1 _ _ (few_then 4 _ _ (few_cause 1))) end bytes f h

mutual
  term_cause : (depth end : ℕ) (bytes : List ℕ) (f : TermFault) → TermFailsWithin depth end bytes f → IsTermCause f
  term_cause _ end _ _ terms.fails_no_term = tt
  term_cause _ end _ _ terms.fails_no_second = tt
  term_cause _ end _ _ (terms.fails_opcode ne none) = tt
  term_cause _ end _ _ (terms.fails_second none) = tt
  term_cause _ end _ _ (terms.fails_in_name {rest = rest} {fault = d} h) = named_then _ _ object_cause end rest d h
  term_cause _ end _ _ (terms.fails_in_alias {rest = rest} {fault = d} h) = name_then _ _ named_cause end rest d h
  term_cause _ end _ _ (terms.fails_in_external {rest = rest} {fault = d} h) = name_then _ _ (few_then 1 _ _ (few_cause 1)) end rest d h
  term_cause _ end _ _ (terms.fails_in_mutex {rest = rest} {fault = d} h) = name_then _ _ (few_cause 1) end rest d h
  term_cause _ end _ _ (terms.fails_in_event {rest = rest} {fault = d} h) = name_cause end rest d h
  term_cause _ end _ _ (terms.fails_in_region {rest = rest} {fault = d} h) = name_then _ _ (few_then 1 _ _ (constant_then _ _ constant_cause)) end rest d h
  term_cause _ end _ _ (terms.fails_in_unread {fault = d} opcode rest is h) = length_cause end rest d h
  term_cause _ end _ _ (terms.fails_too_deep opcode rest is) = tt
  term_cause _ end _ _ (terms.fails_in_head {fault = d} opcode rest is h) = sized_cause (HeadFails opcode) (head_cause opcode) end rest d h
  term_cause _ end _ _ (terms.fails_in_inner_term {fault = f} h body rest held s t) = terms_cause _ _ body f t

  terms_cause : (depth end : ℕ) (bytes : List ℕ) (f : TermFault) → TermsFailWithin depth end bytes f → IsTermCause f
  terms_cause _ end _ f (fails_this_term t) = term_cause _ _ _ f t
  terms_cause _ end _ f (fails_later_term term b rest t ts) = terms_cause _ _ _ f ts

pub block_terms_cause : (end : ℕ) (bytes : List ℕ) (f : TermFault) → TermsFail end bytes f → IsTermCause f
block_terms_cause end bytes f h = terms_cause DEEPEST end bytes f h
