-- The laws of the terms of a block.
use Rattle.std.proofs.Common.{◌≡◌, ◌≢◌, ◌<◌, ◌≤◌, ◌^◌, ◌⊎◌, ℕ, List, length, Result, Ok, Err, IfOk, IfErr, refl, sym, ◌∙◌, inl, inr}
use Rattle.aml_data.specs.Decoded.{AreBytes}
use Rattle.aml_data.proofs.Steps.{IsBytes}
use Rattle.aml_data.proofs.Places.{all_bytes}
use Rattle.aml_block.specs.declared.term.Term.{Term}
use Rattle.aml_block.specs.declared.term_fault.TermFault.{TermFault}
use Rattle.aml_block.specs.declared.term.TheConstants.{DEEPEST}
use Rattle.aml_block.specs.Grammar.{TermsSpell}
use Rattle.aml_block.specs.TermFaults.{TermsFail}
use Rattle.aml_data.specs.declared.fault.DataFault.TheVariants.{Memory}
use Rattle.aml_block.specs.declared.term_fault.TermFault.TheVariants.{Data as in_data}
use Rattle.aml_block.specs.inner.TermReading.{Gives, term_within, terms_at}
use Rattle.aml_block.specs.WrittenTerms.{written_terms, AreWritableTerms}
use Rattle.aml_block.proofs.Chains.{ok_is, err_is}
use Rattle.aml_block.proofs.TermParts.{all_take, all_again, all_fail, all_refused}
use Rattle.aml_block.proofs.TermSteps.{term_laws}
use Rattle.aml_block.proofs.ShortestTerms as shortest

pub terms_take : (end : ℕ) (bytes : List ℕ) (terms : List Term) → IsBytes bytes → terms_at end bytes ≡ Ok terms → TermsSpell terms bytes
unfolding terms_at
terms_take end bytes terms fits e = all_take DEEPEST (term_within DEEPEST) (term_laws DEEPEST) end bytes terms fits e

pub terms_again : (end : ℕ) (terms : List Term) (bytes : List ℕ) → TermsSpell terms bytes → terms_at end bytes ≡ Ok terms
unfolding terms_at
terms_again end terms bytes s = all_again DEEPEST (term_within DEEPEST) (term_laws DEEPEST) end terms bytes s

pub terms_fail : (end : ℕ) (bytes : List ℕ) (f : TermFault) → IsBytes bytes → terms_at end bytes ≡ Err f → TermsFail end bytes f
unfolding terms_at
terms_fail end bytes f fits e = all_fail DEEPEST (term_within DEEPEST) (term_laws DEEPEST) end bytes f fits e

pub terms_refused : (end : ℕ) (bytes : List ℕ) (f : TermFault) → TermsFail end bytes f → terms_at end bytes ≡ Err f
unfolding terms_at
terms_refused end bytes f h = all_refused DEEPEST (term_within DEEPEST) (term_laws DEEPEST) end bytes f h

pub one_list : (a b : List Term) (bytes : List ℕ) → TermsSpell a bytes → TermsSpell b bytes → a ≡ b
one_list a b bytes s t = ok_is a b (sym (terms_again 0 a bytes s) ∙ terms_again 0 b bytes t)

pub one_fault : (end : ℕ) (bytes : List ℕ) (f g : TermFault) → TermsFail end bytes f → TermsFail end bytes g → f ≡ g
one_fault end bytes f g s t = err_is {A = List Term} f g (sym (terms_refused end bytes f s) ∙ terms_refused end bytes g t)

pub no_fault : (end : ℕ) (terms : List Term) (bytes : List ℕ) (f : TermFault) → TermsSpell terms bytes → TermsFail end bytes f → ⊥
no_fault end terms bytes f s t = let q = sym (terms_again end terms bytes s) ∙ terms_refused end bytes f t in cc

-- ---- terms, or a fault

told : (end : ℕ) (bytes : List ℕ) (r : Result (List Term) TermFault) → IsBytes bytes → terms_at end bytes ≡ r
    → ((terms : List Term) × TermsSpell terms bytes) ⊎ ((f : TermFault) × TermsFail end bytes f)
told end bytes (Ok terms) fits e = inl (terms, terms_take end bytes terms fits e)
told end bytes (Err f) fits e = inr (f, terms_fail end bytes f fits e)

pub spelled_or_fault : (end : ℕ) (bytes : List ℕ) → AreBytes bytes → ((terms : List Term) × TermsSpell terms bytes) ⊎ ((f : TermFault) × TermsFail end bytes f)
spelled_or_fault end bytes all = told end bytes (terms_at end bytes) (all_bytes bytes all) refl

pub terms_spelled : (terms : List Term) → AreWritableTerms terms → length (written_terms terms) < 2 ^ 28 → TermsSpell terms (written_terms terms)
terms_spelled terms w short = shortest.are_spelled DEEPEST terms w short

pub terms_least : (terms : List Term) (b : List ℕ) → TermsSpell terms b → length (written_terms terms) ≤ length b
terms_least terms b s = shortest.terms_least DEEPEST terms b s

pub terms_writable : (terms : List Term) (b : List ℕ) → TermsSpell terms b → length b < 2 ^ 28 → AreWritableTerms terms
terms_writable terms b s short = shortest.terms_writable DEEPEST terms b s short

-- ---- an answer that is what reading gives

pub is_found : (end : ℕ) (bytes : List ℕ) (r : Result (List Term) TermFault) → IsBytes bytes → Gives (λ x. x) r (terms_at end bytes) → IfOk r (λ terms. TermsSpell terms bytes)
is_found end bytes (Ok terms) fits given = terms_take end bytes terms fits given
is_found end bytes (Err e) fits given = tt

pub is_fault : (end : ℕ) (bytes : List ℕ) (r : Result (List Term) TermFault) → IsBytes bytes → Gives (λ x. x) r (terms_at end bytes)
    → IfErr r (λ f. f ≢ in_data Memory → TermsFail end bytes f)
is_fault end bytes (Ok terms) fits given = tt
is_fault end bytes (Err e) fits given = λ ne. terms_fail end bytes e fits (given ne)

-- the answer is what reading gives, and so what this is that reading gives
pub is_read : (r read read' : Result (List Term) TermFault) → read ≡ read' → Gives (λ x. x) r read → Gives (λ x. x) r read'
is_read (Ok terms) read read' e given = sym e ∙ given
is_read (Err f) read read' e given = λ ne. sym e ∙ given ne
