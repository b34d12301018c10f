-- The terms that are read so far, and those that follow.
use Rattle.std.proofs.Common.{◌≡◌, ◌<◌, ◌-◌, ℕ, zero, suc, Bool, false, ◌==◌, List, [], ◌∷◌, ◌++◌, length, Result, Ok, Err, refl, sym, ap, subst, ◌∙◌, append_assoc, arith}
use Rattle.std.proofs.lemmas.List.{append-nil}
use Rattle.pw_base.specs.Answers.{◌>>=◌}
use Rattle.aml_block.specs.declared.term.Term.{Term}
use Rattle.aml_block.specs.declared.term_fault.TermFault.{TermFault}
use Rattle.aml_data.specs.inner.Reading.{window_at}
use Rattle.aml_block.specs.inner.Fronts.{head_at}
use Rattle.aml_block.specs.inner.TermReading.{Read, terms_by, terms_within, holder_at, within}

-- a test that a list is empty, which it isn't
pub not_empty : (xs : List ℕ) (b : Bool) → b ≡ (length xs == 0) → b ≡ false → 0 < length xs
not_empty [] b e n = absurd cc
not_empty (x ∷ xs) b e n = omega arith

abbrev pub with_terms : List Term → Result (List Term) TermFault → Result (List Term) TermFault
with_terms front (Ok terms) = Ok (front ++ terms)
with_terms front (Err e) = Err e

pub with_none : (r : Result (List Term) TermFault) → with_terms [] r ≡ r
with_none (Ok terms) = refl
with_none (Err e) = refl

one_more : (front : List Term) (term : Term) (r : Result (List Term) TermFault) → with_terms front (r >>= λ others. Ok (term ∷ others)) ≡ with_terms (front ++ term ∷ []) r
one_more front term (Ok terms) = ap (λ ts. Ok ts) (sym (append_assoc front (term ∷ []) terms))
one_more front term (Err e) = refl

module _ (read : ℕ → List ℕ → Read Term) where
  -- the first of some terms, and then the others
  pub terms_more : (n end : ℕ) (bytes : List ℕ) → 0 < length bytes
      → terms_by read (suc n) end bytes ≡ (read end bytes >>= λ first. terms_by read n end first.1 >>= λ others. Ok (first.0 ∷ others))
  terms_more n end [] h = absurd (omega arith)
  terms_more n end (b ∷ bytes) h = refl

  at_suc : (front : List Term) (n end : ℕ) (rest after : List ℕ) (term : Term) → 0 < length rest → read end rest ≡ Ok (term, after)
      → with_terms front (terms_by read (suc n) end rest) ≡ with_terms (front ++ term ∷ []) (terms_by read n end after)
  at_suc front n end rest after term h e = ap (with_terms front) (terms_more n end rest h) ∙ rw e (one_more front term (terms_by read n end after))

  pub go_on : (front : List Term) (n m end : ℕ) (rest after : List ℕ) (term : Term) (whole : Result (List Term) TermFault) → 0 < length rest → n ≡ suc m
      → read end rest ≡ Ok (term, after) → with_terms front (terms_by read n end rest) ≡ whole → with_terms (front ++ term ∷ []) (terms_by read m end after) ≡ whole
  go_on front n m end rest after term whole h s e told =
      sym (at_suc front m end rest after term h e) ∙ subst (λ k. with_terms front (terms_by read k end rest) ≡ whole) s told

  pub stop : (front : List Term) (n m end : ℕ) (rest : List ℕ) (fault : TermFault) (whole : Result (List Term) TermFault) → 0 < length rest → n ≡ suc m
      → read end rest ≡ Err fault → with_terms front (terms_by read n end rest) ≡ whole → whole ≡ Err fault
  stop front n m end rest fault whole h s e told =
      let told' : with_terms front (terms_by read (suc m) end rest) ≡ whole = subst (λ k. with_terms front (terms_by read k end rest) ≡ whole) s told in
      sym told' ∙ ap (with_terms front) (terms_more m end rest h) ∙ rw e refl

  pub finish : (front : List Term) (n end : ℕ) (rest : List ℕ) (whole : Result (List Term) TermFault) → length rest ≡ 0
      → with_terms front (terms_by read n end rest) ≡ whole → whole ≡ Ok front
  finish front n end [] whole h told = sym told ∙ ap (λ ts. Ok ts) (append-nil front)
  finish front n end (b ∷ rest) whole h told = absurd (omega arith)

-- a term in which a term fails
pub holder_ends : (opcode depth at end : ℕ) (bytes inside after body : List ℕ) (make : List Term → Term) (fault : TermFault) → 0 < depth
    → window_at end bytes ≡ Ok (inside, after) → head_at opcode (end - length after) inside ≡ Ok (make, body) → terms_within (depth - 1) (end - length after) body ≡ Err fault
    → holder_at (within depth) opcode at end bytes ≡ Err fault
unfolding holder_at within
holder_ends opcode zero at end bytes inside after body make fault deep window headed fails = absurd (omega arith)
holder_ends opcode (suc depth) at end bytes inside after body make fault deep window headed fails =
    let k : suc depth - 1 ≡ depth = omega arith in
    let e : terms_within depth (end - length after) body ≡ Err fault = rw k at fails in
    rw (window, headed, e) refl
