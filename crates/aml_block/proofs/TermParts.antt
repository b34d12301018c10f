-- Terms of one layout, and terms that hold terms, of any opcode.
use Rattle.std.proofs.Common.{◌≡◌, ◌<◌, ◌≤◌, ℕ, zero, suc, List, [], ◌∷◌, ◌++◌, length, Result, Ok, Err, refl, ap, subst, ◌∙◌, arith, inl, inr}
use Rattle.std.proofs.Common.{length-append}
use Rattle.aml_data.specs.declared.fault.DataFault.{DataFault}
use Rattle.aml_data.specs.inner.Reading.{Read as ReadPart}
use Rattle.aml_data.proofs.Steps.{IsBytes, Takes, Takes-as}
use Rattle.pw_base.specs.Answers.{◌>>=◌}
use Rattle.aml_block.specs.declared.term.Term.{Term}
use Rattle.aml_block.specs.declared.term_fault.TermFault.{TermFault}
use Rattle.aml_block.specs.declared.term_fault.TermFault.TheVariants.{Data as in_data}
use Rattle.aml_block.specs.Grammar.{TermSpellsWithin, TermsSpellWithin, spells_no_term, spells_more_terms}
use Rattle.aml_block.specs.TermFaults.{TermFailsWithin, TermsFailWithin, fails_this_term, fails_later_term}
use Rattle.aml_block.specs.inner.TermReading.{Read, term_of, terms_by, all_by}
use Rattle.aml_block.proofs.PartLaws.{Laws}
use Rattle.aml_block.proofs.Chains.{done, ok_is, bind_ok, bind_err, made_ok, made_err}
use Rattle.aml_block.proofs.TermLoop.{terms_more}

-- the answer that was met
pub Takes-met : {A : Type 0} (S : A → List ℕ → Type 0) (bytes : List ℕ) (y x : A × List ℕ) → done {E = TermFault} y ≡ done x → Takes S bytes y → Takes S bytes x
Takes-met {A} S bytes y x e t = subst (λ (z : A × List ℕ). Takes S bytes z) (ok_is y x e) t

-- ---- a term of one layout

module _ {A : Type 0} (S : A → List ℕ → Type 0) (F : ℕ → List ℕ → DataFault → Type 0) (read : ℕ → List ℕ → ReadPart A) (laws : Laws S F read) (make : A → Term) where
  pub plain_takes : (P : Term → List ℕ → Type 0) → ((v : A) (b : List ℕ) → S v b → P (make v) b)
      → (end : ℕ) (bytes : List ℕ) (x : Term × List ℕ) → IsBytes bytes → term_of make (read end bytes) ≡ Ok x → Takes P bytes x
  plain_takes P row end bytes x fits e =
      let m = made_ok make (read end bytes) x e in
      Takes-met P bytes (make m.0.0, m.0.1) x m.2 (Takes-as S P bytes m.0 (make m.0.0) (λ c s. row m.0.0 c s) (laws.takes end bytes m.0 fits m.1))

  pub plain_again : (end : ℕ) (v : A) (c rest : List ℕ) → S v c → term_of make (read end (c ++ rest)) ≡ Ok (make v, rest)
  plain_again end v c rest s = rw (laws.again end v c rest s) refl

  pub plain_fails : (P : TermFault → Type 0) (end : ℕ) (bytes : List ℕ) → ((d : DataFault) → F end bytes d → P (in_data d))
      → (fault : TermFault) → IsBytes bytes → term_of make (read end bytes) ≡ Err fault → P fault
  plain_fails P end bytes row fault fits e =
      let m = made_err make (read end bytes) fault e in
      subst P m.2 (row m.0 (laws.fails end bytes m.0 fits m.1))

  pub plain_refused : (end : ℕ) (bytes : List ℕ) (d : DataFault) → F end bytes d → term_of make (read end bytes) ≡ Err (in_data d)
  plain_refused end bytes d h = rw (laws.refused end bytes d h) refl

-- ---- the four laws of terms

pub record TermLaws (depth : ℕ) (read : ℕ → List ℕ → Read Term) : Type 0 where
  pub takes : (end : ℕ) (bytes : List ℕ) (x : Term × List ℕ) → IsBytes bytes → read end bytes ≡ Ok x → Takes (TermSpellsWithin depth) bytes x
  pub again : (end : ℕ) (v : Term) (c rest : List ℕ) → TermSpellsWithin depth v c → read end (c ++ rest) ≡ Ok (v, rest)
  pub fails : (end : ℕ) (bytes : List ℕ) (fault : TermFault) → IsBytes bytes → read end bytes ≡ Err fault → TermFailsWithin depth end bytes fault
  pub refused : (end : ℕ) (bytes : List ℕ) (fault : TermFault) → TermFailsWithin depth end bytes fault → read end bytes ≡ Err fault
  pub some : (v : Term) (c : List ℕ) → TermSpellsWithin depth v c → 0 < length c

fewer : (n : ℕ) (bytes front rest : List ℕ) → length bytes ≤ suc n → bytes ≡ front ++ rest → 0 < length front → length rest ≤ n
fewer n bytes front rest h e some = omega (arith, ap length e, length-append front rest)

-- ---- terms one after the other

module _ (depth : ℕ) (read : ℕ → List ℕ → Read Term) (laws : TermLaws depth read) where
  abbrev the_others : ℕ → ℕ → Term × List ℕ → Result (List Term) TermFault
  the_others n end first = terms_by read n end first.1 >>= λ others. Ok (first.0 ∷ others)

  terms_take : (n end : ℕ) (bytes : List ℕ) (terms : List Term) → length bytes ≤ n → IsBytes bytes → terms_by read n end bytes ≡ Ok terms → TermsSpellWithin depth terms bytes
  terms_take zero end [] terms h fits e = subst (λ (ts : List Term). TermsSpellWithin depth ts []) (ok_is [] terms e) spells_no_term
  terms_take (suc n) end [] terms h fits e = subst (λ (ts : List Term). TermsSpellWithin depth ts []) (ok_is [] terms e) spells_no_term
  terms_take zero end (b ∷ bytes) terms h fits e = absurd (omega arith)
  terms_take (suc n) end (b ∷ bytes) terms h fits e =
      let a = bind_ok (read end (b ∷ bytes)) (the_others n end) terms e in
      let c = bind_ok (terms_by read n end a.0.1) (λ others. Ok (a.0.0 ∷ others)) terms a.2 in
      let t = laws.takes end (b ∷ bytes) a.0 fits a.1 in
      let ts = terms_take n end a.0.1 c.0 (fewer n (b ∷ bytes) t.front a.0.1 h t.parts (laws.some a.0.0 t.front t.spelled)) t.rest_fits c.1 in
      rw t.parts (subst (λ (v : List Term). TermsSpellWithin depth v (t.front ++ a.0.1)) (ok_is (a.0.0 ∷ c.0) terms c.2) (spells_more_terms t.spelled ts))

  terms_again : (n end : ℕ) (terms : List Term) (bytes : List ℕ) → length bytes ≤ n → TermsSpellWithin depth terms bytes → terms_by read n end bytes ≡ Ok terms
  terms_again zero end _ _ h spells_no_term = refl
  terms_again (suc n) end _ _ h spells_no_term = refl
  terms_again zero end _ _ h (spells_more_terms {term = term} {b = b} {bs = bs} t ts) = absurd (omega (arith, length-append b bs, laws.some term b t))
  terms_again (suc n) end _ _ h (spells_more_terms {term = term} {terms = terms} {b = b} {bs = bs} t ts) =
      let some = laws.some term b t in
      let shorter : length bs ≤ n = fewer n (b ++ bs) b bs h refl some in
      terms_more read n end (b ++ bs) (omega (arith, length-append b bs, some)) ∙ rw (laws.again end term b bs t, terms_again n end terms bs shorter ts) refl

  terms_fail : (n end : ℕ) (bytes : List ℕ) (f : TermFault) → length bytes ≤ n → IsBytes bytes → terms_by read n end bytes ≡ Err f → TermsFailWithin depth end bytes f
  terms_fail zero end [] f h fits e = absurd cc
  terms_fail (suc n) end [] f h fits e = absurd cc
  terms_fail zero end (b ∷ bytes) f h fits e = absurd (omega arith)
  terms_fail (suc n) end (b ∷ bytes) f h fits e =
      elim (bind_err (read end (b ∷ bytes)) (the_others n end) f e) [
        | inl t ↦ fails_this_term (laws.fails end (b ∷ bytes) f fits t)
        | inr a ↦
            let t = laws.takes end (b ∷ bytes) a.0 fits a.1 in
            elim (bind_err (terms_by read n end a.0.1) (λ others. Ok (a.0.0 ∷ others)) f a.2) [
              | inl o ↦
                  let shorter = fewer n (b ∷ bytes) t.front a.0.1 h t.parts (laws.some a.0.0 t.front t.spelled) in
                  rw t.parts (fails_later_term a.0.0 t.front a.0.1 t.spelled (terms_fail n end a.0.1 f shorter t.rest_fits o))
              | inr o ↦ absurd (let impossible = o.2 in cc)
            ]
      ]

  terms_refused : (n end : ℕ) (bytes : List ℕ) (f : TermFault) → length bytes ≤ n → TermsFailWithin depth end bytes f → terms_by read n end bytes ≡ Err f
  terms_refused zero end _ f h (fails_this_term t) = absurd (omega arith)
  terms_refused (suc n) end _ f h (fails_this_term {b = b} {rest = rest} t) = rw (laws.refused end (b ∷ rest) f t) refl
  terms_refused zero end _ f h (fails_later_term term b rest t ts) = absurd (omega (arith, length-append b rest, laws.some term b t))
  terms_refused (suc n) end _ f h (fails_later_term term b rest t ts) =
      let some = laws.some term b t in
      let shorter : length rest ≤ n = fewer n (b ++ rest) b rest h refl some in
      terms_more read n end (b ++ rest) (omega (arith, length-append b rest, some)) ∙ rw (laws.again end term b rest t, terms_refused n end rest f shorter ts) refl

  pub all_take : (end : ℕ) (bytes : List ℕ) (terms : List Term) → IsBytes bytes → all_by read end bytes ≡ Ok terms → TermsSpellWithin depth terms bytes
  all_take end bytes terms fits e = terms_take (length bytes) end bytes terms (omega arith) fits e

  pub all_again : (end : ℕ) (terms : List Term) (bytes : List ℕ) → TermsSpellWithin depth terms bytes → all_by read end bytes ≡ Ok terms
  all_again end terms bytes s = terms_again (length bytes) end terms bytes (omega arith) s

  pub all_fail : (end : ℕ) (bytes : List ℕ) (f : TermFault) → IsBytes bytes → all_by read end bytes ≡ Err f → TermsFailWithin depth end bytes f
  all_fail end bytes f fits e = terms_fail (length bytes) end bytes f (omega arith) fits e

  pub all_refused : (end : ℕ) (bytes : List ℕ) (f : TermFault) → TermsFailWithin depth end bytes f → all_by read end bytes ≡ Err f
  all_refused end bytes f h = terms_refused (length bytes) end bytes f (omega arith) h
