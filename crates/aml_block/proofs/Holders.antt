-- Terms that hold terms, of any opcode.
use Rattle.std.proofs.Common.{◌≡◌, ◌+◌, ◌-◌, ℕ, zero, suc, true, List, ◌++◌, length, Option, Some, None, Ok, Err, refl, sym, ap, subst, ◌∙◌, inl, inr, append_assoc}
use Rattle.aml_data.specs.declared.fault.DataFault.{DataFault}
use Rattle.aml_data.specs.declared.fault.DataFault.TheVariants.{TooDeep}
use Rattle.aml_data.specs.Grammar.{Len}
use Rattle.aml_data.specs.Faults.{LenFails}
use Rattle.aml_data.specs.inner.Reading.{window_at}
use Rattle.aml_data.proofs.Steps.{IsBytes, Takes}
use Rattle.aml_data.proofs.LengthSpellings.{window_takes, window_again, window_fails, window_refused}
use Rattle.pw_base.specs.Answers.{◌>>=◌}
use Rattle.aml_block.specs.declared.term.Term.{Term}
use Rattle.aml_block.specs.declared.term_fault.TermFault.{TermFault}
use Rattle.aml_block.specs.declared.term_fault.TermFault.TheVariants.{Data as in_data}
use Rattle.aml_block.specs.Grammar.{TermsSpellWithin}
use Rattle.aml_block.specs.TermFaults.{TermsFailWithin}
use Rattle.aml_block.specs.inner.TermReading.{Read, part, all_by, holder_at}
use Rattle.aml_block.specs.Layouts.{Head, HeadFails}
use Rattle.aml_block.specs.Opcodes.{is_holder}
use Rattle.aml_block.specs.inner.Fronts.{head_at}
use Rattle.aml_block.proofs.PartLaws.{Laws, heads}
use Rattle.aml_block.proofs.Chains.{bind_ok, bind_err, part_ok, part_err, err_is}
use Rattle.aml_block.proofs.TermParts.{Takes-met, TermLaws, all_take, all_again, all_fail, all_refused}

-- how the terms in a term are read, where so many levels may be opened
abbrev pub Inner : ℕ → Option (ℕ → List ℕ → Read Term) → Type 0
Inner zero None = Unit {0}
Inner zero (Some read) = ⊥
Inner (suc depth) None = ⊥
Inner (suc depth) (Some read) = TermLaws depth read

-- what a term of an opcode that holds terms spells, behind the opcode
abbrev pub Row : ℕ → ℕ → (Term → List ℕ → Type 0) → Type 0
Row opcode depth P = (v : List Term → Term) (terms : List Term) (p h body : List ℕ) → Len (length p + length (h ++ body)) p → Head opcode v h → TermsSpellWithin depth terms body
    → P (v terms) (p ++ (h ++ body))

module _ (opcode : ℕ) (is : is_holder opcode ≡ true) where
  laws : Laws (Head opcode) (HeadFails opcode) (head_at opcode)
  laws = heads opcode is

  holder_made : (depth : ℕ) (P : Term → List ℕ → Type 0) → Row opcode depth P → (v : List Term → Term) (terms : List Term) (p inside h body after bytes : List ℕ) → bytes ≡ p ++ (inside ++ after)
      → inside ≡ h ++ body
      → Len (length p + length inside) p → Head opcode v h → TermsSpellWithin depth terms body → IsBytes after → Takes P bytes (v terms, after)
  holder_made depth P row v terms p inside h body after bytes parts split len s ts fits = record {
    front = p ++ (h ++ body);
    parts = parts ∙ ap (λ (i : List ℕ). p ++ (i ++ after)) split ∙ sym (append_assoc p (h ++ body) after);
    spelled = row v terms p h body (subst (λ (i : List ℕ). Len (length p + length i) p) split len) s ts;
    rest_fits = fits;
  }

  holder_takes : (depth : ℕ) (read : ℕ → List ℕ → Read Term) → TermLaws depth read → (P : Term → List ℕ → Type 0) → Row opcode depth P
      → (at end : ℕ) (bytes : List ℕ) (x : Term × List ℕ) → IsBytes bytes → holder_at (Some read) opcode at end bytes ≡ Ok x → Takes P bytes x
  unfolding holder_at
  holder_takes depth read inner P row at end bytes x fits e =
      let a = bind_ok (part (window_at end bytes)) (λ w. part (head_at opcode (end - length w.1) w.0) >>= λ h. all_by read (end - length w.1) h.1 >>= λ terms. Ok (h.0 terms, w.1)) x e in
      let w = window_takes end bytes a.0 fits (part_ok (window_at end bytes) a.0 a.1) in
      let b = bind_ok (part (head_at opcode (end - length a.0.1) a.0.0)) (λ h. all_by read (end - length a.0.1) h.1 >>= λ terms. Ok (h.0 terms, a.0.1)) x a.2 in
      let h = laws.takes (end - length a.0.1) a.0.0 b.0 w.inside_fits (part_ok (head_at opcode (end - length a.0.1) a.0.0) b.0 b.1) in
      let c = bind_ok (all_by read (end - length a.0.1) b.0.1) (λ terms. Ok (b.0.0 terms, a.0.1)) x b.2 in
      let ts = all_take depth read inner (end - length a.0.1) b.0.1 c.0 h.rest_fits c.1 in
      Takes-met P bytes (b.0.0 c.0, a.0.1) x c.2
      (holder_made depth P row b.0.0 c.0 w.front a.0.0 h.front b.0.1 a.0.1 bytes w.parts h.parts w.spelled h.spelled ts w.rest_fits)

  pub any_takes : (P : ℕ → Term → List ℕ → Type 0) → ((depth : ℕ) → Row opcode depth (P (suc depth))) → (depth : ℕ) (inner : Option (ℕ → List ℕ → Read Term)) → Inner depth inner
      → (at end : ℕ) (bytes : List ℕ) (x : Term × List ℕ) → IsBytes bytes → holder_at inner opcode at end bytes ≡ Ok x → Takes (P depth) bytes x
  unfolding holder_at
  any_takes P row zero None h at end bytes x fits e = absurd cc
  any_takes P row zero (Some read) h at end bytes x fits e = absurd h
  any_takes P row (suc depth) None h at end bytes x fits e = absurd h
  any_takes P row (suc depth) (Some read) h at end bytes x fits e = holder_takes depth read h (P (suc depth)) (row depth) at end bytes x fits e

  pub any_again : (depth : ℕ) (inner : Option (ℕ → List ℕ → Read Term)) → Inner (suc depth) inner → (at end : ℕ) (v : List Term → Term) (terms : List Term) (p h body rest : List ℕ)
      → Len (length p + length (h ++ body)) p → Head opcode v h → TermsSpellWithin depth terms body → holder_at inner opcode at end ((p ++ (h ++ body)) ++ rest) ≡ Ok (v terms, rest)
  unfolding holder_at
  any_again depth None i at end v terms p h body rest len s ts = absurd i
  any_again depth (Some read) i at end v terms p h body rest len s ts =
      ap (holder_at (Some read) opcode at end) (append_assoc p (h ++ body) rest)
      ∙ rw (window_again end p (h ++ body) rest len, laws.again (end - length rest) v h body s, all_again depth read i (end - length rest) terms body ts) refl

  holder_fails : (depth : ℕ) (read : ℕ → List ℕ → Read Term) → TermLaws depth read → (P : TermFault → Type 0) (end : ℕ) (bytes : List ℕ)
      → ((d : DataFault) → LenFails end bytes d → P (in_data d))
      → ((p inside rest : List ℕ) (d : DataFault) → bytes ≡ p ++ (inside ++ rest) → Len (length p + length inside) p → HeadFails opcode (end - length rest) inside d → P (in_data d))
      → ((v : List Term → Term) (p h body rest : List ℕ) (f : TermFault) → bytes ≡ p ++ ((h ++ body) ++ rest) → Len (length p + length (h ++ body)) p → Head opcode v h
      → TermsFailWithin depth (end - length rest) body f → P f)
      → (at : ℕ) (fault : TermFault) → IsBytes bytes → holder_at (Some read) opcode at end bytes ≡ Err fault → P fault
  unfolding holder_at
  holder_fails depth read inner P end bytes in_length in_head in_terms at fault fits e =
      elim (bind_err (part (window_at end bytes)) (λ w. part (head_at opcode (end - length w.1) w.0) >>= λ h. all_by read (end - length w.1) h.1 >>= λ terms. Ok (h.0 terms, w.1)) fault e) [
        | inl k ↦ let d = part_err (window_at end bytes) fault k in subst P d.2 (in_length d.0 (window_fails end bytes d.0 fits d.1))
        | inr a ↦
            let w = window_takes end bytes a.0 fits (part_ok (window_at end bytes) a.0 a.1) in
            elim (bind_err (part (head_at opcode (end - length a.0.1) a.0.0)) (λ h. all_by read (end - length a.0.1) h.1 >>= λ terms. Ok (h.0 terms, a.0.1)) fault a.2) [
              | inl k ↦
                  let d = part_err (head_at opcode (end - length a.0.1) a.0.0) fault k in
                  subst P d.2 (in_head w.front a.0.0 a.0.1 d.0 w.parts w.spelled (laws.fails (end - length a.0.1) a.0.0 d.0 w.inside_fits d.1))
              | inr b ↦
                  let h = laws.takes (end - length a.0.1) a.0.0 b.0 w.inside_fits (part_ok (head_at opcode (end - length a.0.1) a.0.0) b.0 b.1) in
                  elim (bind_err (all_by read (end - length a.0.1) b.0.1) (λ terms. Ok (b.0.0 terms, a.0.1)) fault b.2) [
                    | inl k ↦
                        in_terms b.0.0 w.front h.front b.0.1 a.0.1 fault (w.parts ∙ ap (λ (i : List ℕ). w.front ++ (i ++ a.0.1)) h.parts)
                        (subst (λ (i : List ℕ). Len (length w.front + length i) w.front) h.parts w.spelled) h.spelled
                        (all_fail depth read inner (end - length a.0.1) b.0.1 fault h.rest_fits k)
                    | inr c ↦ absurd (let impossible = c.2 in cc)
                  ]
            ]
      ]

  pub any_fails : (P : ℕ → TermFault → Type 0) (at end : ℕ) (bytes : List ℕ) → P zero (in_data (TooDeep at))
      → ((depth : ℕ) (d : DataFault) → LenFails end bytes d → P (suc depth) (in_data d))
      → ((depth : ℕ) (p inside rest : List ℕ) (d : DataFault) → bytes ≡ p ++ (inside ++ rest) → Len (length p + length inside) p → HeadFails opcode (end - length rest) inside d
      → P (suc depth) (in_data d))
      → ((depth : ℕ) (v : List Term → Term) (p h body rest : List ℕ) (f : TermFault) → bytes ≡ p ++ ((h ++ body) ++ rest) → Len (length p + length (h ++ body)) p → Head opcode v h
      → TermsFailWithin depth (end - length rest) body f → P (suc depth) f)
      → (depth : ℕ) (inner : Option (ℕ → List ℕ → Read Term)) → Inner depth inner → (fault : TermFault) → IsBytes bytes → holder_at inner opcode at end bytes ≡ Err fault → P depth fault
  unfolding holder_at
  any_fails P at end bytes deep in_length in_head in_terms zero None h fault fits e = subst (P zero) (err_is {A = Term × List ℕ} _ _ e) deep
  any_fails P at end bytes deep in_length in_head in_terms zero (Some read) h fault fits e = absurd h
  any_fails P at end bytes deep in_length in_head in_terms (suc depth) None h fault fits e = absurd h
  any_fails P at end bytes deep in_length in_head in_terms (suc depth) (Some read) h fault fits e =
      holder_fails depth read h (P (suc depth)) end bytes (in_length depth) (in_head depth) (in_terms depth) at fault fits e

  pub deep_refused : (inner : Option (ℕ → List ℕ → Read Term)) → Inner zero inner → (at end : ℕ) (bytes : List ℕ) → holder_at inner opcode at end bytes ≡ Err (in_data (TooDeep at))
  unfolding holder_at
  deep_refused None h at end bytes = refl
  deep_refused (Some read) h at end bytes = absurd h

  pub length_refused : (depth : ℕ) (inner : Option (ℕ → List ℕ → Read Term)) → Inner (suc depth) inner → (at end : ℕ) (bytes : List ℕ) (d : DataFault) → LenFails end bytes d
      → holder_at inner opcode at end bytes ≡ Err (in_data d)
  unfolding holder_at
  length_refused depth None i at end bytes d h = absurd i
  length_refused depth (Some read) i at end bytes d h = rw (window_refused end bytes d h) refl

  pub head_refused : (depth : ℕ) (inner : Option (ℕ → List ℕ → Read Term)) → Inner (suc depth) inner → (at end : ℕ) (p inside rest : List ℕ) (d : DataFault) → Len (length p + length inside) p
      → HeadFails opcode (end - length rest) inside d → holder_at inner opcode at end (p ++ (inside ++ rest)) ≡ Err (in_data d)
  unfolding holder_at
  head_refused depth None i at end p inside rest d len h = absurd i
  head_refused depth (Some read) i at end p inside rest d len h = rw (window_again end p inside rest len, laws.refused (end - length rest) inside d h) refl

  pub terms_refused : (depth : ℕ) (inner : Option (ℕ → List ℕ → Read Term)) → Inner (suc depth) inner → (at end : ℕ) (v : List Term → Term) (p h body rest : List ℕ) (f : TermFault)
      → Len (length p + length (h ++ body)) p → Head opcode v h → TermsFailWithin depth (end - length rest) body f → holder_at inner opcode at end (p ++ ((h ++ body) ++ rest)) ≡ Err f
  unfolding holder_at
  terms_refused depth None i at end v p h body rest f len s t = absurd i
  terms_refused depth (Some read) i at end v p h body rest f len s t =
      rw (window_again end p (h ++ body) rest len, laws.again (end - length rest) v h body s, all_refused depth read i (end - length rest) body f t) refl
