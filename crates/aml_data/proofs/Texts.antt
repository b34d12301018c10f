-- Strings: what is read is spelled so, what is spelled so is read, and the first fault.
use Rattle.std.proofs.Common.{◌≡◌, ◌≢◌, ◌≤◌, ◌-◌, ℕ, eqb, leb, List, [], ◌∷◌, ◌++◌, length, Ok, Err, refl, ap, subst, ◌∙◌, arith, inl, inr}
use Rattle.std.specs.List.{AllByRecursion}
use Rattle.std.proofs.lemmas.Bool.{eqb-true, eqb-false, ne_eqb, leb-true, leb-false, le-leb, lt-leb}
use Rattle.aml_data.specs.declared.fault.DataFault.{DataFault}
use Rattle.aml_data.specs.declared.fault.DataFault.TheVariants.{Short, BadText}
use Rattle.aml_data.specs.Grammar.{IsAscii}
use Rattle.aml_data.specs.inner.Reading.{◌>>=◌}
use Rattle.aml_data.specs.inner.ReadingObjects.{text_at}
use Rattle.aml_data.specs.Faults.{TextFails, fails_no_end, fails_high_byte}
use Rattle.aml_data.proofs.Steps.{bind_ok, bind_err, chosen, ok_is, err_is}

-- What was read from bytes: the bytes of a string before the 0 that ends it, and the rest.
pub record TakesText (bytes : List ℕ) (x : List ℕ × List ℕ) : Type 0 where
  pub parts : bytes ≡ x.0 ++ 0 ∷ x.1
  pub ascii : AllByRecursion IsAscii x.0

ended : (b : ℕ) (bytes : List ℕ) → b ≡ 0 → TakesText (b ∷ bytes) ([], bytes)
ended b bytes is = record { parts = ap (λ (c : ℕ). c ∷ bytes) is; ascii = tt }

pub text_takes : (end : ℕ) (bytes : List ℕ) (x : List ℕ × List ℕ) → text_at end bytes ≡ Ok x → TakesText bytes x
unfolding text_at
text_takes end [] x e = absurd cc
text_takes end (b ∷ bytes) x e =
    elim (chosen (eqb b 0) _ _ _ e) [
      | inl h ↦ subst (λ (y : List ℕ × List ℕ). TakesText (b ∷ bytes) y) (ok_is ([], bytes) x h.1) (ended b bytes (eqb-true _ _ h.0))
      | inr h0 ↦
          elim (chosen (leb 128 b) _ _ _ h0.1) [
            | inl h ↦ absurd (let impossible = h.1 in cc)
            | inr h1 ↦
                let a = bind_ok (text_at end bytes) (λ more. Ok (b ∷ more.0, more.1)) x h1.1 in
                let t = text_takes end bytes a.0 a.1 in
                let some = eqb-false _ _ h0.0 in
                subst (λ (y : List ℕ × List ℕ). TakesText (b ∷ bytes) y) (ok_is (b ∷ a.0.0, a.0.1) x a.2) (record {
                  parts = ap (λ (r : List ℕ). b ∷ r) t.parts;
                  ascii = ((omega arith, leb-false _ _ h1.0), t.ascii);
                })
          ]
    ]

next_text : (end b : ℕ) (bytes : List ℕ) → IsAscii b → text_at end (b ∷ bytes) ≡ (text_at end bytes >>= λ more. Ok (b ∷ more.0, more.1))
unfolding text_at
next_text end b bytes ascii =
    let some : b ≢ 0 = let h = ascii.0 in λ none. absurd (omega arith) in
    rw (ne_eqb b 0 some, lt-leb 128 b ascii.1) refl

zero_text : (end : ℕ) (rest : List ℕ) → text_at end (0 ∷ rest) ≡ Ok ([], rest)
unfolding text_at
zero_text end rest = refl

pub text_again : (end : ℕ) (t rest : List ℕ) → AllByRecursion IsAscii t → text_at end (t ++ 0 ∷ rest) ≡ Ok (t, rest)
text_again end [] rest all = zero_text end rest
text_again end (b ∷ t) rest all = next_text end b (t ++ 0 ∷ rest) all.0 ∙ rw (text_again end t rest all.1) refl

-- ---- first faults

later_fault : (end b : ℕ) (bytes : List ℕ) (fault : DataFault) → IsAscii b → TextFails end bytes fault → TextFails end (b ∷ bytes) fault
later_fault end b bytes fault ascii (fails_no_end t all) = fails_no_end (b ∷ t) (ascii, all)
later_fault end b bytes fault ascii (fails_high_byte t rest all high) = fails_high_byte (b ∷ t) rest (ascii, all) high

pub text_fails : (end : ℕ) (bytes : List ℕ) (fault : DataFault) → text_at end bytes ≡ Err fault → TextFails end bytes fault
unfolding text_at
text_fails end [] fault e = subst (λ (f : DataFault). TextFails end [] f) (err_is {A = List ℕ × List ℕ} (Short end) fault e) (fails_no_end [] tt)
text_fails end (b ∷ bytes) fault e =
    elim (chosen (eqb b 0) _ _ _ e) [
      | inl h ↦ absurd (let impossible = h.1 in cc)
      | inr h0 ↦
          elim (chosen (leb 128 b) _ _ _ h0.1) [
            | inl h ↦ subst (λ (f : DataFault). TextFails end (b ∷ bytes) f) (err_is {A = List ℕ × List ℕ} _ fault h.1) (fails_high_byte [] bytes tt (leb-true _ _ h.0))
            | inr h1 ↦
                elim (bind_err (text_at end bytes) (λ more. Ok (b ∷ more.0, more.1)) fault h1.1) [
                  | inl h ↦
                      let some = eqb-false _ _ h0.0 in
                      later_fault end b bytes fault (omega arith, leb-false _ _ h1.0) (text_fails end bytes fault h)
                  | inr a ↦ absurd (let impossible = a.2 in cc)
                ]
          ]
    ]

no_text : (end : ℕ) → text_at end [] ≡ Err (Short end)
unfolding text_at
no_text end = refl

high_text : (end b : ℕ) (rest : List ℕ) → 128 ≤ b → text_at end (b ∷ rest) ≡ Err (BadText (end - length (b ∷ rest)))
unfolding text_at
high_text end b rest high = rw (ne_eqb b 0 (λ none. absurd (omega arith)), le-leb 128 b high) refl

end_refused : (end : ℕ) (t : List ℕ) → AllByRecursion IsAscii t → text_at end t ≡ Err (Short end)
end_refused end [] all = no_text end
end_refused end (b ∷ t) all = next_text end b t all.0 ∙ rw (end_refused end t all.1) refl

high_refused : (end b : ℕ) (t rest : List ℕ) → AllByRecursion IsAscii t → 128 ≤ b → text_at end (t ++ b ∷ rest) ≡ Err (BadText (end - length (b ∷ rest)))
high_refused end b [] rest all high = high_text end b rest high
high_refused end b (c ∷ t) rest all high = next_text end c (t ++ b ∷ rest) all.0 ∙ rw (high_refused end b t rest all.1 high) refl

pub text_refused : (end : ℕ) (bytes : List ℕ) (fault : DataFault) → TextFails end bytes fault → text_at end bytes ≡ Err fault
text_refused end bytes fault (fails_no_end t all) = end_refused end t all
text_refused end bytes fault (fails_high_byte {b = b} t rest all high) = high_refused end b t rest all high
