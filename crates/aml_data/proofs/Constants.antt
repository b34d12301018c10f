-- Integer constants: what is read is spelled so, what is spelled so is read, and the first fault.
use Rattle.std.proofs.Common.{◌≡◌, ◌<◌, ◌≤◌, ◌^◌, ℕ, false, eqb, ltb, List, [], ◌∷◌, ◌++◌, length, take, drop, Ok, Err, refl, ap, sym, subst, ◌∙◌, arith, inl, inr}
use Rattle.std.specs.Int.{Width, w16, w32, w64, byte_len, from_le_bytes, to_le_bytes}
use Rattle.std.proofs.lemmas.Bool.{eqb-true, eqb-false, ne_eqb, ltb-true, ltb-false, lt-ltb, le-ltb}
use Rattle.std.proofs.lemmas.List.{take_at, drop_at, take-append-drop, length-append, length-take}
use Rattle.std.proofs.lemmas.Nat.{le_bytes_2, le_bytes_4, le_bytes_8, from_le_bytes-to_le_bytes_2, from_le_bytes-to_le_bytes_4, from_le_bytes-to_le_bytes_8}
use Rattle.aml_data.specs.declared.fault.DataFault.{DataFault}
use Rattle.aml_data.specs.declared.fault.DataFault.TheVariants.{Short}
use Rattle.aml_data.specs.Grammar.{Const, spells_zero, spells_one, spells_byte, spells_word, spells_double, spells_quad}
use Rattle.aml_data.specs.inner.Reading.{byte_at, number_at, constant_at}
use Rattle.aml_data.specs.Faults.{Follows, follows_byte, follows_word, follows_double, follows_quad, ConstFails, fails_no_constant, fails_few_bytes, fails_other_byte}
use Rattle.aml_data.proofs.Steps.{done, failed, chosen, ok_is, err_is, no_ok_err, no_err_ok, IsBytes, IsBytes-drop, IsBytes-take, IsBytes-rest, Takes}

-- ---- numbers of a width

pub record IsWide (w : Width) (limit : ℕ) : Type 0 where
  pub len : (n : ℕ) → length (to_le_bytes w n) ≡ byte_len w
  pub back : (bytes : List ℕ) → length bytes ≡ byte_len w → IsBytes bytes → to_le_bytes w (from_le_bytes w bytes) ≡ bytes
  pub again : (n : ℕ) → n < limit → from_le_bytes w (to_le_bytes w n) ≡ n
  pub below : (bytes : List ℕ) → IsBytes bytes → from_le_bytes w bytes < limit

pub wide16 : IsWide w16 (2 ^ 16)
wide16 = record {
  len = λ n. refl;
  back = λ bytes len fits. le_bytes_2 bytes _ len fits refl;
  again = λ n lt. from_le_bytes-to_le_bytes_2 n lt;
  below = λ bytes fits. omega (arith, fits 0, fits 1);
}

pub wide32 : IsWide w32 (2 ^ 32)
wide32 = record {
  len = λ n. refl;
  back = λ bytes len fits. le_bytes_4 bytes _ len fits refl;
  again = λ n lt. from_le_bytes-to_le_bytes_4 n lt;
  below = λ bytes fits. omega (arith, fits 0, fits 1, fits 2, fits 3);
}

pub wide64 : IsWide w64 (2 ^ 64)
wide64 = record {
  len = λ n. refl;
  back = λ bytes len fits. le_bytes_8 bytes _ len fits refl;
  again = λ n lt. from_le_bytes-to_le_bytes_8 n lt;
  below = λ bytes fits. omega (arith, fits 0, fits 1, fits 2, fits 3, fits 4, fits 5, fits 6, fits 7);
}

-- a number is its bytes
abbrev pub NumberOf : Width → ℕ → ℕ → List ℕ → Type 0
NumberOf w limit n c = (c ≡ to_le_bytes w n) × (n < limit)

pub number_takes : (w : Width) (limit : ℕ) → IsWide w limit → (end : ℕ) (bytes : List ℕ) (x : ℕ × List ℕ) → IsBytes bytes → number_at w end bytes ≡ Ok x → Takes (NumberOf w limit) bytes x
number_takes w limit wide end bytes x fits e =
    elim (chosen (ltb (length bytes) (byte_len w)) (failed (Short end)) (done (from_le_bytes w (take (byte_len w) bytes), drop (byte_len w) bytes)) (Ok x) e) [
      | inl h ↦ absurd (no_err_ok x (Short end) h.1)
      | inr h ↦
          let long : byte_len w ≤ length bytes = ltb-false _ _ h.0 in
          let front = take (byte_len w) bytes in
          let len : length (take (byte_len w) bytes) ≡ byte_len w = omega (arith, length-take (byte_len w) bytes) in
          let back = wide.back front len (IsBytes-take (byte_len w) bytes fits) in
          subst (λ (y : ℕ × List ℕ). Takes (NumberOf w limit) bytes y) (ok_is (from_le_bytes w front, drop (byte_len w) bytes) x h.1) (record {
            front = front;
            parts = sym (take-append-drop (byte_len w) bytes);
            spelled = (sym back, wide.below front (IsBytes-take (byte_len w) bytes fits));
            rest_fits = IsBytes-drop (byte_len w) bytes fits;
          })
    ]

pub number_again : (w : Width) (limit : ℕ) → IsWide w limit → (end n : ℕ) (rest : List ℕ) → n < limit → number_at w end (to_le_bytes w n ++ rest) ≡ Ok (n, rest)
number_again w limit wide end n rest lt =
    let len = wide.len n in
    let long : ltb (length (to_le_bytes w n ++ rest)) (byte_len w) ≡ false = le-ltb _ _ (omega (arith, length-append (to_le_bytes w n) rest)) in
    rw (long, take_at (to_le_bytes w n) rest (byte_len w) len, drop_at (to_le_bytes w n) rest (byte_len w) len, wide.again n lt) refl

pub number_fails : (w : Width) (end : ℕ) (bytes : List ℕ) (fault : DataFault) → number_at w end bytes ≡ Err fault → (length bytes < byte_len w) × (Short end ≡ fault)
number_fails w end bytes fault e =
    elim (chosen (ltb (length bytes) (byte_len w)) (failed (Short end)) (done (from_le_bytes w (take (byte_len w) bytes), drop (byte_len w) bytes)) (Err fault) e) [
      | inl h ↦ (ltb-true _ _ h.0, err_is {A = ℕ × List ℕ} (Short end) fault h.1)
      | inr h ↦ absurd (no_ok_err (from_le_bytes w (take (byte_len w) bytes), drop (byte_len w) bytes) fault h.1)
    ]

pub number_refused : (w : Width) (end : ℕ) (bytes : List ℕ) → length bytes < byte_len w → number_at w end bytes ≡ Err (Short end)
number_refused w end bytes lt = rw (lt-ltb (length bytes) (byte_len w) lt) refl

-- ---- constants by their lead byte

zero_takes : (lead : ℕ) (rest : List ℕ) (x : ℕ × List ℕ) → IsBytes (lead ∷ rest) → lead ≡ 0 → done (0, rest) ≡ done x → Takes Const (lead ∷ rest) x
zero_takes lead rest x fits is e =
    subst (λ (y : ℕ × List ℕ). Takes Const (lead ∷ rest) y) (ok_is (0, rest) x e) (record {
      front = 0 ∷ [];
      parts = ap (λ (b : ℕ). b ∷ rest) is;
      spelled = spells_zero;
      rest_fits = IsBytes-rest lead rest fits;
    })

one_takes : (lead : ℕ) (rest : List ℕ) (x : ℕ × List ℕ) → IsBytes (lead ∷ rest) → lead ≡ 1 → done (1, rest) ≡ done x → Takes Const (lead ∷ rest) x
one_takes lead rest x fits is e =
    subst (λ (y : ℕ × List ℕ). Takes Const (lead ∷ rest) y) (ok_is (1, rest) x e) (record {
      front = 1 ∷ [];
      parts = ap (λ (b : ℕ). b ∷ rest) is;
      spelled = spells_one;
      rest_fits = IsBytes-rest lead rest fits;
    })

byte_takes : (end lead : ℕ) (rest : List ℕ) (x : ℕ × List ℕ) → IsBytes (lead ∷ rest) → lead ≡ 10 → byte_at end rest ≡ Ok x → Takes Const (lead ∷ rest) x
byte_takes end lead [] x fits is e = absurd cc
byte_takes end lead (b ∷ rest) x fits is e =
    subst (λ (y : ℕ × List ℕ). Takes Const (lead ∷ b ∷ rest) y) (ok_is (b, rest) x e) (record {
      front = 10 ∷ b ∷ [];
      parts = ap (λ (c : ℕ). c ∷ b ∷ rest) is;
      spelled = spells_byte b (omega (arith, fits 1));
      rest_fits = IsBytes-rest b rest (IsBytes-rest lead (b ∷ rest) fits);
    })

wide_takes : (w : Width) (limit k : ℕ) → IsWide w limit → ((n : ℕ) → n < limit → Const n (k ∷ to_le_bytes w n)) → (end lead : ℕ) (rest : List ℕ) (x : ℕ × List ℕ)
    → IsBytes (lead ∷ rest) → lead ≡ k → number_at w end rest ≡ Ok x → Takes Const (lead ∷ rest) x
wide_takes w limit k wide spells end lead rest x fits is e =
    let t = number_takes w limit wide end rest x (IsBytes-rest lead rest fits) e in
    record {
      front = k ∷ t.front;
      parts = ap (λ (b : ℕ). b ∷ rest) is ∙ ap (λ (c : List ℕ). k ∷ c) t.parts;
      spelled = subst (λ (c : List ℕ). Const x.0 (k ∷ c)) (sym t.spelled.0) (spells x.0 t.spelled.1);
      rest_fits = t.rest_fits;
    }

pub constant_takes : (end : ℕ) (bytes : List ℕ) (x : ℕ × List ℕ) → IsBytes bytes → constant_at end bytes ≡ Ok x → Takes Const bytes x
unfolding constant_at
constant_takes end [] x fits e = absurd cc
constant_takes end (lead ∷ rest) x fits e =
    elim (chosen (eqb lead 0) _ _ _ e) [
      | inl h ↦ zero_takes lead rest x fits (eqb-true _ _ h.0) h.1
      | inr h0 ↦
          elim (chosen (eqb lead 1) _ _ _ h0.1) [
            | inl h ↦ one_takes lead rest x fits (eqb-true _ _ h.0) h.1
            | inr h1 ↦
                elim (chosen (eqb lead 10) _ _ _ h1.1) [
                  | inl h ↦ byte_takes end lead rest x fits (eqb-true _ _ h.0) h.1
                  | inr h2 ↦
                      elim (chosen (eqb lead 11) _ _ _ h2.1) [
                        | inl h ↦ wide_takes w16 (2 ^ 16) 11 wide16 spells_word end lead rest x fits (eqb-true _ _ h.0) h.1
                        | inr h3 ↦
                            elim (chosen (eqb lead 12) _ _ _ h3.1) [
                              | inl h ↦ wide_takes w32 (2 ^ 32) 12 wide32 spells_double end lead rest x fits (eqb-true _ _ h.0) h.1
                              | inr h4 ↦
                                  elim (chosen (eqb lead 14) _ _ _ h4.1) [
                                    | inl h ↦ wide_takes w64 (2 ^ 64) 14 wide64 spells_quad end lead rest x fits (eqb-true _ _ h.0) h.1
                                    | inr h5 ↦
                                        absurd (let impossible = h5.1 in cc)
                                  ]
                            ]
                      ]
                ]
          ]
    ]

pub constant_again : (end n : ℕ) (c rest : List ℕ) → Const n c → constant_at end (c ++ rest) ≡ Ok (n, rest)
unfolding constant_at
constant_again end n c rest spells_zero = refl
constant_again end n c rest spells_one = refl
constant_again end n c rest (spells_byte k lt) = refl
constant_again end n c rest (spells_word k lt) = number_again w16 (2 ^ 16) wide16 end k rest lt
constant_again end n c rest (spells_double k lt) = number_again w32 (2 ^ 32) wide32 end k rest lt
constant_again end n c rest (spells_quad k lt) = number_again w64 (2 ^ 64) wide64 end k rest lt

-- ---- first faults

byte_fails : (end lead : ℕ) (rest : List ℕ) (fault : DataFault) → lead ≡ 10 → byte_at end rest ≡ Err fault → ConstFails end (lead ∷ rest) fault
byte_fails end lead [] fault is e =
    subst (λ (f : DataFault). ConstFails end (lead ∷ []) f) (err_is {A = ℕ × List ℕ} (Short end) fault e) (fails_few_bytes (subst (λ (b : ℕ). Follows b 1) (sym is) follows_byte) (omega arith))
byte_fails end lead (b ∷ rest) fault is e = absurd (no_ok_err (b, rest) fault e)

wide_fails : (w : Width) (k : ℕ) → Follows k (byte_len w) → (end lead : ℕ) (rest : List ℕ) (fault : DataFault) → lead ≡ k → number_at w end rest ≡ Err fault → ConstFails end (lead ∷ rest) fault
wide_fails w k follows end lead rest fault is e =
    let f = number_fails w end rest fault e in
    subst (λ (g : DataFault). ConstFails end (lead ∷ rest) g) f.1 (fails_few_bytes (subst (λ (b : ℕ). Follows b (byte_len w)) (sym is) follows) f.0)

pub constant_fails : (end : ℕ) (bytes : List ℕ) (fault : DataFault) → IsBytes bytes → constant_at end bytes ≡ Err fault → ConstFails end bytes fault
unfolding constant_at
constant_fails end [] fault fits e = subst (λ (f : DataFault). ConstFails end [] f) (err_is {A = ℕ × List ℕ} (Short end) fault e) fails_no_constant
constant_fails end (lead ∷ rest) fault fits e =
    elim (chosen (eqb lead 0) _ _ _ e) [
      | inl h ↦ absurd (let impossible = h.1 in cc)
      | inr h0 ↦
          elim (chosen (eqb lead 1) _ _ _ h0.1) [
            | inl h ↦ absurd (let impossible = h.1 in cc)
            | inr h1 ↦
                elim (chosen (eqb lead 10) _ _ _ h1.1) [
                  | inl h ↦ byte_fails end lead rest fault (eqb-true _ _ h.0) h.1
                  | inr h2 ↦
                      elim (chosen (eqb lead 11) _ _ _ h2.1) [
                        | inl h ↦ wide_fails w16 11 follows_word end lead rest fault (eqb-true _ _ h.0) h.1
                        | inr h3 ↦
                            elim (chosen (eqb lead 12) _ _ _ h3.1) [
                              | inl h ↦ wide_fails w32 12 follows_double end lead rest fault (eqb-true _ _ h.0) h.1
                              | inr h4 ↦
                                  elim (chosen (eqb lead 14) _ _ _ h4.1) [
                                    | inl h ↦ wide_fails w64 14 follows_quad end lead rest fault (eqb-true _ _ h.0) h.1
                                    | inr h5 ↦
                                        subst (λ (f : DataFault). ConstFails end (lead ∷ rest) f) (err_is {A = ℕ × List ℕ} _ fault h5.1)
                                        (fails_other_byte (eqb-false _ _ h0.0, eqb-false _ _ h1.0, eqb-false _ _ h2.0, eqb-false _ _ h3.0, eqb-false _ _ h4.0, eqb-false _ _ h5.0))
                                  ]
                            ]
                      ]
                ]
          ]
    ]

few_refused : (end lead n : ℕ) (rest : List ℕ) → Follows lead n → length rest < n → constant_at end (lead ∷ rest) ≡ Err (Short end)
unfolding constant_at
few_refused end lead n [] follows_byte lt = refl
few_refused end lead n (b ∷ rest) follows_byte lt = absurd (omega arith)
few_refused end lead n rest follows_word lt = number_refused w16 end rest lt
few_refused end lead n rest follows_double lt = number_refused w32 end rest lt
few_refused end lead n rest follows_quad lt = number_refused w64 end rest lt

pub constant_refused : (end : ℕ) (bytes : List ℕ) (fault : DataFault) → ConstFails end bytes fault → constant_at end bytes ≡ Err fault
unfolding constant_at
constant_refused end bytes fault fails_no_constant = refl
constant_refused end bytes fault (fails_few_bytes follows lt) = few_refused end _ _ _ follows lt
constant_refused end (lead ∷ rest) fault (fails_other_byte none) =
    rw (ne_eqb lead 0 none.0, ne_eqb lead 1 none.1, ne_eqb lead 10 none.2, ne_eqb lead 11 none.3, ne_eqb lead 12 none.4, ne_eqb lead 14 none.5) refl
