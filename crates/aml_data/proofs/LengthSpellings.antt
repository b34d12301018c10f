-- PkgLengths: what is read is spelled so, what is spelled so is read, and the first fault.
use Rattle.std.proofs.Common.{◌≡◌, ◌≢◌, ◌<◌, ◌≤◌, ◌+◌, ◌-◌, ◌*◌, ◌/◌, ◌%◌, ◌⊎◌, ℕ, suc, Bool, true, false, eqb, ltb, leb, not, ◌&&◌, List, [], ◌∷◌, ◌++◌, length, take, drop, Ok, Err}
use Rattle.std.proofs.Common.{refl, ap, sym, subst, ◌∙◌, arith, inl, inr}
use Rattle.std.proofs.lemmas.Bool.{cases_lt, eqb-true, eqb-false, eq-eqb, ne_eqb, ltb-true, ltb-false, lt-ltb, le-ltb, leb-true, leb-false, le-leb, lt-leb}
use Rattle.std.proofs.lemmas.List.{take_at, drop_at, take-append-drop, length-append, length-take, length-drop}
use Rattle.aml_data.specs.declared.fault.DataFault.{DataFault}
use Rattle.aml_data.specs.declared.fault.DataFault.TheVariants.{Short, BadLength}
use Rattle.aml_data.specs.Grammar.{Len, spells_one_byte_length, spells_two_byte_length, spells_three_byte_length, spells_four_byte_length}
use Rattle.aml_data.specs.inner.Reading.{length_value, left_at, length_at, window_at}
use Rattle.aml_data.specs.Faults.{LenFails, fails_no_length, fails_reserved_bit, fails_few_following, fails_wrong_length}
use Rattle.aml_data.proofs.Steps.{failed, bind_ok, bind_err, chosen, ok_is, err_is, IsBytes, IsBytes-drop, IsBytes-take, IsBytes-rest}
use Rattle.pw_base.proofs.Facts.{choice}

-- ---- the two bits and the four of a lead byte

-- bits 5 and 4 are 0, where bytes follow
abbrev pub HasNoReserved : ℕ → Type 0
HasNoReserved lead = 64 ≤ lead → lead / 16 % 4 ≡ 0

abbrev reserved : ℕ → Bool
reserved lead = ltb 0 (lead / 64) && not (eqb (lead / 16 % 4) 0)

reserved_by : (b c : Bool) → c ≡ true → (b && not c) ≡ false
reserved_by true c e = rw e refl
reserved_by false c e = refl

reserved_false : (lead : ℕ) → HasNoReserved lead → reserved lead ≡ false
reserved_false lead h =
    elim (cases_lt lead 64) [
      | inl lt ↦ let e : ltb 0 (lead / 64) ≡ false = le-ltb 0 (lead / 64) (omega arith) in rw e refl
      | inr le ↦ reserved_by (ltb 0 (lead / 64)) (eqb (lead / 16 % 4) 0) (eq-eqb _ _ (h le))
    ]

reserved_true : (lead : ℕ) → 64 ≤ lead → lead / 16 % 4 ≢ 0 → reserved lead ≡ true
reserved_true lead le set =
    let e : ltb 0 (lead / 64) ≡ true = lt-ltb 0 (lead / 64) (omega arith) in
    rw (e, ne_eqb (lead / 16 % 4) 0 set) refl

-- what the test of the reserved bits says
reserved_cases : (lead : ℕ) → ((reserved lead ≡ true) × (64 ≤ lead) × (lead / 16 % 4 ≢ 0)) ⊎ ((reserved lead ≡ false) × HasNoReserved lead)
reserved_cases lead =
    elim (cases_lt lead 64) [
      | inl lt ↦ let none : HasNoReserved lead = λ le. absurd (omega arith) in inr (reserved_false lead none, none)
      | inr le ↦
          elim (choice (eqb (lead / 16 % 4) 0)) [
            | inl e ↦ let none : HasNoReserved lead = λ _. eqb-true _ _ e in inr (reserved_false lead none, none)
            | inr e ↦ let set = eqb-false _ _ e in inl (reserved_true lead le set, le, set)
          ]
    ]

-- ---- a PkgLength by its lead byte and the bytes that follow

pub record LenParts (n : ℕ) (p : List ℕ) : Type 0 where
  pub lead : ℕ
  pub following : List ℕ
  pub parts : p ≡ lead ∷ following
  pub more : lead / 64 ≡ length following
  pub none : HasNoReserved lead
  pub value : length_value lead following ≡ n

pub len_parts : (n : ℕ) (p : List ℕ) → Len n p → LenParts n p
len_parts n p (spells_one_byte_length k lt) =
    record { lead = k; following = []; parts = refl; more = omega arith; none = λ le. absurd (omega arith); value = refl }
len_parts n p (spells_two_byte_length a b la lb) =
    record { lead = 64 + a; following = b ∷ []; parts = refl; more = omega arith; none = λ le. omega arith; value = omega arith }
len_parts n p (spells_three_byte_length a b c la lb lc) =
    record { lead = 128 + a; following = b ∷ c ∷ []; parts = refl; more = omega arith; none = λ le. omega arith; value = omega arith }
len_parts n p (spells_four_byte_length a b c d la lb lc ld) =
    record { lead = 192 + a; following = b ∷ c ∷ d ∷ []; parts = refl; more = omega arith; none = λ le. omega arith; value = omega arith }

pub len_made : (lead : ℕ) (following : List ℕ) → IsBytes (lead ∷ following) → lead / 64 ≡ length following → HasNoReserved lead → Len (length_value lead following) (lead ∷ following)
len_made lead [] fits more none = spells_one_byte_length lead (omega (arith, fits 0))
len_made lead (b ∷ []) fits more none =
    let low : 64 + lead % 16 ≡ lead = let h = none (omega arith) in omega (arith, fits 0) in
    subst (λ (k : ℕ). Len (lead % 16 + 16 * b) (k ∷ b ∷ [])) low (spells_two_byte_length (lead % 16) b (omega arith) (omega (arith, fits 1)))
len_made lead (b ∷ c ∷ []) fits more none =
    let low : 128 + lead % 16 ≡ lead = let h = none (omega arith) in omega (arith, fits 0) in
    subst (λ (k : ℕ). Len (lead % 16 + 16 * b + 0x1000 * c) (k ∷ b ∷ c ∷ [])) low
    (spells_three_byte_length (lead % 16) b c (omega arith) (omega (arith, fits 1)) (omega (arith, fits 2)))
len_made lead (b ∷ c ∷ d ∷ []) fits more none =
    let low : 192 + lead % 16 ≡ lead = let h = none (omega arith) in omega (arith, fits 0) in
    subst (λ (k : ℕ). Len (lead % 16 + 16 * b + 0x1000 * c + 0x10_0000 * d) (k ∷ b ∷ c ∷ d ∷ [])) low
    (spells_four_byte_length (lead % 16) b c d (omega arith) (omega (arith, fits 1)) (omega (arith, fits 2)) (omega (arith, fits 3)))
len_made lead (b ∷ c ∷ d ∷ e ∷ more_bytes) fits more none = absurd (omega (arith, fits 0))

-- ---- read, so spelled

-- What was read from bytes: a PkgLength that counts x.0 bytes behind itself, which are there.
pub record TakesLength (bytes : List ℕ) (x : ℕ × List ℕ) : Type 0 where
  pub front : List ℕ
  pub parts : bytes ≡ front ++ x.1
  pub spelled : Len (length front + x.0) front
  pub inside : x.0 ≤ length x.1
  pub rest_fits : IsBytes x.1

left_takes : (end lead : ℕ) (rest : List ℕ) (x : ℕ × List ℕ) → IsBytes (lead ∷ rest) → HasNoReserved lead → lead / 64 ≤ length rest → left_at end (lead / 64) lead rest ≡ Ok x
    → TakesLength (lead ∷ rest) x
left_takes end lead rest x fits none long e =
    let more = lead / 64 in
    let following = take more rest in
    let whole = length_value lead following in
    let count : length (take more rest) ≡ more = omega (arith, length-take more rest) in
    elim (chosen (leb whole more) _ _ _ e) [
      | inl h ↦ absurd (let impossible = h.1 in cc)
      | inr h0 ↦
          elim (chosen (ltb (length (lead ∷ rest)) whole) _ _ _ h0.1) [
            | inl h ↦ absurd (let impossible = h.1 in cc)
            | inr h1 ↦
                let own : more < whole = leb-false _ _ h0.0 in
                let reach : whole ≤ suc (length rest) = ltb-false _ _ h1.0 in
                let made : Len whole (lead ∷ following) = len_made lead following (IsBytes-take (suc more) (lead ∷ rest) fits) (sym count) none in
                let value : whole ≡ length (lead ∷ following) + (whole - more - 1) = omega arith in
                subst (λ (y : ℕ × List ℕ). TakesLength (lead ∷ rest) y) (ok_is (whole - more - 1, drop more rest) x h1.1) (record {
                  front = lead ∷ following;
                  parts = ap (λ (r : List ℕ). lead ∷ r) (sym (take-append-drop more rest));
                  spelled = subst (λ (n : ℕ). Len n (lead ∷ following)) value made;
                  inside = omega (arith, length-drop more rest);
                  rest_fits = IsBytes-drop more rest (IsBytes-rest lead rest fits);
                })
          ]
    ]

pub length_takes : (end : ℕ) (bytes : List ℕ) (x : ℕ × List ℕ) → IsBytes bytes → length_at end bytes ≡ Ok x → TakesLength bytes x
unfolding length_at
length_takes end [] x fits e = absurd cc
length_takes end (lead ∷ rest) x fits e =
    elim (reserved_cases lead) [
      | inl set ↦ absurd (let impossible = rw set.0 at e in cc)
      | inr none ↦
          elim (chosen (ltb (length rest) (lead / 64)) (failed (Short end)) (left_at end (lead / 64) lead rest) (Ok x) (rw none.0 at e)) [
            | inl h ↦ absurd (let impossible = h.1 in cc)
            | inr h ↦ left_takes end lead rest x fits none.1 (ltb-false _ _ h.0) h.1
          ]
    ]

-- ---- spelled, so read

left_by : (end n lead : ℕ) (following rest : List ℕ) → length_value lead following ≡ n → length following < n → n ≤ suc (length (following ++ rest))
    → left_at end (length following) lead (following ++ rest) ≡ Ok (n - length following - 1, rest)
left_by end n lead following rest value own reach =
    rw (take_at following rest (length following) refl, drop_at following rest (length following) refl, value, lt-leb n (length following) own, le-ltb (suc (length (following ++ rest))) n reach) refl

length_by : (end n lead : ℕ) (following rest : List ℕ) → lead / 64 ≡ length following → HasNoReserved lead → length_value lead following ≡ n → length following < n
    → n ≤ suc (length (following ++ rest)) → length_at end (lead ∷ (following ++ rest)) ≡ Ok (n - length following - 1, rest)
unfolding length_at
length_by end n lead following rest more none value own reach =
    let there : ltb (length (following ++ rest)) (length following) ≡ false = le-ltb _ _ (omega (arith, length-append following rest)) in
    rw (reserved_false lead none, more, there) (left_by end n lead following rest value own reach)

pub length_again : (end n : ℕ) (p rest : List ℕ) → Len n p → length p ≤ n → n ≤ length (p ++ rest) → length_at end (p ++ rest) ≡ Ok (n - length p, rest)
length_again end n p rest h own reach =
    let t = len_parts n p h in
    let following = t.following in
    let count : length p ≡ suc (length following) = ap (λ (r : List ℕ). length r) t.parts in
    let bytes : p ++ rest ≡ t.lead ∷ (following ++ rest) = ap (λ (r : List ℕ). r ++ rest) t.parts in
    let size : length (p ++ rest) ≡ suc (length (following ++ rest)) = ap (λ (r : List ℕ). length r) bytes in
    let left : n - length following - 1 ≡ n - length p = omega arith in
    ap (length_at end) bytes ∙ length_by end n t.lead following rest t.more t.none t.value (omega arith) (omega arith) ∙ ap (λ (k : ℕ). Ok (k, rest)) left

-- ---- the bytes that a PkgLength counts

-- What was read from bytes: a PkgLength, the bytes x.0 that it counts behind itself, and the bytes x.1 after them.
pub record TakesWindow (bytes : List ℕ) (x : List ℕ × List ℕ) : Type 0 where
  pub front : List ℕ
  pub parts : bytes ≡ front ++ (x.0 ++ x.1)
  pub spelled : Len (length front + length x.0) front
  pub inside_fits : IsBytes x.0
  pub rest_fits : IsBytes x.1

pub window_takes : (end : ℕ) (bytes : List ℕ) (x : List ℕ × List ℕ) → IsBytes bytes → window_at end bytes ≡ Ok x → TakesWindow bytes x
unfolding window_at
window_takes end bytes x fits e =
    let a = bind_ok (length_at end bytes) (λ y. Ok (take y.0 y.1, drop y.0 y.1)) x e in
    let n = a.0.0 in
    let rest = a.0.1 in
    let t = length_takes end bytes a.0 fits a.1 in
    let within = t.inside in
    let count : length (take n rest) ≡ n = omega (arith, length-take n rest) in
    subst (λ (y : List ℕ × List ℕ). TakesWindow bytes y) (ok_is (take n rest, drop n rest) x a.2) (record {
      front = t.front;
      parts = t.parts ∙ ap (λ (r : List ℕ). t.front ++ r) (sym (take-append-drop n rest));
      spelled = subst (λ (k : ℕ). Len (length t.front + k) t.front) (sym count) t.spelled;
      inside_fits = IsBytes-take n rest t.rest_fits;
      rest_fits = IsBytes-drop n rest t.rest_fits;
    })

window_by : (end n : ℕ) (bytes rest : List ℕ) → length_at end bytes ≡ Ok (n, rest) → window_at end bytes ≡ Ok (take n rest, drop n rest)
unfolding window_at
window_by end n bytes rest e = rw e refl

pub window_again : (end : ℕ) (p inside rest : List ℕ) → Len (length p + length inside) p → window_at end (p ++ (inside ++ rest)) ≡ Ok (inside, rest)
window_again end p inside rest h =
    let n = length inside in
    let reach : length p + n ≤ length (p ++ (inside ++ rest)) = omega (arith, length-append p (inside ++ rest), length-append inside rest) in
    let read : length_at end (p ++ (inside ++ rest)) ≡ Ok (n, inside ++ rest) =
    length_again end (length p + n) p (inside ++ rest) h (omega arith) reach ∙ ap (λ (k : ℕ). Ok (k, inside ++ rest)) (omega arith) in
    window_by end n (p ++ (inside ++ rest)) (inside ++ rest) read ∙ ap (λ (w : List ℕ × List ℕ). Ok w) (cc (take_at inside rest n refl, drop_at inside rest n refl))

-- ---- first faults

left_fails : (end lead : ℕ) (rest : List ℕ) (fault : DataFault) → IsBytes (lead ∷ rest) → HasNoReserved lead → lead / 64 ≤ length rest → left_at end (lead / 64) lead rest ≡ Err fault
    → LenFails end (lead ∷ rest) fault
left_fails end lead rest fault fits none long e =
    let more = lead / 64 in
    let following = take more rest in
    let after = drop more rest in
    let whole = length_value lead following in
    let count : length (take more rest) ≡ more = omega (arith, length-take more rest) in
    let made : Len whole (lead ∷ following) = len_made lead following (IsBytes-take (suc more) (lead ∷ rest) fits) (sym count) none in
    let parts : (lead ∷ following) ++ after ≡ lead ∷ rest = ap (λ (r : List ℕ). lead ∷ r) (take-append-drop more rest) in
    let size : length ((lead ∷ following) ++ after) ≡ suc (length rest) = ap (λ (r : List ℕ). length r) parts in
    let wrong : ((whole < length (lead ∷ following)) ⊎ (length ((lead ∷ following) ++ after) < whole)) → LenFails end (lead ∷ rest) (BadLength (end - length (lead ∷ rest))) =
    λ h. subst (λ (r : List ℕ). LenFails end r (BadLength (end - length r))) parts (fails_wrong_length (lead ∷ following) after made h) in
    elim (chosen (leb whole more) _ _ _ e) [
      | inl h ↦
          let short = leb-true _ _ h.0 in
          subst (λ (f : DataFault). LenFails end (lead ∷ rest) f) (err_is {A = ℕ × List ℕ} _ fault h.1) (wrong (inl (omega arith)))
      | inr h0 ↦
          elim (chosen (ltb (length (lead ∷ rest)) whole) _ _ _ h0.1) [
            | inl h ↦
                let far = ltb-true _ _ h.0 in
                subst (λ (f : DataFault). LenFails end (lead ∷ rest) f) (err_is {A = ℕ × List ℕ} _ fault h.1) (wrong (inr (omega arith)))
            | inr h1 ↦ absurd (let impossible = h1.1 in cc)
          ]
    ]

pub length_fails : (end : ℕ) (bytes : List ℕ) (fault : DataFault) → IsBytes bytes → length_at end bytes ≡ Err fault → LenFails end bytes fault
unfolding length_at
length_fails end [] fault fits e = subst (λ (f : DataFault). LenFails end [] f) (err_is {A = ℕ × List ℕ} (Short end) fault e) fails_no_length
length_fails end (lead ∷ rest) fault fits e =
    elim (reserved_cases lead) [
      | inl set ↦
          subst (λ (f : DataFault). LenFails end (lead ∷ rest) f) (err_is {A = ℕ × List ℕ} _ fault (rw set.0 at e)) (fails_reserved_bit set.1 set.2)
      | inr none ↦
          elim (chosen (ltb (length rest) (lead / 64)) (failed (Short end)) (left_at end (lead / 64) lead rest) (Err fault) (rw none.0 at e)) [
            | inl h ↦
                subst (λ (f : DataFault). LenFails end (lead ∷ rest) f) (err_is {A = ℕ × List ℕ} (Short end) fault h.1) (fails_few_following none.1 (ltb-true _ _ h.0))
            | inr h ↦ left_fails end lead rest fault fits none.1 (ltb-false _ _ h.0) h.1
          ]
    ]

left_refused : (end n lead : ℕ) (following rest : List ℕ) → length_value lead following ≡ n → ((n ≤ length following) ⊎ (suc (length (following ++ rest)) < n))
    → left_at end (length following) lead (following ++ rest) ≡ Err (BadLength (end - suc (length (following ++ rest))))
left_refused end n lead following rest value (inl short) =
    rw (take_at following rest (length following) refl, value, le-leb n (length following) short) refl
left_refused end n lead following rest value (inr far) =
    elim (cases_lt (length following) n) [
      | inl lt ↦
          rw (take_at following rest (length following) refl, value, lt-leb n (length following) lt, lt-ltb (suc (length (following ++ rest))) n far) refl
      | inr le ↦ rw (take_at following rest (length following) refl, value, le-leb n (length following) le) refl
    ]

wrong_by : (end n lead : ℕ) (following rest : List ℕ) → lead / 64 ≡ length following → HasNoReserved lead → length_value lead following ≡ n
    → ((n ≤ length following) ⊎ (suc (length (following ++ rest)) < n)) → length_at end (lead ∷ (following ++ rest)) ≡ Err (BadLength (end - suc (length (following ++ rest))))
unfolding length_at
wrong_by end n lead following rest more none value wrong =
    let there : ltb (length (following ++ rest)) (length following) ≡ false = le-ltb _ _ (omega (arith, length-append following rest)) in
    rw (reserved_false lead none, more, there) (left_refused end n lead following rest value wrong)

wrong_refused : (end n : ℕ) (p rest : List ℕ) → Len n p → ((n < length p) ⊎ (length (p ++ rest) < n)) → length_at end (p ++ rest) ≡ Err (BadLength (end - length (p ++ rest)))
wrong_refused end n p rest h wrong =
    let t = len_parts n p h in
    let following = t.following in
    let count : length p ≡ suc (length following) = ap (λ (r : List ℕ). length r) t.parts in
    let bytes : p ++ rest ≡ t.lead ∷ (following ++ rest) = ap (λ (r : List ℕ). r ++ rest) t.parts in
    let size : length (p ++ rest) ≡ suc (length (following ++ rest)) = ap (λ (r : List ℕ). length r) bytes in
    let wrong_so : (n ≤ length following) ⊎ (suc (length (following ++ rest)) < n) = elim wrong [ inl short ↦ inl (omega arith) | inr far ↦ inr (omega arith) ] in
    ap (length_at end) bytes ∙ wrong_by end n t.lead following rest t.more t.none t.value wrong_so ∙ ap (λ (k : ℕ). Err (BadLength (end - k))) (sym size)

reserved_refused : (end lead : ℕ) (rest : List ℕ) → reserved lead ≡ true → length_at end (lead ∷ rest) ≡ Err (BadLength (end - length (lead ∷ rest)))
unfolding length_at
reserved_refused end lead rest h = rw h refl

few_refused : (end lead : ℕ) (rest : List ℕ) → reserved lead ≡ false → length rest < lead / 64 → length_at end (lead ∷ rest) ≡ Err (Short end)
unfolding length_at
few_refused end lead rest h few = rw (h, lt-ltb (length rest) (lead / 64) few) refl

none_refused : (end : ℕ) → length_at end [] ≡ Err (Short end)
unfolding length_at
none_refused end = refl

pub length_refused : (end : ℕ) (bytes : List ℕ) (fault : DataFault) → LenFails end bytes fault → length_at end bytes ≡ Err fault
length_refused end bytes fault fails_no_length = none_refused end
length_refused end bytes fault (fails_reserved_bit {lead = lead} {rest = r} le set) = reserved_refused end lead r (reserved_true lead le set)
length_refused end bytes fault (fails_few_following {lead = lead} {rest = r} none few) = few_refused end lead r (reserved_false lead none) few
length_refused end bytes fault (fails_wrong_length {n = n} p rest h wrong) = wrong_refused end n p rest h wrong

pub window_fails : (end : ℕ) (bytes : List ℕ) (fault : DataFault) → IsBytes bytes → window_at end bytes ≡ Err fault → LenFails end bytes fault
unfolding window_at
window_fails end bytes fault fits e =
    elim (bind_err (length_at end bytes) (λ y. Ok (take y.0 y.1, drop y.0 y.1)) fault e) [
      | inl h ↦ length_fails end bytes fault fits h
      | inr a ↦ absurd (let impossible = a.2 in cc)
    ]

pub window_refused : (end : ℕ) (bytes : List ℕ) (fault : DataFault) → LenFails end bytes fault → window_at end bytes ≡ Err fault
unfolding window_at
window_refused end bytes fault h = rw (length_refused end bytes fault h) refl
