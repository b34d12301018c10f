-- What a PkgLength at a place gives, and that it is the only one.
use Rattle.std.proofs.Common.{◌≡◌, ◌≤◌, ◌+◌, ◌-◌, ◌/◌, ℕ, List, [], ◌∷◌, ◌++◌, length, take, drop, Result, Ok, Err, refl, ap, sym, subst, ◌∙◌, arith, inl, inr}
use Rattle.std.specs.Prelude.{IfOk, IfErr}
use Rattle.std.proofs.lemmas.List.{take_at, drop_at, take-append-drop, length-append, length-take, length-drop}
use Rattle.aml_data.specs.declared.fault.DataFault.{DataFault}
use Rattle.aml_data.specs.declared.fault.DataFault.TheVariants.{Short}
use Rattle.aml_data.specs.Grammar.{Len}
use Rattle.aml_data.specs.inner.Reading.{Read, Tells, length_value, length_at}
use Rattle.aml_data.specs.Faults.{LenFails}
use Rattle.aml_data.specs.Decoded.{AreBytes, IsLengthAt, LengthOrFails}
use Rattle.aml_data.specs.inner.Places.{length_from_place}
use Rattle.aml_data.proofs.Steps.{bind_ok, bind_err, ok_is, no_ok_err, IsBytes, IsBytes-drop}
use Rattle.aml_data.proofs.Places.{Again, told_is, one_spelled, all_bytes}
use Rattle.aml_data.proofs.LengthSpellings.{len_parts, TakesLength, length_takes, length_again, length_fails, length_refused}

length_spelled : (bytes : List ℕ) (at : ℕ) (x : ℕ × List ℕ) → at ≤ length bytes → TakesLength (drop at bytes) x
    → IsLengthAt bytes at (length bytes - length x.1 + x.0) (length (drop at bytes) - length x.1)
length_spelled bytes at x within t =
    let parts = t.parts in
    let inside = t.inside in
    let whole : length (drop at bytes) ≡ length t.front + length x.1 = ap (λ (r : List ℕ). length r) parts ∙ length-append t.front x.1 in
    let tail = length-drop at bytes in
    let count : length (drop at bytes) - length x.1 ≡ length t.front = omega arith in
    let n = length (drop at bytes) - length x.1 in
    let text : take n (drop at bytes) ≡ t.front = ap (λ (r : List ℕ). take n r) parts ∙ take_at t.front x.1 n (sym count) in
    let reach : length t.front + x.0 ≡ length bytes - length x.1 + x.0 - at = omega arith in
    record {
      past = omega arith;
      within = omega arith;
      spelled = subst (λ (r : List ℕ). Len (length bytes - length x.1 + x.0 - at) r) (sym text) (subst (λ (k : ℕ). Len k t.front) reach t.spelled);
    }

place_takes : (bytes : List ℕ) (at : ℕ) (x : ℕ × ℕ) → IsBytes bytes → at ≤ length bytes → length_from_place at bytes ≡ Ok x → IsLengthAt bytes at x.0 x.1
place_takes bytes at x fits within e =
    let tail = drop at bytes in
    let a = bind_ok (length_at (length bytes) tail) (λ y. Ok (length bytes - length y.1 + y.0, length tail - length y.1)) x e in
    let t = length_takes (length bytes) tail a.0 (IsBytes-drop at bytes fits) a.1 in
    subst (λ (y : ℕ × ℕ). IsLengthAt bytes at y.0 y.1) (ok_is (length bytes - length a.0.1 + a.0.0, length tail - length a.0.1) x a.2) (length_spelled bytes at a.0 within t)

place_by : (bytes : List ℕ) (at end n : ℕ) (x : ℕ × List ℕ) → length_at (length bytes) (drop at bytes) ≡ Ok x → length bytes - length x.1 + x.0 ≡ end → length (drop at bytes) - length x.1 ≡ n
    → length_from_place at bytes ≡ Ok (end, n)
place_by bytes at end n x is past count = rw (is, past, count) refl

place_again : (bytes : List ℕ) (at end n : ℕ) → IsLengthAt bytes at end n → length_from_place at bytes ≡ Ok (end, n)
place_again bytes at end n h =
    let tail = drop at bytes in
    let p = take n tail in
    let rest = drop n tail in
    let past = h.past in
    let within = h.within in
    let whole = length-drop at bytes in
    let left = length-drop n tail in
    let count : length (take n tail) ≡ n = omega (arith, length-take n tail) in
    let join : p ++ rest ≡ tail = take-append-drop n tail in
    let reach : end - at ≤ length (p ++ rest) = omega (arith, ap (λ (r : List ℕ). length r) join) in
    let is : length_at (length bytes) tail ≡ Ok (end - at - length p, rest) =
    ap (length_at (length bytes)) (sym join) ∙ length_again (length bytes) (end - at) p rest h.spelled (omega arith) reach in
    place_by bytes at end n (end - at - length p, rest) is (omega arith) (omega arith)

place_fails : (bytes : List ℕ) (at : ℕ) (fault : DataFault) → length_from_place at bytes ≡ Err fault → length_at (length bytes) (drop at bytes) ≡ Err fault
place_fails bytes at fault e =
    elim (bind_err (length_at (length bytes) (drop at bytes)) (λ y. Ok (length bytes - length y.1 + y.0, length (drop at bytes) - length y.1)) fault e) [
      | inl h ↦ h
      | inr a ↦ absurd (let impossible = a.2 in cc)
    ]

place_refused : (bytes : List ℕ) (at : ℕ) (fault : DataFault) → LenFails (length bytes) (drop at bytes) fault → length_from_place at bytes ≡ Err fault
place_refused bytes at fault h = rw (length_refused (length bytes) (drop at bytes) fault h) refl

-- ---- answers of a call

pub length_found : (bytes : List ℕ) (at : ℕ) (r : Result (ℕ × ℕ) DataFault) → IsBytes bytes → at ≤ length bytes → Tells (λ x. x) r (length_from_place at bytes)
    → IfOk r (λ x. IsLengthAt bytes at x.0 x.1)
length_found bytes at (Ok x) fits within given = place_takes bytes at x fits within given
length_found bytes at (Err e) fits within given = tt

pub length_only : (bytes : List ℕ) (at : ℕ) (r : Result (ℕ × ℕ) DataFault) → Tells (λ x. x) r (length_from_place at bytes) → (end n : ℕ) → IsLengthAt bytes at end n → r ≡ Ok (end, n)
length_only bytes at r given end n h = sym (told_is r (length_from_place at bytes) given) ∙ place_again bytes at end n h

pub length_fault : (bytes : List ℕ) (at : ℕ) (r : Result (ℕ × ℕ) DataFault) → IsBytes bytes → Tells (λ x. x) r (length_from_place at bytes)
    → IfErr r (λ f. LenFails (length bytes) (drop at bytes) f)
length_fault bytes at (Ok x) fits given = tt
length_fault bytes at (Err e) fits given = length_fails (length bytes) (drop at bytes) e (IsBytes-drop at bytes fits) (place_fails bytes at e given)

pub length_first_fault : (bytes : List ℕ) (at : ℕ) (r : Result (ℕ × ℕ) DataFault) → Tells (λ x. x) r (length_from_place at bytes) → (f : DataFault) → LenFails (length bytes) (drop at bytes) f
    → r ≡ Err f
length_first_fault bytes at r given f h = sym (told_is r (length_from_place at bytes) given) ∙ place_refused bytes at f h

-- ---- a length, or a fault

answered : (bytes : List ℕ) (at : ℕ) → IsBytes bytes → at ≤ length bytes → (r : Result (ℕ × ℕ) DataFault) → length_from_place at bytes ≡ r → LengthOrFails bytes at
answered bytes at fits within (Ok x) e = inl (x.0, x.1, place_takes bytes at x fits within e)
answered bytes at fits within (Err f) e = inr (f, length_fails (length bytes) (drop at bytes) f (IsBytes-drop at bytes fits) (place_fails bytes at f e))

pub length_or_fails : (bytes : List ℕ) (at : ℕ) → AreBytes bytes → at ≤ length bytes → LengthOrFails bytes at
length_or_fails bytes at all within = answered bytes at (all_bytes bytes all) within (length_from_place at bytes) refl

-- ---- at most one length, and at most one fault

pub one_place : (bytes : List ℕ) (at e f m n : ℕ) → IsLengthAt bytes at e m → IsLengthAt bytes at f n → (e ≡ f) × (m ≡ n)
one_place bytes at e f m n p q =
    let same : (e, m) ≡ (f, n) = ok_is (e, m) (f, n) (sym (place_again bytes at e m p) ∙ place_again bytes at f n q) in
    (ap (λ (z : ℕ × ℕ). z.0) same, ap (λ (z : ℕ × ℕ). z.1) same)

-- the length that stands first, wherever it reaches
abbrev front_at : ℕ → List ℕ → Read ℕ
front_at end [] = Err (Short end)
front_at end (lead ∷ rest) = Ok (length_value lead (take (lead / 64) rest), drop (lead / 64) rest)

front_by : (end n lead : ℕ) (following rest : List ℕ) → lead / 64 ≡ length following → length_value lead following ≡ n → front_at end (lead ∷ (following ++ rest)) ≡ Ok (n, rest)
front_by end n lead following rest more value = rw (more, take_at following rest (length following) refl, drop_at following rest (length following) refl, value) refl

front_again : Again Len front_at
front_again end n p rest h =
    let t = len_parts n p h in
    ap (front_at end) (ap (λ (r : List ℕ). r ++ rest) t.parts) ∙ front_by end n t.lead t.following rest t.more t.value

pub one_length : (m n : ℕ) (b c x y : List ℕ) → Len m b → Len n c → b ++ x ≡ c ++ y → (m ≡ n) × (b ≡ c)
one_length = one_spelled Len front_at front_again

pub no_length_fault : (end n : ℕ) (p x : List ℕ) (f : DataFault) → Len n p → length p ≤ n → n ≤ length (p ++ x) → LenFails end (p ++ x) f → ⊥
no_length_fault end n p x f h own reach fails = no_ok_err (n - length p, x) f (sym (length_again end n p x h own reach) ∙ length_refused end (p ++ x) f fails)
