-- What a decoder answers at a place, of any part whose reading and spelling are tied by the four laws.
use Rattle.std.proofs.Common.{◌≡◌, ◌≢◌, ◌≤◌, ◌+◌, ◌-◌, ℕ, zero, suc, List, [], ◌∷◌, ◌++◌, length, take, drop, Result, Ok, Err, refl, ap, sym, subst, ◌∙◌, arith, inl, inr}
use Rattle.std.specs.Prelude.{IfOk, IfErr}
use Rattle.std.proofs.lemmas.List.{take_at, take-append-drop, length-append, length-drop, append_cancel_right}
use Rattle.aml_data.specs.declared.fault.DataFault.{DataFault}
use Rattle.aml_data.specs.declared.fault.DataFault.TheVariants.{Short, BadLead, BadLength, BadName, BadText, TooMany, TooDeep, Memory}
use Rattle.aml_data.specs.inner.Reading.{Read, Gives, Tells}
use Rattle.pw_base.specs.Answers.{IsUnless, FailsUnless}
use Rattle.aml_data.specs.Decoded.{AreBytes, IsSpelledAt, SpelledOrFails}
use Rattle.aml_data.specs.inner.Places.{from_place}
use Rattle.aml_data.proofs.Steps.{bind_ok, bind_err, ok_is, err_is, no_ok_err, IsBytes, IsBytes-drop, Takes}

-- The four laws of a part: read, so spelled; spelled, so read, whatever follows; failing, so the first fault; and back.
abbrev pub Taking : {A : Type 0} → (A → List ℕ → Type 0) → (ℕ → List ℕ → Read A) → Type 0
Taking {A} S read = (end : ℕ) (bytes : List ℕ) (x : A × List ℕ) → IsBytes bytes → read end bytes ≡ Ok x → Takes S bytes x

abbrev pub Again : {A : Type 0} → (A → List ℕ → Type 0) → (ℕ → List ℕ → Read A) → Type 0
Again {A} S read = (end : ℕ) (v : A) (c rest : List ℕ) → S v c → read end (c ++ rest) ≡ Ok (v, rest)

abbrev pub Failing : {A : Type 0} → (ℕ → List ℕ → DataFault → Type 0) → (ℕ → List ℕ → Read A) → Type 0
Failing F read = (end : ℕ) (bytes : List ℕ) (fault : DataFault) → IsBytes bytes → read end bytes ≡ Err fault → F end bytes fault

abbrev pub Refused : {A : Type 0} → (ℕ → List ℕ → DataFault → Type 0) → (ℕ → List ℕ → Read A) → Type 0
Refused F read = (end : ℕ) (bytes : List ℕ) (fault : DataFault) → F end bytes fault → read end bytes ≡ Err fault

-- ---- what follows from them at a place

spelled_at : {A : Type 0} (S : A → List ℕ → Type 0) (bytes : List ℕ) (at : ℕ) (x : A × List ℕ) → at ≤ length bytes → Takes S (drop at bytes) x
    → IsSpelledAt S bytes at x.0 (length (drop at bytes) - length x.1)
spelled_at S bytes at x within t =
    let parts = t.parts in
    let whole : length (drop at bytes) ≡ length t.front + length x.1 = ap (λ (r : List ℕ). length r) parts ∙ length-append t.front x.1 in
    let count : length (drop at bytes) - length x.1 ≡ length t.front = omega arith in
    let n = length (drop at bytes) - length x.1 in
    let text : take n (drop at bytes) ≡ t.front = ap (λ (r : List ℕ). take n r) parts ∙ take_at t.front x.1 n (sym count) in
    record { within = omega (arith, length-drop at bytes); spelled = subst (λ (r : List ℕ). S x.0 r) (sym text) t.spelled }

pub place_takes : {A : Type 0} (S : A → List ℕ → Type 0) (read : ℕ → List ℕ → Read A) → Taking S read → (bytes : List ℕ) (at : ℕ) (x : A × ℕ) → IsBytes bytes → at ≤ length bytes
    → from_place read at bytes ≡ Ok x → IsSpelledAt S bytes at x.0 x.1
place_takes {A} S read takes bytes at x fits within e =
    let a = bind_ok (read (length bytes) (drop at bytes)) (λ y. Ok (y.0, length (drop at bytes) - length y.1)) x e in
    let t = takes (length bytes) (drop at bytes) a.0 (IsBytes-drop at bytes fits) a.1 in
    subst (λ (y : A × ℕ). IsSpelledAt S bytes at y.0 y.1) (ok_is (a.0.0, length (drop at bytes) - length a.0.1) x a.2) (spelled_at S bytes at a.0 within t)

place_by : {A : Type 0} (read : ℕ → List ℕ → Read A) (bytes : List ℕ) (at n : ℕ) (x : A × List ℕ) → read (length bytes) (drop at bytes) ≡ Ok x → length (drop at bytes) - length x.1 ≡ n
    → from_place read at bytes ≡ Ok (x.0, n)
place_by read bytes at n x is count = rw (is, count) refl

pub place_again : {A : Type 0} (S : A → List ℕ → Type 0) (read : ℕ → List ℕ → Read A) → Again S read → (bytes : List ℕ) (at : ℕ) (v : A) (n : ℕ)
    → IsSpelledAt S bytes at v n → from_place read at bytes ≡ Ok (v, n)
place_again S read again bytes at v n h =
    let tail = drop at bytes in
    let is : read (length bytes) (drop at bytes) ≡ Ok (v, drop n tail) =
    ap (read (length bytes)) (sym (take-append-drop n tail)) ∙ again (length bytes) v (take n tail) (drop n tail) h.spelled in
    let within = h.within in
    let left = length-drop n tail in
    let whole = length-drop at bytes in
    place_by read bytes at n (v, drop n tail) is (omega arith)

pub place_fails : {A : Type 0} (read : ℕ → List ℕ → Read A) (bytes : List ℕ) (at : ℕ) (fault : DataFault) → from_place read at bytes ≡ Err fault → read (length bytes) (drop at bytes) ≡ Err fault
place_fails read bytes at fault e =
    elim (bind_err (read (length bytes) (drop at bytes)) (λ y. Ok (y.0, length (drop at bytes) - length y.1)) fault e) [
      | inl h ↦ h
      | inr a ↦ absurd (let impossible = a.2 in cc)
    ]

pub place_refused : {A : Type 0} (read : ℕ → List ℕ → Read A) (bytes : List ℕ) (at : ℕ) (fault : DataFault) → read (length bytes) (drop at bytes) ≡ Err fault → from_place read at bytes ≡ Err fault
place_refused read bytes at fault e = rw e refl

-- ---- answers of a call that may run out of memory

is_memory : (e : DataFault) → (e ≢ Memory → ⊥) → e ≡ Memory
is_memory (Short at) h = absurd (h (λ x. cc))
is_memory (BadLead at byte) h = absurd (h (λ x. cc))
is_memory (BadLength at) h = absurd (h (λ x. cc))
is_memory (BadName at) h = absurd (h (λ x. cc))
is_memory (BadText at) h = absurd (h (λ x. cc))
is_memory (TooMany at) h = absurd (h (λ x. cc))
is_memory (TooDeep at) h = absurd (h (λ x. cc))
is_memory Memory h = refl

pub is_found : {A : Type 0} (S : A → List ℕ → Type 0) (read : ℕ → List ℕ → Read A) → Taking S read → (bytes : List ℕ) (at : ℕ) (r : Result (A × ℕ) DataFault) → IsBytes bytes → at ≤ length bytes
    → Gives (λ x. x) r (from_place read at bytes) → IfOk r (λ x. IsSpelledAt S bytes at x.0 x.1)
is_found S read takes bytes at (Ok x) fits within given = place_takes S read takes bytes at x fits within given
is_found S read takes bytes at (Err e) fits within given = tt

pub is_only : {A : Type 0} (S : A → List ℕ → Type 0) (read : ℕ → List ℕ → Read A) → Again S read → (bytes : List ℕ) (at : ℕ) (r : Result (A × ℕ) DataFault)
    → Gives (λ x. x) r (from_place read at bytes) → (v : A) (n : ℕ) → IsSpelledAt S bytes at v n → IsUnless Memory r (v, n)
is_only S read again bytes at (Ok x) given v n h = ok_is x (v, n) (sym given ∙ place_again S read again bytes at v n h)
is_only S read again bytes at (Err e) given v n h = is_memory e (λ other. no_ok_err (v, n) e (sym (place_again S read again bytes at v n h) ∙ given other))

pub is_fault : {A : Type 0} (F : ℕ → List ℕ → DataFault → Type 0) (read : ℕ → List ℕ → Read A) → Failing F read → (bytes : List ℕ) (at : ℕ) (r : Result (A × ℕ) DataFault) → IsBytes bytes
    → Gives (λ x. x) r (from_place read at bytes) → IfErr r (λ f. f ≢ Memory → F (length bytes) (drop at bytes) f)
is_fault F read fails bytes at (Ok x) fits given = tt
is_fault F read fails bytes at (Err e) fits given = λ other. fails (length bytes) (drop at bytes) e (IsBytes-drop at bytes fits) (place_fails read bytes at e (given other))

pub is_refused : {A : Type 0} (F : ℕ → List ℕ → DataFault → Type 0) (read : ℕ → List ℕ → Read A) → Refused F read → (bytes : List ℕ) (at : ℕ) (r : Result (A × ℕ) DataFault)
    → Gives (λ x. x) r (from_place read at bytes) → (f : DataFault) → F (length bytes) (drop at bytes) f → FailsUnless Memory r f
is_refused F read refused bytes at (Ok x) given f h = no_ok_err x f (sym given ∙ place_refused read bytes at f (refused (length bytes) (drop at bytes) f h))
is_refused {A} F read refused bytes at (Err e) given f h = λ other. err_is {A = A × ℕ} e f (sym (given other) ∙ place_refused read bytes at f (refused (length bytes) (drop at bytes) f h))

-- ---- answers of a call that takes no memory

pub told_found : {A : Type 0} (S : A → List ℕ → Type 0) (read : ℕ → List ℕ → Read A) → Taking S read → (bytes : List ℕ) (at : ℕ) (r : Result (A × ℕ) DataFault) → IsBytes bytes → at ≤ length bytes
    → Tells (λ x. x) r (from_place read at bytes) → IfOk r (λ x. IsSpelledAt S bytes at x.0 x.1)
told_found S read takes bytes at (Ok x) fits within given = place_takes S read takes bytes at x fits within given
told_found S read takes bytes at (Err e) fits within given = tt

pub told_is : {X : Type 0} (r read : Result X DataFault) → Tells (λ x. x) r read → read ≡ r
told_is (Ok x) read given = given
told_is (Err e) read given = given

pub told_only : {A : Type 0} (S : A → List ℕ → Type 0) (read : ℕ → List ℕ → Read A) → Again S read → (bytes : List ℕ) (at : ℕ) (r : Result (A × ℕ) DataFault)
    → Tells (λ x. x) r (from_place read at bytes) → (v : A) (n : ℕ) → IsSpelledAt S bytes at v n → r ≡ Ok (v, n)
told_only S read again bytes at r given v n h = sym (told_is r (from_place read at bytes) given) ∙ place_again S read again bytes at v n h

pub told_fault : {A : Type 0} (F : ℕ → List ℕ → DataFault → Type 0) (read : ℕ → List ℕ → Read A) → Failing F read → (bytes : List ℕ) (at : ℕ) (r : Result (A × ℕ) DataFault) → IsBytes bytes
    → Tells (λ x. x) r (from_place read at bytes) → IfErr r (λ f. F (length bytes) (drop at bytes) f)
told_fault F read fails bytes at (Ok x) fits given = tt
told_fault F read fails bytes at (Err e) fits given = fails (length bytes) (drop at bytes) e (IsBytes-drop at bytes fits) (place_fails read bytes at e given)

pub told_refused : {A : Type 0} (F : ℕ → List ℕ → DataFault → Type 0) (read : ℕ → List ℕ → Read A) → Refused F read → (bytes : List ℕ) (at : ℕ) (r : Result (A × ℕ) DataFault)
    → Tells (λ x. x) r (from_place read at bytes) → (f : DataFault) → F (length bytes) (drop at bytes) f → r ≡ Err f
told_refused F read refused bytes at r given f h = sym (told_is r (from_place read at bytes) given) ∙ place_refused read bytes at f (refused (length bytes) (drop at bytes) f h)

-- ---- at most one spelling, and at most one fault

pub one_spelled : {A : Type 0} (S : A → List ℕ → Type 0) (read : ℕ → List ℕ → Read A) → Again S read → (v w : A) (b c x y : List ℕ) → S v b → S w c → b ++ x ≡ c ++ y → (v ≡ w) × (b ≡ c)
one_spelled {A} S read again v w b c x y p q e =
    let same : (v, x) ≡ (w, y) = ok_is (v, x) (w, y) (sym (again 0 v b x p) ∙ ap (read 0) e ∙ again 0 w c y q) in
    let rests : x ≡ y = ap (λ (z : A × List ℕ). z.1) same in
    (ap (λ (z : A × List ℕ). z.0) same, append_cancel_right b c x (e ∙ ap (λ (z : List ℕ). c ++ z) (sym rests)))

pub one_place : {A : Type 0} (S : A → List ℕ → Type 0) (read : ℕ → List ℕ → Read A) → Again S read → (bytes : List ℕ) (at : ℕ) (v w : A) (m n : ℕ)
    → IsSpelledAt S bytes at v m → IsSpelledAt S bytes at w n → (v ≡ w) × (m ≡ n)
one_place {A} S read again bytes at v w m n p q =
    let same : (v, m) ≡ (w, n) = ok_is (v, m) (w, n) (sym (place_again S read again bytes at v m p) ∙ place_again S read again bytes at w n q) in
    (ap (λ (z : A × ℕ). z.0) same, ap (λ (z : A × ℕ). z.1) same)

pub one_fault : {A : Type 0} (F : ℕ → List ℕ → DataFault → Type 0) (read : ℕ → List ℕ → Read A) → Refused F read → (end : ℕ) (b : List ℕ) (f g : DataFault) → F end b f → F end b g → f ≡ g
one_fault {A} F read refused end b f g p q = err_is {A = A × List ℕ} f g (sym (refused end b f p) ∙ refused end b g q)

pub no_fault : {A : Type 0} (S : A → List ℕ → Type 0) (F : ℕ → List ℕ → DataFault → Type 0) (read : ℕ → List ℕ → Read A) → Again S read → Refused F read
    → (end : ℕ) (v : A) (b x : List ℕ) (f : DataFault) → S v b → F end (b ++ x) f → ⊥
no_fault S F read again refused end v b x f p q = no_ok_err (v, x) f (sym (again end v b x p) ∙ refused end (b ++ x) f q)

-- ---- a spelling, or a fault

pub all_bytes : (bytes : List ℕ) → AreBytes bytes → IsBytes bytes
all_bytes [] h i = omega arith
all_bytes (b ∷ bytes) h zero = h.0
all_bytes (b ∷ bytes) h (suc i) = all_bytes bytes h.1 i

answered : {A : Type 0} (S : A → List ℕ → Type 0) (F : ℕ → List ℕ → DataFault → Type 0) (read : ℕ → List ℕ → Read A) → Taking S read → Failing F read
    → (bytes : List ℕ) (at : ℕ) → IsBytes bytes → at ≤ length bytes → (r : Result (A × ℕ) DataFault) → from_place read at bytes ≡ r → SpelledOrFails S F bytes at
answered S F read takes fails bytes at fits within (Ok x) e = inl (x.0, x.1, place_takes S read takes bytes at x fits within e)
answered S F read takes fails bytes at fits within (Err f) e = inr (f, fails (length bytes) (drop at bytes) f (IsBytes-drop at bytes fits) (place_fails read bytes at f e))

pub spelled_or_fails : {A : Type 0} (S : A → List ℕ → Type 0) (F : ℕ → List ℕ → DataFault → Type 0) (read : ℕ → List ℕ → Read A) → Taking S read → Failing F read
    → (bytes : List ℕ) (at : ℕ) → AreBytes bytes → at ≤ length bytes → SpelledOrFails S F bytes at
spelled_or_fails S F read takes fails bytes at all within =
    answered S F read takes fails bytes at (all_bytes bytes all) within (from_place read at bytes) refl
