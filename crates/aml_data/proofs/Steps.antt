-- What a step of reading answered, and what a part took from the front of the bytes.
use Rattle.std.proofs.Common.{◌≡◌, ◌<◌, ◌+◌, ◌⊎◌, ℕ, suc, Bool, true, false, cond, List, ◌∷◌, ◌++◌, length, get_or, take, drop, Result, Ok, Err, refl, subst, arith, inl, inr}
use Rattle.std.proofs.lemmas.Bool.{cases_lt}
use Rattle.std.proofs.lemmas.List.{get_or-drop, get_or-take, get_or_past, length-take, drop_at}
use Rattle.aml_data.specs.declared.fault.DataFault.{DataFault}
pub use Rattle.pw_base.proofs.Answers.{bind_ok, bind_err, ok_is, err_is, no_ok_err, no_err_ok}

-- ---- steps

abbrev pub done : {A : Type 0} → A → Result A DataFault
done x = Ok x

abbrev pub failed : {A : Type 0} → DataFault → Result A DataFault
failed d = Err d

-- which way a test went
pub chosen : {A : Type 0} (b : Bool) (x y z : A) → cond b x y ≡ z → ((b ≡ true) × (x ≡ z)) ⊎ ((b ≡ false) × (y ≡ z))
chosen true x y z e = inl (refl, e)
chosen false x y z e = inr (refl, e)

-- ---- bytes

abbrev pub IsBytes : List ℕ → Type 0
IsBytes bytes = (i : ℕ) → get_or bytes i 0 < 256

pub IsBytes-drop : (n : ℕ) (bytes : List ℕ) → IsBytes bytes → IsBytes (drop n bytes)
IsBytes-drop n bytes h i = rw get_or-drop (h (n + i))

pub IsBytes-take : (n : ℕ) (bytes : List ℕ) → IsBytes bytes → IsBytes (take n bytes)
IsBytes-take n bytes h i =
    elim (cases_lt i n) [
      | inl lt ↦ rw (get_or-take n bytes i 0 lt) (h i)
      | inr le ↦ rw (get_or_past (take n bytes) i 0 (omega (arith, length-take n bytes))) (omega arith)
    ]

pub IsBytes-rest : (b : ℕ) (bytes : List ℕ) → IsBytes (b ∷ bytes) → IsBytes bytes
IsBytes-rest b bytes h i = h (suc i)

pub IsBytes-after : (front rest : List ℕ) → IsBytes (front ++ rest) → IsBytes rest
IsBytes-after front rest h = rw (drop_at front rest (length front) refl) at (IsBytes-drop (length front) (front ++ rest) h)

pub IsBytes-same : (bytes others : List ℕ) → bytes ≡ others → IsBytes bytes → IsBytes others
IsBytes-same bytes others e h = subst IsBytes e h

-- ---- parts

-- What was read from bytes: they begin with a spelling of it, and the rest follows.
pub record Takes {A : Type 0} (Spelling : A → List ℕ → Type 0) (bytes : List ℕ) (x : A × List ℕ) : Type 0 where
  pub front : List ℕ
  pub parts : bytes ≡ front ++ x.1
  pub spelled : Spelling x.0 front
  pub rest_fits : IsBytes x.1

-- a part that is made of another part alone
pub Takes-as : {A B : Type 0} (S : A → List ℕ → Type 0) (R : B → List ℕ → Type 0) (bytes : List ℕ) (x : A × List ℕ) (y : B)
    → ((c : List ℕ) → S x.0 c → R y c) → Takes S bytes x → Takes R bytes (y, x.1)
Takes-as S R bytes x y f t = record { front = t.front; parts = t.parts; spelled = f t.front t.spelled; rest_fits = t.rest_fits }

-- the same of the answer that was met
pub Takes-is : {A : Type 0} (S : A → List ℕ → Type 0) (bytes : List ℕ) (y x : A × List ℕ) → done y ≡ done x → Takes S bytes y → Takes S bytes x
Takes-is {A} S bytes y x e t = subst (λ (z : A × List ℕ). Takes S bytes z) (ok_is y x e) t
