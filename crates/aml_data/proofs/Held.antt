-- A PkgLength, and the number that stands first in what it holds: the four laws of reading both.
use Rattle.std.proofs.Common.{◌≡◌, ◌-◌, ℕ, List, [], ◌∷◌, ◌++◌, length, Ok, Err, refl, ap, sym, subst, ◌∙◌, append_assoc, arith, inl, inr}
use Rattle.aml_data.specs.declared.fault.DataFault.{DataFault}
use Rattle.aml_data.specs.declared.fault.DataFault.TheVariants.{Short}
use Rattle.aml_data.specs.Layouts.{Octet, FewerThan, fails_few, Holds, holds, SizedFails, fails_in_length, fails_inside}
use Rattle.aml_data.specs.inner.Reading.{◌>>=◌, Read, byte_at, window_at}
use Rattle.aml_data.specs.inner.ReadingObjects.{counted_at}
use Rattle.aml_data.proofs.Steps.{bind_ok, bind_err, ok_is, err_is, no_ok_err, IsBytes, IsBytes-rest, Takes-is}
use Rattle.aml_data.proofs.Places.{Taking, Again, Failing, Refused}
use Rattle.aml_data.proofs.LengthSpellings.{window_takes, window_again, window_fails, window_refused}

-- ---- a byte

pub byte_takes : Taking Octet byte_at
byte_takes end [] x fits e = absurd cc
byte_takes end (b ∷ bytes) x fits e =
    Takes-is Octet (b ∷ bytes) (b, bytes) x e
    (record { front = b ∷ []; parts = refl; spelled = record { is = refl; fits = fits 0 }; rest_fits = IsBytes-rest b bytes fits })

pub byte_again : Again Octet byte_at
byte_again end v c rest h = rw h.is refl

pub byte_fails : Failing (FewerThan 1) byte_at
byte_fails end [] fault fits e = subst (λ (f : DataFault). FewerThan 1 end [] f) (err_is {A = ℕ × List ℕ} (Short end) fault e) (fails_few (omega arith))
byte_fails end (b ∷ bytes) fault fits e = absurd (no_ok_err (b, bytes) fault e)

pub byte_refused : Refused (FewerThan 1) byte_at
byte_refused end [] fault (fails_few h) = refl
byte_refused end (b ∷ bytes) fault (fails_few h) = absurd (omega arith)

-- ---- a length and what it holds

pub window_held : (end : ℕ) (content b rest : List ℕ) → Holds content b → window_at end (b ++ rest) ≡ Ok (content, rest)
window_held end content b rest (holds p _ len) = ap (window_at end) (append_assoc p content rest) ∙ window_again end p content rest len

-- What was read from bytes: a PkgLength that holds a spelling of a number and the bytes behind it.
pub record TakesCounted (S : ℕ → List ℕ → Type 0) (bytes : List ℕ) (x : (ℕ × List ℕ) × List ℕ) : Type 0 where
  pub front : List ℕ
  pub head : List ℕ
  pub parts : bytes ≡ front ++ x.1
  pub held : Holds (head ++ x.0.1) front
  pub spelled : S x.0.0 head
  pub body_fits : IsBytes x.0.1
  pub rest_fits : IsBytes x.1

abbrev with_number : (ℕ → List ℕ → Read ℕ) → ℕ → List ℕ × List ℕ → Read (ℕ × List ℕ)
with_number count end inside = count (end - length inside.1) inside.0 >>= λ n. Ok ((n.0, n.1), inside.1)

abbrev with_rest : List ℕ → ℕ × List ℕ → Read (ℕ × List ℕ)
with_rest after n = Ok ((n.0, n.1), after)

pub counted_takes : (S : ℕ → List ℕ → Type 0) (count : ℕ → List ℕ → Read ℕ) → Taking S count → (end : ℕ) (bytes : List ℕ) (x : (ℕ × List ℕ) × List ℕ) → IsBytes bytes
    → counted_at count end bytes ≡ Ok x → TakesCounted S bytes x
unfolding counted_at
counted_takes S count takes end bytes x fits e =
    let a = bind_ok (window_at end bytes) (with_number count end) x e in
    let b = bind_ok (count (end - length a.0.1) a.0.0) (with_rest a.0.1) x a.2 in
    let w = window_takes end bytes a.0 fits a.1 in
    let t = takes (end - length a.0.1) a.0.0 b.0 w.inside_fits b.1 in
    subst (λ (y : (ℕ × List ℕ) × List ℕ). TakesCounted S bytes y) (ok_is ((b.0.0, b.0.1), a.0.1) x b.2) (record {
      front = w.front ++ a.0.0;
      head = t.front;
      parts = w.parts ∙ sym (append_assoc w.front a.0.0 a.0.1);
      held = subst (λ (i : List ℕ). Holds i (w.front ++ a.0.0)) t.parts (holds w.front a.0.0 w.spelled);
      spelled = t.spelled;
      body_fits = t.rest_fits;
      rest_fits = w.rest_fits;
    })

counted_by : (count : ℕ → List ℕ → Read ℕ) (end n : ℕ) (bytes inside after body : List ℕ) → window_at end bytes ≡ Ok (inside, after) → count (end - length after) inside ≡ Ok (n, body)
    → counted_at count end bytes ≡ Ok ((n, body), after)
unfolding counted_at
counted_by count end n bytes inside after body window first = rw (window, first) refl

pub counted_again : (S : ℕ → List ℕ → Type 0) (count : ℕ → List ℕ → Read ℕ) → Again S count → (end n : ℕ) (c body b rest : List ℕ) → Holds (c ++ body) b → S n c
    → counted_at count end (b ++ rest) ≡ Ok ((n, body), rest)
counted_again S count again end n c body b rest held s = counted_by count end n (b ++ rest) (c ++ body) rest body (window_held end (c ++ body) b rest held) (again (end - length rest) n c body s)

pub counted_fails : (F : ℕ → List ℕ → DataFault → Type 0) (count : ℕ → List ℕ → Read ℕ) → Failing F count → (end : ℕ) (bytes : List ℕ) (fault : DataFault) → IsBytes bytes
    → counted_at count end bytes ≡ Err fault → SizedFails F end bytes fault
unfolding counted_at
counted_fails F count fails end bytes fault fits e =
    elim (bind_err (window_at end bytes) (with_number count end) fault e) [
      | inl h ↦ fails_in_length (window_fails end bytes fault fits h)
      | inr a ↦
          let w = window_takes end bytes a.0 fits a.1 in
          elim (bind_err (count (end - length a.0.1) a.0.0) (with_rest a.0.1) fault a.2) [
            | inl h ↦
                subst (λ (r : List ℕ). SizedFails F end r fault) (sym (w.parts ∙ sym (append_assoc w.front a.0.0 a.0.1)))
                (fails_inside (w.front ++ a.0.0) a.0.1 (holds w.front a.0.0 w.spelled) (fails (end - length a.0.1) a.0.0 fault w.inside_fits h))
            | inr b ↦ absurd (let impossible = b.2 in cc)
          ]
    ]

pub counted_refused : (F : ℕ → List ℕ → DataFault → Type 0) (count : ℕ → List ℕ → Read ℕ) → Refused F count → (end : ℕ) (bytes : List ℕ) (fault : DataFault) → SizedFails F end bytes fault
    → counted_at count end bytes ≡ Err fault
unfolding counted_at
counted_refused F count refused end bytes fault (fails_in_length h) = rw (window_refused end bytes fault h) refl
counted_refused F count refused end bytes fault (fails_inside {content = content} front rest held h) =
    rw (window_held end content front rest held, refused (end - length rest) content fault h) refl
