-- The first fault of a package, both ways.
use Rattle.std.proofs.Common.{◌≡◌, ◌<◌, ◌-◌, ℕ, zero, suc, List, [], ◌∷◌, ◌++◌, length, Option, Some, None, Ok, Err, refl, sym, subst, arith, inl, inr}
use Rattle.std.proofs.lemmas.List.{length-append}
use Rattle.aml_data.specs.declared.data.Data.{Data}
use Rattle.aml_data.specs.declared.fault.DataFault.{DataFault}
use Rattle.aml_data.specs.declared.fault.DataFault.TheVariants.{TooMany, TooDeep}
use Rattle.aml_data.specs.Layouts.{Holds, SizedFails}
use Rattle.aml_data.specs.Faults.{FailsWithin, ElementsFail, fails_too_many, fails_this_element, fails_later_element}
use Rattle.aml_data.specs.inner.Reading.{◌>>=◌, Read}
use Rattle.aml_data.specs.inner.ReadingObjects.{counted_at, elements_at, pack_at}
use Rattle.aml_data.proofs.Steps.{failed, bind_err, err_is, IsBytes}
use Rattle.aml_data.proofs.Places.{Failing, Refused}
use Rattle.aml_data.proofs.Held.{counted_takes, counted_again, counted_fails, counted_refused}
use Rattle.aml_data.proofs.Packages.{PackKind, Inner, TakingWithin, AgainWithin, begins_object}

-- What is read and what fails, and the way back: the elements before the one that fails are read.
abbrev pub FailingWithin : ℕ → (ℕ → List ℕ → Read Data) → Type 0
FailingWithin depth read = TakingWithin depth read × Failing (FailsWithin depth) read

abbrev pub RefusedWithin : ℕ → (ℕ → List ℕ → Read Data) → Type 0
RefusedWithin depth read = AgainWithin depth read × Refused (FailsWithin depth) read

-- a fault that is answered is the one that was met
pub met : (F : DataFault → Type 0) (c d : DataFault) → failed {A = Data × List ℕ} c ≡ failed d → F c → F d
met F c d e h = subst F (err_is {A = Data × List ℕ} c d e) h

-- ---- elements

elements_fail : (depth : ℕ) (read : ℕ → List ℕ → Read Data) → FailingWithin depth read → (n end : ℕ) (bytes : List ℕ) (fault : DataFault) → IsBytes bytes → elements_at read n end bytes ≡ Err fault
    → ElementsFail depth n end bytes fault
elements_fail depth read law n end [] fault fits e = absurd cc
elements_fail depth read law zero end (b ∷ bytes) fault fits e =
    subst (λ (f : DataFault). ElementsFail depth 0 end (b ∷ bytes) f) (err_is {A = List Data} (TooMany (end - length (b ∷ bytes))) fault e) fails_too_many
elements_fail depth read law (suc n) end (b ∷ bytes) fault fits e =
    elim (bind_err (read end (b ∷ bytes)) (λ first. elements_at read n end first.1 >>= λ others. Ok (first.0 ∷ others)) fault e) [
      | inl h ↦ fails_this_element (law.1 end (b ∷ bytes) fault fits h)
      | inr a ↦
          let t = law.0 end (b ∷ bytes) a.0 fits a.1 in
          elim (bind_err (elements_at read n end a.0.1) (λ others. Ok (a.0.0 ∷ others)) fault a.2) [
            | inl h ↦
                subst (λ (r : List ℕ). ElementsFail depth (suc n) end r fault) (sym t.parts)
                (fails_later_element a.0.0 t.front a.0.1 t.spelled (elements_fail depth read law n end a.0.1 fault t.rest_fits h))
            | inr c ↦ absurd (let impossible = c.2 in cc)
          ]
    ]

element_fails : (read : ℕ → List ℕ → Read Data) (n end : ℕ) (bytes : List ℕ) (fault : DataFault) → 0 < length bytes → read end bytes ≡ Err fault → elements_at read (suc n) end bytes ≡ Err fault
element_fails read n end [] fault some h = absurd (omega arith)
element_fails read n end (b ∷ bytes) fault some h = rw h refl

later_fails : (read : ℕ → List ℕ → Read Data) (n end : ℕ) (bytes after : List ℕ) (v : Data) (fault : DataFault) → 0 < length bytes → read end bytes ≡ Ok (v, after)
    → elements_at read n end after ≡ Err fault → elements_at read (suc n) end bytes ≡ Err fault
later_fails read n end [] after v fault some first h = absurd (omega arith)
later_fails read n end (b ∷ bytes) after v fault some first h = rw (first, h) refl

elements_refused : (depth : ℕ) (read : ℕ → List ℕ → Read Data) → RefusedWithin depth read → (n end : ℕ) (bytes : List ℕ) (fault : DataFault) → ElementsFail depth n end bytes fault
    → elements_at read n end bytes ≡ Err fault
elements_refused depth read law n end bytes fault fails_too_many = refl
elements_refused depth read law (suc n) end bytes fault (fails_this_element {b = b} {rest = rest} h) = element_fails read n end (b ∷ rest) fault (omega arith) (law.1 end (b ∷ rest) fault h)
elements_refused depth read law (suc n) end bytes fault (fails_later_element v c rest spelled h) =
    let some : 0 < length (c ++ rest) = let long = begins_object depth v c spelled in omega (arith, length-append c rest) in
    later_fails read n end (c ++ rest) rest v fault some (law.0 end v c rest spelled) (elements_refused depth read law n end rest fault h)

-- ---- a package

abbrev with_elements : (ℕ → List Data → Data) → (ℕ → List ℕ → Read Data) → ℕ → (ℕ × List ℕ) × List ℕ → Read Data
with_elements make read end x = elements_at read x.0.0 (end - length x.1) x.0.1 >>= λ elements. Ok (make x.0.0 elements, x.1)

abbrev made : (ℕ → List Data → Data) → ℕ → List ℕ → List Data → Read Data
made make n after elements = Ok (make n elements, after)

module _ (lead : ℕ) (S : ℕ → List ℕ → Type 0) (F : ℕ → List ℕ → DataFault → Type 0) (count : ℕ → List ℕ → Read ℕ) (make : ℕ → List Data → Data) (kind : PackKind lead S F count make) where
  some_fails : (depth : ℕ) (read : ℕ → List ℕ → Read Data) → FailingWithin depth read → (at end : ℕ) (rest : List ℕ) (fault : DataFault) → IsBytes rest
      → pack_at count make (Some read) at end rest ≡ Err fault → FailsWithin (suc depth) end (lead ∷ rest) fault
  unfolding pack_at
  some_fails depth read law at end rest fault fits e =
      elim (bind_err (counted_at count end rest) (with_elements make read end) fault e) [
        | inl h ↦ kind.count_row depth end rest fault (counted_fails F count kind.fails end rest fault fits h)
        | inr a ↦
            let t = counted_takes S count kind.takes end rest a.0 fits a.1 in
            elim (bind_err (elements_at read a.0.0.0 (end - length a.0.1) a.0.0.1) (made make a.0.0.0 a.0.1) fault a.2) [
              | inl h ↦
                  subst (λ (r : List ℕ). FailsWithin (suc depth) end (lead ∷ r) fault) (sym t.parts)
                  (kind.elements_row depth end a.0.0.0 fault t.head a.0.0.1 t.front a.0.1 t.held t.spelled
                  (elements_fail depth read law a.0.0.0 (end - length a.0.1) a.0.0.1 fault t.body_fits h))
              | inr b ↦ absurd (let impossible = b.2 in cc)
            ]
      ]

  pub pack_fails : (depth : ℕ) (inner : Option (ℕ → List ℕ → Read Data)) → Inner FailingWithin depth inner → (end : ℕ) (rest : List ℕ) (fault : DataFault) → IsBytes rest
      → pack_at count make inner (end - length (lead ∷ rest)) end rest ≡ Err fault → FailsWithin depth end (lead ∷ rest) fault
  unfolding pack_at
  pack_fails zero None h end rest fault fits e = met (λ f. FailsWithin 0 end (lead ∷ rest) f) (TooDeep (end - length (lead ∷ rest))) fault e (kind.deep_row end rest)
  pack_fails zero (Some read) h end rest fault fits e = absurd h
  pack_fails (suc depth) None h end rest fault fits e = absurd h
  pack_fails (suc depth) (Some read) h end rest fault fits e = some_fails depth read h (end - length (lead ∷ rest)) end rest fault fits e

  pub refused_depth : (inner : Option (ℕ → List ℕ → Read Data)) → Inner RefusedWithin 0 inner → (at end : ℕ) (bytes : List ℕ) → pack_at count make inner at end bytes ≡ Err (TooDeep at)
  unfolding pack_at
  refused_depth None law at end bytes = refl
  refused_depth (Some read) law at end bytes = absurd law

  pub refused_count : (depth : ℕ) (inner : Option (ℕ → List ℕ → Read Data)) → Inner RefusedWithin (suc depth) inner → (at end : ℕ) (bytes : List ℕ) (fault : DataFault) → SizedFails F end bytes fault
      → pack_at count make inner at end bytes ≡ Err fault
  unfolding pack_at
  refused_count depth None law at end bytes fault h = absurd law
  refused_count depth (Some read) law at end bytes fault h = rw (counted_refused F count kind.refused end bytes fault h) refl

  pub refused_elements : (depth : ℕ) (inner : Option (ℕ → List ℕ → Read Data)) → Inner RefusedWithin (suc depth) inner → (at end n : ℕ) (c body b rest : List ℕ) (fault : DataFault)
      → Holds (c ++ body) b → S n c → ElementsFail depth n (end - length rest) body fault → pack_at count make inner at end (b ++ rest) ≡ Err fault
  unfolding pack_at
  refused_elements depth None law at end n c body b rest fault held s h = absurd law
  refused_elements depth (Some read) law at end n c body b rest fault held s h =
      rw (counted_again S count kind.again end n c body b rest held s, elements_refused depth read law n (end - length rest) body fault h) refl
