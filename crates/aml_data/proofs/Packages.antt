-- Packages, whatever counts their elements: what is read is spelled so, and what is spelled so is read.
use Rattle.std.proofs.Common.{◌≡◌, ◌<◌, ◌≤◌, ◌-◌, ℕ, zero, suc, List, [], ◌∷◌, ◌++◌, length, Option, Some, None, Ok, refl, ap, sym, subst, arith}
use Rattle.std.proofs.lemmas.List.{length-append}
use Rattle.aml_data.specs.declared.data.Data.{Data}
use Rattle.aml_data.specs.declared.data.Data.TheVariants.{Package}
use Rattle.aml_data.specs.Objects.{VarPackage}
use Rattle.aml_data.specs.declared.path.Path.{Path}
use Rattle.aml_data.specs.declared.fault.DataFault.{DataFault}
use Rattle.aml_data.specs.declared.fault.DataFault.TheVariants.{TooDeep}
use Rattle.aml_data.specs.Grammar.{Const, spells_zero, spells_one, spells_byte, spells_word, spells_double, spells_quad, NameOf, HasPart, SpellsWithin, AllSpelled}
use Rattle.aml_data.specs.Grammar.{spells_integer, spells_ones, spells_revision, spells_text, spells_buffer, spells_path, spells_package, spells_var_package, spells_none, spells_more}
use Rattle.aml_data.specs.Layouts.{Octet, FewerThan, Holds, SizedFails}
use Rattle.aml_data.specs.Faults.{ConstFails, FailsWithin, ElementsFail, fails_too_deep, fails_in_count, fails_in_elements, fails_var_too_deep, fails_in_var_count, fails_in_var_elements}
use Rattle.aml_data.specs.inner.Reading.{◌>>=◌, Read, byte_at, constant_at}
use Rattle.aml_data.specs.inner.ReadingObjects.{counted_at, elements_at, pack_at, object_by, within, object_within}
use Rattle.aml_data.proofs.Steps.{bind_ok, ok_is, IsBytes, Takes, Takes-is}
use Rattle.aml_data.proofs.Places.{Taking, Again, Failing, Refused}
use Rattle.aml_data.proofs.Constants.{constant_takes, constant_again, constant_fails, constant_refused}
use Rattle.aml_data.proofs.Held.{byte_takes, byte_again, byte_fails, byte_refused, counted_takes, counted_again}
use Rattle.aml_data.proofs.Leads.{name_lead}

-- ---- the kinds of packages

-- A kind of packages: its lead byte, what spells its count and how that fails, how the count is read, and what it makes.
pub record PackKind (lead : ℕ) (S : ℕ → List ℕ → Type 0) (F : ℕ → List ℕ → DataFault → Type 0) (count : ℕ → List ℕ → Read ℕ) (make : ℕ → List Data → Data) : Type 0 where
  pub takes : Taking S count
  pub again : Again S count
  pub fails : Failing F count
  pub refused : Refused F count
  pub row : (depth n : ℕ) (elements : List Data) (c body b : List ℕ) → Holds (c ++ body) b → S n c → AllSpelled depth elements body → length elements ≤ n
      → SpellsWithin (suc depth) (make n elements) (lead ∷ b)
  pub deep_row : (end : ℕ) (rest : List ℕ) → FailsWithin zero end (lead ∷ rest) (TooDeep (end - length (lead ∷ rest)))
  pub count_row : (depth end : ℕ) (rest : List ℕ) (fault : DataFault) → SizedFails F end rest fault → FailsWithin (suc depth) end (lead ∷ rest) fault
  pub elements_row : (depth end n : ℕ) (fault : DataFault) (c body b rest : List ℕ) → Holds (c ++ body) b → S n c → ElementsFail depth n (end - length rest) body fault
      → FailsWithin (suc depth) end (lead ∷ (b ++ rest)) fault

pub package_kind : PackKind 18 Octet (FewerThan 1) byte_at Package
package_kind = record {
  takes = byte_takes;
  again = byte_again;
  fails = byte_fails;
  refused = byte_refused;
  row = λ depth n elements c body b held octet all few. spells_package held octet all few;
  deep_row = λ end rest. fails_too_deep;
  count_row = λ depth end rest fault h. fails_in_count h;
  elements_row = λ depth end n fault c body b rest held octet h. fails_in_elements b rest held octet h;
}

pub var_package_kind : PackKind 19 Const ConstFails constant_at (λ n elements. VarPackage n elements)
var_package_kind = record {
  takes = constant_takes;
  again = constant_again;
  fails = constant_fails;
  refused = constant_refused;
  row = λ depth n elements c body b held const all few. spells_var_package held const all few;
  deep_row = λ end rest. fails_var_too_deep;
  count_row = λ depth end rest fault h. fails_in_var_count h;
  elements_row = λ depth end n fault c body b rest held const h. fails_in_var_elements b rest held const h;
}

-- ---- objects of each nesting

-- A law of objects of each nesting follows where it holds of objects whose elements keep it.
abbrev pub Inner : (ℕ → (ℕ → List ℕ → Read Data) → Type 0) → ℕ → Option (ℕ → List ℕ → Read Data) → Type 0
Inner Law zero None = Unit {0}
Inner Law zero (Some read) = ⊥
Inner Law (suc depth) None = ⊥
Inner Law (suc depth) (Some read) = Law depth read

pub at_each_depth : (Law : ℕ → (ℕ → List ℕ → Read Data) → Type 0) → ((depth : ℕ) (inner : Option (ℕ → List ℕ → Read Data)) → Inner Law depth inner → Law depth (object_by inner))
    → (depth : ℕ) → Law depth (object_within depth)
unfolding within
at_each_depth Law step zero = step zero (within zero) tt
at_each_depth Law step (suc depth) = step (suc depth) (within (suc depth)) (at_each_depth Law step depth)

abbrev pub AgainWithin : ℕ → (ℕ → List ℕ → Read Data) → Type 0
AgainWithin depth read = Again (SpellsWithin depth) read

abbrev pub TakingWithin : ℕ → (ℕ → List ℕ → Read Data) → Type 0
TakingWithin depth read = Taking (SpellsWithin depth) read

-- ---- an object has a byte

begins_constant : (n : ℕ) (c : List ℕ) → Const n c → 0 < length c
begins_constant n c spells_zero = omega arith
begins_constant n c spells_one = omega arith
begins_constant n c (spells_byte k lt) = omega arith
begins_constant n c (spells_word k lt) = omega arith
begins_constant n c (spells_double k lt) = omega arith
begins_constant n c (spells_quad k lt) = omega arith

begins_name_part : (path : Path) (c : List ℕ) → NameOf path c → HasPart path → 0 < length c
begins_name_part path c name some =
    let t = name_lead path c name some in
    let count : length c ≡ suc (length t.rest) = ap (λ (r : List ℕ). length r) t.parts in
    omega arith

-- an object has a byte
pub begins_object : (depth : ℕ) (v : Data) (c : List ℕ) → SpellsWithin depth v c → 0 < length c
begins_object depth v c (spells_integer {n = n} h) = begins_constant n c h
begins_object depth v c spells_ones = omega arith
begins_object depth v c spells_revision = omega arith
begins_object depth v c (spells_text t all) = omega arith
begins_object depth v c (spells_buffer sized) = omega arith
begins_object depth v c (spells_path {name = path} name some) = begins_name_part path c name some
begins_object depth v c (spells_package held octet all few) = omega arith
begins_object depth v c (spells_var_package held const all few) = omega arith

-- ---- elements

elements_take : (depth : ℕ) (read : ℕ → List ℕ → Read Data) → Taking (SpellsWithin depth) read → (n end : ℕ) (bytes : List ℕ) (vs : List Data) → IsBytes bytes → elements_at read n end bytes ≡ Ok vs
    → AllSpelled depth vs bytes × (length vs ≤ n)
elements_take depth read takes n end [] vs fits e = subst (λ (ws : List Data). AllSpelled depth ws [] × (length ws ≤ n)) (ok_is [] vs e) (spells_none, omega arith)
elements_take depth read takes zero end (b ∷ bytes) vs fits e = absurd cc
elements_take depth read takes (suc n) end (b ∷ bytes) vs fits e =
    let a = bind_ok (read end (b ∷ bytes)) (λ first. elements_at read n end first.1 >>= λ others. Ok (first.0 ∷ others)) vs e in
    let c = bind_ok (elements_at read n end a.0.1) (λ others. Ok (a.0.0 ∷ others)) vs a.2 in
    let t = takes end (b ∷ bytes) a.0 fits a.1 in
    let others = elements_take depth read takes n end a.0.1 c.0 t.rest_fits c.1 in
    let few = others.1 in
    let all : AllSpelled depth (a.0.0 ∷ c.0) (b ∷ bytes) = subst (λ (r : List ℕ). AllSpelled depth (a.0.0 ∷ c.0) r) (sym t.parts) (spells_more t.spelled others.0) in
    subst (λ (ws : List Data). AllSpelled depth ws (b ∷ bytes) × (length ws ≤ suc n)) (ok_is (a.0.0 ∷ c.0) vs c.2) (all, omega arith)

elements_by : (read : ℕ → List ℕ → Read Data) (n end : ℕ) (bytes after : List ℕ) (v : Data) (others : List Data) → 0 < length bytes → read end bytes ≡ Ok (v, after)
    → elements_at read n end after ≡ Ok others → elements_at read (suc n) end bytes ≡ Ok (v ∷ others)
elements_by read n end [] after v others some first next = absurd (omega arith)
elements_by read n end (b ∷ bytes) after v others some first next = rw (first, next) refl

elements_again : (depth : ℕ) (read : ℕ → List ℕ → Read Data) → Again (SpellsWithin depth) read → (n end : ℕ) (vs : List Data) (bytes : List ℕ) → AllSpelled depth vs bytes → length vs ≤ n
    → elements_at read n end bytes ≡ Ok vs
elements_again depth read again n end vs bytes spells_none few = refl
elements_again depth read again zero end vs bytes (spells_more first others) few = absurd (omega arith)
elements_again depth read again (suc n) end vs bytes (spells_more {v = v} {vs = ws} {b = b} {bs = bs} first others) few =
    let some : 0 < length (b ++ bs) = let h = begins_object depth v b first in omega (arith, length-append b bs) in
    elements_by read n end (b ++ bs) bs v ws some (again end v b bs first) (elements_again depth read again n end ws bs others (omega arith))

-- ---- a package

abbrev with_elements : (ℕ → List Data → Data) → (ℕ → List ℕ → Read Data) → ℕ → (ℕ × List ℕ) × List ℕ → Read Data
with_elements make read end x = elements_at read x.0.0 (end - length x.1) x.0.1 >>= λ elements. Ok (make x.0.0 elements, x.1)

abbrev made : (ℕ → List Data → Data) → ℕ → List ℕ → List Data → Read Data
made make n after elements = Ok (make n elements, after)

module _ (lead : ℕ) (S : ℕ → List ℕ → Type 0) (F : ℕ → List ℕ → DataFault → Type 0) (count : ℕ → List ℕ → Read ℕ) (make : ℕ → List Data → Data) (kind : PackKind lead S F count make) where
  some_takes : (depth : ℕ) (read : ℕ → List ℕ → Read Data) → Taking (SpellsWithin depth) read → (at end : ℕ) (rest : List ℕ) (x : Data × List ℕ) → IsBytes rest
      → pack_at count make (Some read) at end rest ≡ Ok x → Takes (SpellsWithin (suc depth)) (lead ∷ rest) x
  unfolding pack_at
  some_takes depth read inner at end rest x fits e =
      let a = bind_ok (counted_at count end rest) (with_elements make read end) x e in
      let b = bind_ok (elements_at read a.0.0.0 (end - length a.0.1) a.0.0.1) (made make a.0.0.0 a.0.1) x a.2 in
      let t = counted_takes S count kind.takes end rest a.0 fits a.1 in
      let all = elements_take depth read inner a.0.0.0 (end - length a.0.1) a.0.0.1 b.0 t.body_fits b.1 in
      Takes-is (SpellsWithin (suc depth)) (lead ∷ rest) (make a.0.0.0 b.0, a.0.1) x b.2 (record {
        front = lead ∷ t.front;
        parts = ap (λ (r : List ℕ). lead ∷ r) t.parts;
        spelled = kind.row depth a.0.0.0 b.0 t.head a.0.0.1 t.front t.held t.spelled all.0 all.1;
        rest_fits = t.rest_fits;
      })

  pub pack_takes : (depth : ℕ) (inner : Option (ℕ → List ℕ → Read Data)) → Inner TakingWithin depth inner → (at end : ℕ) (rest : List ℕ) (x : Data × List ℕ) → IsBytes rest
      → pack_at count make inner at end rest ≡ Ok x → Takes (SpellsWithin depth) (lead ∷ rest) x
  unfolding pack_at
  pack_takes zero None h at end rest x fits e = absurd cc
  pack_takes zero (Some read) h at end rest x fits e = absurd h
  pack_takes (suc depth) None h at end rest x fits e = absurd h
  pack_takes (suc depth) (Some read) h at end rest x fits e = some_takes depth read h at end rest x fits e

  pack_by : (read : ℕ → List ℕ → Read Data) (at end n : ℕ) (bytes after body : List ℕ) (elements : List Data) → counted_at count end bytes ≡ Ok ((n, body), after)
      → elements_at read n (end - length after) body ≡ Ok elements → pack_at count make (Some read) at end bytes ≡ Ok (make n elements, after)
  unfolding pack_at
  pack_by read at end n bytes after body elements counted all = rw (counted, all) refl

  pub pack_again : (depth : ℕ) (inner : Option (ℕ → List ℕ → Read Data)) → Inner AgainWithin (suc depth) inner → (at end n : ℕ) (elements : List Data) (c body b rest : List ℕ)
      → Holds (c ++ body) b → S n c → AllSpelled depth elements body → length elements ≤ n → pack_at count make inner at end (b ++ rest) ≡ Ok (make n elements, rest)
  pack_again depth None h at end n elements c body b rest held s all few = absurd h
  pack_again depth (Some read) h at end n elements c body b rest held s all few =
      pack_by read at end n (b ++ rest) rest body elements (counted_again S count kind.again end n c body b rest held s) (elements_again depth read h n (end - length rest) elements body all few)
