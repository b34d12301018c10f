-- The four laws of the parts of terms, and of parts that stand one after the other: read, so spelled; spelled, so read,
-- whatever follows; read as a fault, so the first fault; and back.
use Rattle.std.proofs.Common.{◌≡◌, ◌<◌, ◌-◌, ◌^◌, ℕ, zero, suc, true, false, eqb, List, [], ◌∷◌, ◌++◌, length, Ok, Err, refl, sym, ap, subst, ◌∙◌, arith, inl, inr, append_assoc}
use Rattle.std.specs.Int.{w32}
use Rattle.std.proofs.lemmas.Bool.{eqb-true}
use Rattle.std.proofs.lemmas.Bool.Decides.{nat_tests}
use Rattle.aml_data.specs.declared.path.Path.{Path}
use Rattle.aml_data.specs.declared.fault.DataFault.{DataFault}
use Rattle.aml_data.specs.declared.fault.DataFault.TheVariants.{Short, BadName}
use Rattle.aml_data.specs.Grammar.{Const, Segments, spells_no_segment, spells_one_segment, spells_two_segments, spells_many_segments, NameOf, spells_name, Spells}
use Rattle.aml_data.specs.Faults.{ConstFails, NameFails, Fails}
use Rattle.aml_data.specs.inner.Reading.{◌>>=◌, Read, byte_at, constant_at, name_at}
use Rattle.aml_data.specs.inner.ReadingObjects.{object_at}
use Rattle.aml_data.proofs.Steps.{done, bind_ok, bind_err, chosen, err_is, IsBytes-rest, Takes-as, Takes-is}
use Rattle.aml_data.proofs.Places.{Taking, Again, Failing, Refused}
use Rattle.aml_data.proofs.Constants.{wide32, NumberOf, number_takes, number_again, number_fails, number_refused, constant_takes, constant_again, constant_fails, constant_refused}
use Rattle.aml_data.proofs.Names.{name_takes, name_again}
use Rattle.aml_data.proofs.NameFaults.{name_fails, name_refused}
use Rattle.aml_data.proofs.Objects.{object_takes, object_again}
use Rattle.aml_data.proofs.ObjectFaults.{object_fails, object_refused}
use Rattle.aml_data.specs.Layouts.{Byte, Double, FewerThan, fails_few, Both, BothFail, fails_in_one, fails_in_other}
use Rattle.aml_block.specs.Layouts.{Named, NamedFails, fails_as_name, fails_without_segment}
use Rattle.aml_block.specs.Layouts.{NameLayout, NameLayoutFails, AliasLayout, AliasLayoutFails, ExternalLayout, ExternalLayoutFails, MutexLayout, MutexLayoutFails}
use Rattle.aml_block.specs.Layouts.{RegionLayout, RegionLayoutFails, ProcessorLayout, ProcessorLayoutFails}
use Rattle.aml_block.specs.Layouts.{Head, scope_head, device_head, processor_head, HeadFails, scope_head_fails, device_head_fails, processor_head_fails}
use Rattle.aml_block.specs.Opcodes.{is_holder}
use Rattle.aml_block.specs.declared.opcode.TheConstants.{SCOPE_OP, DEVICE_OP, PROCESSOR_OP}
use Rattle.aml_block.specs.declared.term.Term.{Term}
use Rattle.aml_block.specs.declared.term.Term.TheVariants.{Scope, Device, Processor}
use Rattle.aml_block.specs.inner.Fronts.{made, head_at}
use Rattle.aml_block.proofs.OpcodeCases.{holder_cases}
use Rattle.aml_block.specs.inner.ReadingParts.{both_at, with_segment, named_at, double_at}

pub record Laws {A : Type 0} (S : A → List ℕ → Type 0) (F : ℕ → List ℕ → DataFault → Type 0) (read : ℕ → List ℕ → Read A) : Type 0 where
  pub takes : Taking S read
  pub again : Again S read
  pub fails : Failing F read
  pub refused : Refused F read

-- ---- parts of data objects

pub names : Laws NameOf NameFails name_at
names = record { takes = name_takes; again = name_again; fails = name_fails; refused = name_refused }

pub constants : Laws Const ConstFails constant_at
constants = record { takes = constant_takes; again = constant_again; fails = constant_fails; refused = constant_refused }

pub objects : Laws Spells Fails object_at
objects = record { takes = object_takes; again = object_again; fails = object_fails; refused = object_refused }

-- ---- bytes

byte_takes : Taking Byte byte_at
byte_takes end [] x fits e = absurd cc
byte_takes end (b ∷ rest) x fits e = Takes-is Byte (b ∷ rest) (b, rest) x e (record { front = b ∷ []; parts = refl; spelled = refl; rest_fits = IsBytes-rest b rest fits })

byte_again : Again Byte byte_at
byte_again end b c rest e = ap (λ (d : List ℕ). byte_at end (d ++ rest)) e

byte_fails : Failing (FewerThan 1) byte_at
byte_fails end [] fault fits e = subst (λ (f : DataFault). FewerThan 1 end [] f) (err_is {A = ℕ × List ℕ} (Short end) fault e) (fails_few (omega arith))
byte_fails end (b ∷ rest) fault fits e = absurd cc

byte_refused : Refused (FewerThan 1) byte_at
byte_refused end [] fault (fails_few few) = refl
byte_refused end (b ∷ rest) fault (fails_few few) = absurd (omega arith)

pub one_byte : Laws Byte (FewerThan 1) byte_at
one_byte = record { takes = byte_takes; again = byte_again; fails = byte_fails; refused = byte_refused }

double_takes : Taking Double double_at
double_takes end bytes x fits e =
    Takes-as (NumberOf w32 (2 ^ 32)) Double bytes x x.0 (λ c s. record { is = s.0; fits = s.1 }) (number_takes w32 (2 ^ 32) wide32 end bytes x fits e)

double_again : Again Double double_at
double_again end n c rest s = ap (λ (d : List ℕ). double_at end (d ++ rest)) s.is ∙ number_again w32 (2 ^ 32) wide32 end n rest s.fits

double_fails : Failing (FewerThan 4) double_at
double_fails end bytes fault fits e = let h = number_fails w32 end bytes fault e in subst (λ (f : DataFault). FewerThan 4 end bytes f) h.1 (fails_few h.0)

double_refused : Refused (FewerThan 4) double_at
double_refused end bytes fault (fails_few few) = number_refused w32 end bytes few

pub four_bytes : Laws Double (FewerThan 4) double_at
four_bytes = record { takes = double_takes; again = double_again; fails = double_fails; refused = double_refused }

-- ---- names with a segment

some_segment : (n : ℕ) → eqb n 0 ≡ false → 0 < n
some_segment zero e = absurd cc
some_segment (suc n) e = omega arith

-- a name without segments ends in 00
no_segments : (ss : List (List ℕ)) (s : List ℕ) → Segments ss s → length ss ≡ 0 → s ≡ 0 ∷ []
no_segments _ _ spells_no_segment e = refl
no_segments _ _ (spells_one_segment ss n a) e = absurd (omega arith)
no_segments _ _ (spells_two_segments ss n a) e = absurd (omega arith)
no_segments _ _ (spells_many_segments ss n m a) e = absurd (omega arith)

at_zero : (end n : ℕ) → end - n - 1 ≡ end - suc n
at_zero end n = omega arith

named_nothing : (end : ℕ) (path : Path) (b rest : List ℕ) → NameOf path b → length path.segs ≡ 0 → NamedFails end (b ++ rest) (BadName (end - length rest - 1))
named_nothing end path _ rest (spells_name {p = p} {s = s} prefixed segments) e =
    let z = no_segments path.segs s segments e in
    let parts : (p ++ s) ++ rest ≡ p ++ (0 ∷ rest) = ap (λ (l : List ℕ). (p ++ l) ++ rest) z ∙ append_assoc p (0 ∷ []) rest in
    rw (parts, at_zero end (length rest)) (fails_without_segment p rest prefixed)

named_takes : Taking Named named_at
unfolding named_at
named_takes end bytes x fits e =
    let a = bind_ok (name_at end bytes) (with_segment end) x e in
    let n = name_takes end bytes a.0 fits a.1 in
    elim (chosen (eqb (length a.0.0.segs) 0) _ _ _ a.2) [
      | inl h ↦ absurd (let impossible = h.1 in cc)
      | inr h ↦
          Takes-is Named bytes a.0 x h.1
          (record { front = n.front; parts = n.parts; spelled = record { name = n.spelled; some = some_segment (length a.0.0.segs) h.0 }; rest_fits = n.rest_fits })
    ]

named_again : Again Named named_at
unfolding named_at
named_again end path c rest s =
    let some = s.some in
    let e : eqb (length path.segs) 0 ≡ false = grind (arith, nat_tests) in
    rw (name_again end path c rest s.name, e) refl

named_fails : Failing NamedFails named_at
unfolding named_at
named_fails end bytes fault fits e =
    elim (bind_err (name_at end bytes) (with_segment end) fault e) [
      | inl h ↦ fails_as_name (name_fails end bytes fault fits h)
      | inr a ↦
          let n = name_takes end bytes a.0 fits a.1 in
          elim (chosen (eqb (length a.0.0.segs) 0) _ _ _ a.2) [
            | inl h ↦
                subst (λ (f : DataFault). NamedFails end bytes f) (err_is {A = Path × List ℕ} _ fault h.1)
                (rw n.parts (named_nothing end a.0.0 n.front a.0.1 n.spelled (eqb-true _ _ h.0)))
            | inr h ↦ absurd (let impossible = h.1 in cc)
          ]
    ]

named_refused : Refused NamedFails named_at
unfolding named_at
named_refused end bytes fault (fails_as_name h) = rw (name_refused end bytes fault h) refl
named_refused end _ _ (fails_without_segment {ups = ups} {root = root} p rest prefixed) =
    let path : Path = record { root = root; ups = ups; segs = [] } in
    let spelled : NameOf path (p ++ 0 ∷ []) = spells_name prefixed spells_no_segment in
    let e : name_at end (p ++ (0 ∷ rest)) ≡ Ok (path, rest) = ap (name_at end) (sym (append_assoc p (0 ∷ []) rest)) ∙ name_again end path (p ++ 0 ∷ []) rest spelled in
    rw e (ap (λ at. Err (BadName at)) (at_zero end (length rest)))

pub named : Laws Named NamedFails named_at
named = record { takes = named_takes; again = named_again; fails = named_fails; refused = named_refused }

-- ---- one part after another

module _ {A B : Type 0} (S : A → List ℕ → Type 0) (F : ℕ → List ℕ → DataFault → Type 0) (one : ℕ → List ℕ → Read A)
    (T : B → List ℕ → Type 0) (G : ℕ → List ℕ → DataFault → Type 0) (other : ℕ → List ℕ → Read B) where
  both_takes : Laws S F one → Laws T G other → Taking (Both S T) (both_at one other)
  both_takes a b end bytes x fits e =
      let p = bind_ok (one end bytes) (λ v. other end v.1 >>= λ w. Ok ((v.0, w.0), w.1)) x e in
      let o = bind_ok (other end p.0.1) (λ w. Ok ((p.0.0, w.0), w.1)) x p.2 in
      let s = a.takes end bytes p.0 fits p.1 in
      let t = b.takes end p.0.1 o.0 s.rest_fits o.1 in
      Takes-is (Both S T) bytes ((p.0.0, o.0.0), o.0.1) x o.2 (record {
        front = s.front ++ t.front;
        parts = s.parts ∙ ap (λ (c : List ℕ). s.front ++ c) t.parts ∙ sym (append_assoc s.front t.front o.0.1);
        spelled = record { front = s.front; back = t.front; parts = refl; one = s.spelled; other = t.spelled };
        rest_fits = t.rest_fits;
      })

  both_again : Laws S F one → Laws T G other → Again (Both S T) (both_at one other)
  both_again a b end v c rest s =
      let e : c ++ rest ≡ s.front ++ (s.back ++ rest) = ap (λ (d : List ℕ). d ++ rest) s.parts ∙ append_assoc s.front s.back rest in
      ap (both_at one other end) e ∙ rw (a.again end v.0 s.front (s.back ++ rest) s.one, b.again end v.1 s.back rest s.other) refl

  both_fails : Laws S F one → Laws T G other → Failing (BothFail F S G) (both_at one other)
  both_fails a b end bytes fault fits e =
      elim (bind_err (one end bytes) (λ v. other end v.1 >>= λ w. Ok ((v.0, w.0), w.1)) fault e) [
        | inl h ↦ fails_in_one (a.fails end bytes fault fits h)
        | inr p ↦
            let s = a.takes end bytes p.0 fits p.1 in
            elim (bind_err (other end p.0.1) (λ w. Ok ((p.0.0, w.0), w.1)) fault p.2) [
              | inl h ↦
                  subst (λ (l : List ℕ). BothFail F S G end l fault) (sym s.parts) (fails_in_other s.front p.0.1 s.spelled (b.fails end p.0.1 fault s.rest_fits h))
              | inr o ↦ absurd (let impossible = o.2 in cc)
            ]
      ]

  both_refused : Laws S F one → Laws T G other → Refused (BothFail F S G) (both_at one other)
  both_refused a b end bytes fault (fails_in_one h) = rw (a.refused end bytes fault h) refl
  both_refused a b end _ fault (fails_in_other {a = v} front rest s h) = rw (a.again end v front rest s, b.refused end rest fault h) refl

pub both : {A B : Type 0} {S : A → List ℕ → Type 0} {F : ℕ → List ℕ → DataFault → Type 0} {one : ℕ → List ℕ → Read A}
    {T : B → List ℕ → Type 0} {G : ℕ → List ℕ → DataFault → Type 0} {other : ℕ → List ℕ → Read B}
    → Laws S F one → Laws T G other → Laws (Both S T) (BothFail F S G) (both_at one other)
both {S = S} {F = F} {one = one} {T = T} {G = G} {other = other} a b = record {
  takes = both_takes S F one T G other a b;
  again = both_again S F one T G other a b;
  fails = both_fails S F one T G other a b;
  refused = both_refused S F one T G other a b;
}

-- ---- layouts

pub name_layout : Laws NameLayout NameLayoutFails (both_at named_at object_at)
name_layout = both named objects

pub alias_layout : Laws AliasLayout AliasLayoutFails (both_at name_at named_at)
alias_layout = both names named

pub external_layout : Laws ExternalLayout ExternalLayoutFails (both_at name_at (both_at byte_at byte_at))
external_layout = both names (both one_byte one_byte)

pub mutex_layout : Laws MutexLayout MutexLayoutFails (both_at name_at byte_at)
mutex_layout = both names one_byte

pub region_layout : Laws RegionLayout RegionLayoutFails (both_at name_at (both_at byte_at (both_at constant_at constant_at)))
region_layout = both names (both one_byte (both constants constants))

pub processor_layout : Laws ProcessorLayout ProcessorLayoutFails (both_at named_at (both_at byte_at (both_at double_at byte_at)))
processor_layout = both named (both one_byte (both four_bytes one_byte))

-- ---- what stands in front of the terms that a term holds

made_ok : {A B : Type 0} (make : A → B) (r : Read A) (x : B × List ℕ) → made make r ≡ Ok x → (v : A × List ℕ) × (r ≡ Ok v) × (done (make v.0, v.1) ≡ done x)
made_ok make (Ok v) x e = (v, refl, e)
made_ok make (Err d) x e = absurd cc

made_err : {A B : Type 0} (make : A → B) (r : Read A) (d : DataFault) → made make r ≡ Err d → r ≡ Err d
made_err make (Ok v) d e = absurd cc
made_err make (Err c) d e = ap (λ z. Err z) (err_is {A = _} c d e)

module _ {A B : Type 0} (S : A → List ℕ → Type 0) (F : ℕ → List ℕ → DataFault → Type 0) (read : ℕ → List ℕ → Read A) (laws : Laws S F read) (make : A → B) where
  made_takes : (T : B → List ℕ → Type 0) → ((v : A) (b : List ℕ) → S v b → T (make v) b) → Taking T (λ end bytes. made make (read end bytes))
  made_takes T row end bytes x fits e =
      let m = made_ok make (read end bytes) x e in
      Takes-is T bytes (make m.0.0, m.0.1) x m.2 (Takes-as S T bytes m.0 (make m.0.0) (λ c s. row m.0.0 c s) (laws.takes end bytes m.0 fits m.1))

  made_fails : (G : ℕ → List ℕ → DataFault → Type 0) → ((end : ℕ) (bytes : List ℕ) (d : DataFault) → F end bytes d → G end bytes d) → Failing G (λ end bytes. made make (read end bytes))
  made_fails G row end bytes d fits e = row end bytes d (laws.fails end bytes d fits (made_err make (read end bytes) d e))

  made_again : (end : ℕ) (v : A) (c rest : List ℕ) → S v c → made make (read end (c ++ rest)) ≡ Ok (make v, rest)
  made_again end v c rest s = rw (laws.again end v c rest s) refl

  made_refused : (end : ℕ) (bytes : List ℕ) (d : DataFault) → F end bytes d → made make (read end bytes) ≡ Err d
  made_refused end bytes d h = rw (laws.refused end bytes d h) refl

head_takes : (opcode : ℕ) → is_holder opcode ≡ true → Taking (Head opcode) (head_at opcode)
unfolding head_at
head_takes opcode is =
    holder_cases (λ (n : ℕ). Taking (Head n) (head_at n))
    (made_takes _ _ _ names (λ path terms. Scope path terms) (Head SCOPE_OP) (λ v b s. scope_head s))
    (made_takes _ _ _ named (λ path terms. Device path terms) (Head DEVICE_OP) (λ v b s. device_head s))
    (made_takes _ _ _ processor_layout (λ v terms. Processor v.0 v.1.0 v.1.1.0 v.1.1.1 terms) (Head PROCESSOR_OP) (λ v b s. processor_head s))
    opcode is

head_again : (opcode : ℕ) → Again (Head opcode) (head_at opcode)
unfolding head_at
head_again opcode end make c rest (scope_head {path = path} s) = made_again _ _ _ names (λ path terms. Scope path terms) end path c rest s
head_again opcode end make c rest (device_head {path = path} s) = made_again _ _ _ named (λ path terms. Device path terms) end path c rest s
head_again opcode end make c rest (processor_head {path = path} {id = id} {block = block} {len = size} s) =
    made_again _ _ _ processor_layout (λ v terms. Processor v.0 v.1.0 v.1.1.0 v.1.1.1 terms) end (path, (id, (block, size))) c rest s

head_fails : (opcode : ℕ) → is_holder opcode ≡ true → Failing (HeadFails opcode) (head_at opcode)
unfolding head_at
head_fails opcode is =
    holder_cases (λ (n : ℕ). Failing (HeadFails n) (head_at n))
    (made_fails _ _ _ names (λ path terms. Scope path terms) (HeadFails SCOPE_OP) (λ end bytes d h. scope_head_fails h))
    (made_fails _ _ _ named (λ path terms. Device path terms) (HeadFails DEVICE_OP) (λ end bytes d h. device_head_fails h))
    (made_fails _ _ _ processor_layout (λ v terms. Processor v.0 v.1.0 v.1.1.0 v.1.1.1 terms) (HeadFails PROCESSOR_OP) (λ end bytes d h. processor_head_fails h))
    opcode is

head_refused : (opcode : ℕ) → Refused (HeadFails opcode) (head_at opcode)
unfolding head_at
head_refused opcode end bytes d (scope_head_fails h) = made_refused _ _ _ names (λ path terms. Scope path terms) end bytes d h
head_refused opcode end bytes d (device_head_fails h) = made_refused _ _ _ named (λ path terms. Device path terms) end bytes d h
head_refused opcode end bytes d (processor_head_fails h) = made_refused _ _ _ processor_layout (λ v terms. Processor v.0 v.1.0 v.1.1.0 v.1.1.1 terms) end bytes d h

pub heads : (opcode : ℕ) → is_holder opcode ≡ true → Laws (Head opcode) (HeadFails opcode) (head_at opcode)
heads opcode is = record { takes = head_takes opcode is; again = head_again opcode; fails = head_fails opcode is; refused = head_refused opcode }

-- such an opcode holds terms
pub head_holds : (opcode : ℕ) (make : List Term → Term) (b : List ℕ) → Head opcode make b → is_holder opcode ≡ true
head_holds opcode make b (scope_head s) = refl
head_holds opcode make b (device_head s) = refl
head_holds opcode make b (processor_head s) = refl
