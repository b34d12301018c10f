-- The first fault of a data object, both ways.
use Rattle.std.proofs.Common.{◌≡◌, ◌≢◌, ◌<◌, ◌-◌, ℕ, zero, suc, true, eqb, List, [], ◌∷◌, length, Option, Some, None, Ok, Err}
use Rattle.std.proofs.Common.{refl, sym, ◌∙◌, inl, inr}
use Rattle.std.proofs.lemmas.Bool.{eqb-false, ne_eqb}
use Rattle.aml_data.specs.declared.data.Data.{Data}
use Rattle.aml_data.specs.declared.data.Data.TheVariants.{Int, Text, Package, Path as at_path}
use Rattle.aml_data.specs.Objects.{Buffer, VarPackage}
use Rattle.aml_data.specs.declared.fault.DataFault.{DataFault}
use Rattle.aml_data.specs.declared.fault.DataFault.TheVariants.{Short, BadLead}
use Rattle.aml_data.specs.Segment.{begins_name}
use Rattle.aml_data.specs.Grammar.{Const}
use Rattle.aml_data.specs.Layouts.{Octet, FewerThan, SizedFails}
use Rattle.aml_data.specs.inner.Reading.{◌>>=◌, Read, byte_at, constant_at, name_at}
use Rattle.aml_data.specs.inner.ReadingObjects.{text_at, revision_at, counted_at, buffer_at, object_by, object_at}
use Rattle.aml_data.specs.Faults.{Follows, follows_byte, follows_word, follows_double, follows_quad, ConstFails, fails_few_bytes, fails_other_byte, TextFails, NameFails, BeginsNothing}
use Rattle.aml_data.specs.Faults.{FailsWithin, fails_no_object, fails_other_lead, fails_in_constant, fails_no_second, fails_other_second, fails_in_text, fails_in_path, fails_in_buffer}
use Rattle.aml_data.specs.Faults.{fails_too_deep, fails_in_count, fails_in_elements, fails_var_too_deep, fails_in_var_count, fails_in_var_elements, Fails}
use Rattle.aml_data.proofs.Steps.{bind_err, chosen, IsBytes, IsBytes-rest}
use Rattle.aml_data.proofs.Places.{Failing, Refused}
use Rattle.aml_data.proofs.Constants.{constant_fails, constant_refused}
use Rattle.aml_data.proofs.NameFaults.{name_fails, name_refused}
use Rattle.aml_data.proofs.Texts.{text_fails, text_refused}
use Rattle.aml_data.proofs.Leads.{OtherLead, LeadCase, leads_ones, leads_revision, leads_text, leads_buffer, leads_package, leads_var_package, leads_name, leads_constant, lead_case, other_by}
use Rattle.aml_data.proofs.Held.{counted_fails, counted_refused}
use Rattle.aml_data.proofs.Packages.{package_kind, var_package_kind, Inner, at_each_depth, TakingWithin, AgainWithin}
use Rattle.aml_data.proofs.PackageFaults.{FailingWithin, RefusedWithin, met, pack_fails, refused_depth, refused_count, refused_elements}
use Rattle.aml_data.proofs.Objects.{name_object, constant_object, by_takes, by_again}

takes_inside : (depth : ℕ) (inner : Option (ℕ → List ℕ → Read Data)) → Inner FailingWithin depth inner → Inner TakingWithin depth inner
takes_inside zero None h = tt
takes_inside zero (Some read) h = h
takes_inside (suc depth) None h = h
takes_inside (suc depth) (Some read) h = h.0

again_inside : (depth : ℕ) (inner : Option (ℕ → List ℕ → Read Data)) → Inner RefusedWithin depth inner → Inner AgainWithin depth inner
again_inside zero None h = tt
again_inside zero (Some read) h = h
again_inside (suc depth) None h = h
again_inside (suc depth) (Some read) h = h.0

-- ---- read as a fault, so the first fault

revision_fails : (depth end : ℕ) (rest : List ℕ) (fault : DataFault) → revision_at end rest ≡ Err fault → FailsWithin depth end (91 ∷ rest) fault
revision_fails depth end [] fault e = met (λ f. FailsWithin depth end (91 ∷ []) f) (Short end) fault e fails_no_second
revision_fails depth end (b ∷ rest) fault e =
    elim (chosen (eqb b 48) _ _ _ e) [
      | inl h ↦ absurd (let impossible = h.1 in cc)
      | inr h ↦ met (λ f. FailsWithin depth end (91 ∷ b ∷ rest) f) (BadLead (end - length (b ∷ rest)) b) fault h.1 (fails_other_second (eqb-false _ _ h.0))
    ]

object_text_fails : (depth end : ℕ) (rest : List ℕ) (fault : DataFault) → ◌>>=◌ {B = Data × List ℕ} (text_at end rest) (λ text. Ok (Text text.0, text.1)) ≡ Err fault
    → FailsWithin depth end (13 ∷ rest) fault
object_text_fails depth end rest fault e =
    elim (bind_err (text_at end rest) (λ text. Ok (Text text.0, text.1)) fault e) [
      | inl h ↦ fails_in_text (text_fails end rest fault h)
      | inr a ↦ absurd (let impossible = a.2 in cc)
    ]

path_fails : (depth end lead : ℕ) (rest : List ℕ) (fault : DataFault) → begins_name lead ≡ true → IsBytes (lead ∷ rest)
    → ◌>>=◌ {B = Data × List ℕ} (name_at end (lead ∷ rest)) (λ path. Ok (at_path path.0, path.1)) ≡ Err fault → FailsWithin depth end (lead ∷ rest) fault
path_fails depth end lead rest fault begins fits e =
    elim (bind_err (name_at end (lead ∷ rest)) (λ path. Ok (at_path path.0, path.1)) fault e) [
      | inl h ↦ fails_in_path begins (name_fails end (lead ∷ rest) fault fits h)
      | inr a ↦ absurd (let impossible = a.2 in cc)
    ]

as_object : (depth end lead : ℕ) (rest : List ℕ) (fault : DataFault) → OtherLead lead → ConstFails end (lead ∷ rest) fault → FailsWithin depth end (lead ∷ rest) fault
as_object depth end lead rest fault other (fails_few_bytes follows few) = fails_in_constant follows few
as_object depth end lead rest fault other (fails_other_byte none) = fails_other_lead (record {
  constant = none;
  ones = other.ones;
  revision = other.revision;
  string = other.string;
  buffer = other.buffer;
  pack = other.pack;
  var_pack = other.var_pack;
  name = other.name;
})

integer_fails : (depth end lead : ℕ) (rest : List ℕ) (fault : DataFault) → OtherLead lead → IsBytes (lead ∷ rest) → ◌>>=◌ {B = Data × List ℕ} (constant_at end (lead ∷ rest)) (λ n. Ok (Int n.0, n.1))
    ≡ Err fault
    → FailsWithin depth end (lead ∷ rest) fault
integer_fails depth end lead rest fault other fits e =
    elim (bind_err (constant_at end (lead ∷ rest)) (λ n. Ok (Int n.0, n.1)) fault e) [
      | inl h ↦ as_object depth end lead rest fault other (constant_fails end (lead ∷ rest) fault fits h)
      | inr a ↦ absurd (let impossible = a.2 in cc)
    ]

buffer_fails : (depth end : ℕ) (rest : List ℕ) (fault : DataFault) → IsBytes rest → buffer_at end rest ≡ Err fault → FailsWithin depth end (17 ∷ rest) fault
buffer_fails depth end rest fault fits e =
    elim (bind_err (counted_at constant_at end rest) (λ x. Ok (Buffer x.0.0 x.0.1, x.1)) fault e) [
      | inl h ↦ fails_in_buffer (counted_fails ConstFails constant_at constant_fails end rest fault fits h)
      | inr a ↦ absurd (let impossible = a.2 in cc)
    ]

lead_fails : (depth : ℕ) (inner : Option (ℕ → List ℕ → Read Data)) → Inner FailingWithin depth inner → (end lead : ℕ) (rest : List ℕ) (fault : DataFault) → LeadCase lead → IsBytes (lead ∷ rest)
    → object_by inner end (lead ∷ rest) ≡ Err fault → FailsWithin depth end (lead ∷ rest) fault
unfolding object_by
lead_fails depth inner h end lead rest fault leads_ones fits e = absurd (let impossible = e in cc)
lead_fails depth inner h end lead rest fault leads_revision fits e = revision_fails depth end rest fault e
lead_fails depth inner h end lead rest fault leads_text fits e = object_text_fails depth end rest fault e
lead_fails depth inner h end lead rest fault leads_buffer fits e = buffer_fails depth end rest fault (IsBytes-rest 17 rest fits) e
lead_fails depth inner h end lead rest fault leads_package fits e =
    pack_fails 18 Octet (FewerThan 1) byte_at Package package_kind depth inner h end rest fault (IsBytes-rest 18 rest fits) e
lead_fails depth inner h end lead rest fault leads_var_package fits e =
    pack_fails 19 Const ConstFails constant_at (λ n elements. VarPackage n elements) var_package_kind depth inner h end rest fault (IsBytes-rest 19 rest fits) e
lead_fails depth inner h end lead rest fault (leads_name begins) fits e = path_fails depth end lead rest fault begins fits (sym (name_object inner end lead rest begins) ∙ e)
lead_fails depth inner h end lead rest fault (leads_constant other) fits e = integer_fails depth end lead rest fault other fits (sym (constant_object inner end lead rest other) ∙ e)

no_object_fails : (depth : ℕ) (inner : Option (ℕ → List ℕ → Read Data)) (end : ℕ) (fault : DataFault) → object_by inner end [] ≡ Err fault → FailsWithin depth end [] fault
unfolding object_by
no_object_fails depth inner end fault e = met (λ f. FailsWithin depth end [] f) (Short end) fault e fails_no_object

by_fails : (depth : ℕ) (inner : Option (ℕ → List ℕ → Read Data)) → Inner FailingWithin depth inner → (end : ℕ) (bytes : List ℕ) (fault : DataFault) → IsBytes bytes
    → object_by inner end bytes ≡ Err fault
    → FailsWithin depth end bytes fault
by_fails depth inner h end [] fault fits e = no_object_fails depth inner end fault e
by_fails depth inner h end (lead ∷ rest) fault fits e = lead_fails depth inner h end lead rest fault (lead_case lead) fits e

pub object_fails : Failing Fails object_at
unfolding object_at
object_fails end bytes fault fits e =
    (at_each_depth FailingWithin (λ depth inner h. (by_takes depth inner (takes_inside depth inner h), by_fails depth inner h)) 32).1 end bytes fault fits e

-- ---- the first fault, so read as it

buffer_refused : (end : ℕ) (bytes : List ℕ) (fault : DataFault) → SizedFails ConstFails end bytes fault → buffer_at end bytes ≡ Err fault
buffer_refused end bytes fault h = rw (counted_refused ConstFails constant_at constant_refused end bytes fault h) refl

constant_object_refused : (inner : Option (ℕ → List ℕ → Read Data)) (end lead : ℕ) (rest : List ℕ) (fault : DataFault) → OtherLead lead → constant_at end (lead ∷ rest) ≡ Err fault
    → object_by inner end (lead ∷ rest) ≡ Err fault
constant_object_refused inner end lead rest fault other read = constant_object inner end lead rest other ∙ rw read refl

refused_constant : (inner : Option (ℕ → List ℕ → Read Data)) (end lead n : ℕ) (rest : List ℕ) → Follows lead n → length rest < n → object_by inner end (lead ∷ rest) ≡ Err (Short end)
refused_constant inner end lead n rest follows_byte few =
    constant_object_refused inner end 10 rest (Short end) (other_by 10 refl refl refl refl refl refl refl) (constant_refused end (10 ∷ rest) (Short end) (fails_few_bytes follows_byte few))
refused_constant inner end lead n rest follows_word few =
    constant_object_refused inner end 11 rest (Short end) (other_by 11 refl refl refl refl refl refl refl) (constant_refused end (11 ∷ rest) (Short end) (fails_few_bytes follows_word few))
refused_constant inner end lead n rest follows_double few =
    constant_object_refused inner end 12 rest (Short end) (other_by 12 refl refl refl refl refl refl refl) (constant_refused end (12 ∷ rest) (Short end) (fails_few_bytes follows_double few))
refused_constant inner end lead n rest follows_quad few =
    constant_object_refused inner end 14 rest (Short end) (other_by 14 refl refl refl refl refl refl refl) (constant_refused end (14 ∷ rest) (Short end) (fails_few_bytes follows_quad few))

refused_lead : (inner : Option (ℕ → List ℕ → Read Data)) (end lead : ℕ) (rest : List ℕ) → BeginsNothing lead → object_by inner end (lead ∷ rest) ≡ Err (BadLead (end - length (lead ∷ rest)) lead)
refused_lead inner end lead rest h =
    let other : OtherLead lead = record { ones = h.ones; revision = h.revision; string = h.string; buffer = h.buffer; pack = h.pack; var_pack = h.var_pack; name = h.name } in
    constant_object_refused inner end lead rest _ other (constant_refused end (lead ∷ rest) _ (fails_other_byte h.constant))

refused_path : (inner : Option (ℕ → List ℕ → Read Data)) (end lead : ℕ) (rest : List ℕ) (fault : DataFault) → begins_name lead ≡ true → NameFails end (lead ∷ rest) fault
    → object_by inner end (lead ∷ rest) ≡ Err fault
refused_path inner end lead rest fault begins h = name_object inner end lead rest begins ∙ rw (name_refused end (lead ∷ rest) fault h) refl

refused_text : (inner : Option (ℕ → List ℕ → Read Data)) (end : ℕ) (rest : List ℕ) (fault : DataFault) → TextFails end rest fault → object_by inner end (13 ∷ rest) ≡ Err fault
unfolding object_by
refused_text inner end rest fault h = rw (text_refused end rest fault h) refl

refused_second : (inner : Option (ℕ → List ℕ → Read Data)) (end b : ℕ) (rest : List ℕ) → b ≢ 48 → object_by inner end (91 ∷ b ∷ rest) ≡ Err (BadLead (end - length (b ∷ rest)) b)
unfolding object_by
refused_second inner end b rest other = rw (ne_eqb b 48 other) refl

by_refused : (depth : ℕ) (inner : Option (ℕ → List ℕ → Read Data)) → Inner RefusedWithin depth inner → (end : ℕ) (bytes : List ℕ) (fault : DataFault) → FailsWithin depth end bytes fault
    → object_by inner end bytes ≡ Err fault
unfolding object_by
by_refused depth inner law end bytes fault fails_no_object = refl
by_refused depth inner law end bytes fault (fails_other_lead {lead = lead} {rest = rest} h) = refused_lead inner end lead rest h
by_refused depth inner law end bytes fault (fails_in_constant {lead = lead} {n = n} {rest = rest} follows few) = refused_constant inner end lead n rest follows few
by_refused depth inner law end bytes fault fails_no_second = refl
by_refused depth inner law end bytes fault (fails_other_second {b = b} {rest = rest} other) = refused_second inner end b rest other
by_refused depth inner law end bytes fault (fails_in_text {rest = rest} h) = refused_text inner end rest fault h
by_refused depth inner law end bytes fault (fails_in_path {lead = lead} {rest = rest} begins h) = refused_path inner end lead rest fault begins h
by_refused depth inner law end bytes fault (fails_in_buffer {rest = rest} h) = buffer_refused end rest fault h
by_refused zero inner law end bytes fault (fails_too_deep {rest = rest}) = refused_depth 18 Octet (FewerThan 1) byte_at Package package_kind inner law (end - length (18 ∷ rest)) end rest
by_refused (suc depth) inner law end bytes fault (fails_in_count {rest = rest} h) =
    refused_count 18 Octet (FewerThan 1) byte_at Package package_kind depth inner law (end - length (18 ∷ rest)) end rest fault h
by_refused (suc depth) inner law end bytes fault (fails_in_elements {count = n} {c = c} {body = body} b rest held octet h) =
    refused_elements 18 Octet (FewerThan 1) byte_at Package package_kind depth inner law _ end n c body b rest fault held octet h
by_refused zero inner law end bytes fault (fails_var_too_deep {rest = rest}) =
    refused_depth 19 Const ConstFails constant_at (λ n elements. VarPackage n elements) var_package_kind inner law (end - length (19 ∷ rest)) end rest
by_refused (suc depth) inner law end bytes fault (fails_in_var_count {rest = rest} h) =
    refused_count 19 Const ConstFails constant_at (λ n elements. VarPackage n elements) var_package_kind depth inner law (end - length (19 ∷ rest)) end rest fault h
by_refused (suc depth) inner law end bytes fault (fails_in_var_elements {count = n} {c = c} {body = body} b rest held const h) =
    refused_elements 19 Const ConstFails constant_at (λ n elements. VarPackage n elements) var_package_kind depth inner law _ end n c body b rest fault held const h

pub object_refused : Refused Fails object_at
unfolding object_at
object_refused end bytes fault h =
    (at_each_depth RefusedWithin (λ depth inner law. (by_again depth inner (again_inside depth inner law), by_refused depth inner law)) 32).1 end bytes fault h
