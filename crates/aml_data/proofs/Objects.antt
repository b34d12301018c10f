-- Data objects: what is read is spelled so, and what is spelled so is read.
use Rattle.std.proofs.Common.{◌≡◌, ◌-◌, ℕ, suc, true, eqb, List, [], ◌∷◌, ◌++◌, length, Option, Ok}
use Rattle.std.proofs.Common.{refl, ap, sym, subst, ◌∙◌, append_assoc, inl, inr}
use Rattle.std.specs.List.{AllByRecursion}
use Rattle.std.specs.Int.{w16, w32, w64, to_le_bytes}
use Rattle.std.proofs.lemmas.Bool.{eqb-true, ne_eqb}
use Rattle.aml_data.specs.declared.data.Data.{Data}
use Rattle.aml_data.specs.declared.data.Data.TheVariants.{Int, Ones, Revision, Text, Package, Path as at_path}
use Rattle.aml_data.specs.Objects.{Buffer, VarPackage}
use Rattle.aml_data.specs.declared.path.Path.{Path}
use Rattle.aml_data.specs.Segment.{begins_name}
use Rattle.aml_data.specs.Layouts.{Octet, Rest, FewerThan, Both, Holds, Sized}
use Rattle.aml_data.specs.Faults.{ConstFails}
use Rattle.aml_data.specs.Grammar.{Const, spells_zero, spells_one, spells_byte, spells_word, spells_double, spells_quad, IsAscii, NameOf, HasPart, SpellsWithin, Spells}
use Rattle.aml_data.specs.Grammar.{spells_integer, spells_ones, spells_revision, spells_text, spells_buffer, spells_path, spells_package, spells_var_package}
use Rattle.aml_data.specs.inner.Reading.{◌>>=◌, Read, byte_at, constant_at, name_at}
use Rattle.aml_data.specs.inner.ReadingObjects.{text_at, revision_at, counted_at, buffer_at, object_by, object_at}
use Rattle.aml_data.proofs.Steps.{done, bind_ok, chosen, IsBytes, IsBytes-rest, IsBytes-after, Takes, Takes-is}
use Rattle.aml_data.proofs.Places.{Taking, Again}
use Rattle.aml_data.proofs.Constants.{constant_takes, constant_again}
use Rattle.aml_data.proofs.Names.{name_takes, name_again}
use Rattle.aml_data.proofs.Held.{counted_takes, counted_again}
use Rattle.aml_data.proofs.Packages.{package_kind, var_package_kind, pack_takes, pack_again, Inner, at_each_depth, AgainWithin, TakingWithin}
use Rattle.aml_data.proofs.Texts.{text_takes, text_again}
use Rattle.aml_data.proofs.Leads.{OtherLead, LeadCase, leads_ones, leads_revision, leads_text, leads_buffer, leads_package, leads_var_package, leads_name, leads_constant, lead_case, other_by, begins_ne, name_lead, name_some}

-- ---- objects whose lead byte is followed by one part

ones_takes : (depth : ℕ) (rest : List ℕ) (x : Data × List ℕ) → IsBytes (255 ∷ rest) → done (Ones, rest) ≡ done x → Takes (SpellsWithin depth) (255 ∷ rest) x
ones_takes depth rest x fits e =
    Takes-is (SpellsWithin depth) (255 ∷ rest) (Ones, rest) x e
    (record { front = 255 ∷ []; parts = refl; spelled = spells_ones; rest_fits = IsBytes-rest 255 rest fits })

revision_takes : (depth end : ℕ) (rest : List ℕ) (x : Data × List ℕ) → IsBytes (91 ∷ rest) → revision_at end rest ≡ Ok x → Takes (SpellsWithin depth) (91 ∷ rest) x
revision_takes depth end [] x fits e = absurd cc
revision_takes depth end (b ∷ rest) x fits e =
    elim (chosen (eqb b 48) _ _ _ e) [
      | inl h ↦
          Takes-is (SpellsWithin depth) (91 ∷ b ∷ rest) (Revision, rest) x h.1 (record {
            front = 91 ∷ 48 ∷ [];
            parts = ap (λ (k : ℕ). 91 ∷ k ∷ rest) (eqb-true _ _ h.0);
            spelled = spells_revision;
            rest_fits = IsBytes-rest b rest (IsBytes-rest 91 (b ∷ rest) fits);
          })
      | inr h ↦ absurd (let impossible = h.1 in cc)
    ]

object_text_takes : (depth end : ℕ) (rest : List ℕ) (x : Data × List ℕ) → IsBytes (13 ∷ rest) → (text_at end rest >>= λ text. Ok (Text text.0, text.1)) ≡ Ok x
    → Takes (SpellsWithin depth) (13 ∷ rest) x
object_text_takes depth end rest x fits e =
    let a = bind_ok (text_at end rest) (λ text. Ok (Text text.0, text.1)) x e in
    let text = a.0.0 in
    let after = a.0.1 in
    let t = text_takes end rest a.0 a.1 in
    let whole : rest ≡ (text ++ 0 ∷ []) ++ after = t.parts ∙ sym (append_assoc text (0 ∷ []) after) in
    Takes-is (SpellsWithin depth) (13 ∷ rest) (Text text, after) x a.2 (record {
      front = 13 ∷ text ++ 0 ∷ [];
      parts = ap (λ (r : List ℕ). 13 ∷ r) whole;
      spelled = spells_text text t.ascii;
      rest_fits = IsBytes-after (text ++ 0 ∷ []) after (subst IsBytes whole (IsBytes-rest 13 rest fits));
    })

path_takes : (depth end lead : ℕ) (rest : List ℕ) (x : Data × List ℕ) → begins_name lead ≡ true → IsBytes (lead ∷ rest)
    → (name_at end (lead ∷ rest) >>= λ path. Ok (at_path path.0, path.1)) ≡ Ok x → Takes (SpellsWithin depth) (lead ∷ rest) x
path_takes depth end lead rest x begins fits e =
    let a = bind_ok (name_at end (lead ∷ rest)) (λ path. Ok (at_path path.0, path.1)) x e in
    let t = name_takes end (lead ∷ rest) a.0 fits a.1 in
    Takes-is (SpellsWithin depth) (lead ∷ rest) (at_path a.0.0, a.0.1) x a.2 (record {
      front = t.front;
      parts = t.parts;
      spelled = spells_path t.spelled (name_some a.0.0 t.front a.0.1 lead rest t.spelled t.parts begins);
      rest_fits = t.rest_fits;
    })

integer_takes : (depth end : ℕ) (bytes : List ℕ) (x : Data × List ℕ) → IsBytes bytes → (constant_at end bytes >>= λ n. Ok (Int n.0, n.1)) ≡ Ok x → Takes (SpellsWithin depth) bytes x
integer_takes depth end bytes x fits e =
    let a = bind_ok (constant_at end bytes) (λ n. Ok (Int n.0, n.1)) x e in
    let t = constant_takes end bytes a.0 fits a.1 in
    Takes-is (SpellsWithin depth) bytes (Int a.0.0, a.0.1) x a.2
    (record { front = t.front; parts = t.parts; spelled = spells_integer t.spelled; rest_fits = t.rest_fits })

-- ---- objects behind a PkgLength

buffer_takes : (depth end : ℕ) (rest : List ℕ) (x : Data × List ℕ) → IsBytes (17 ∷ rest) → buffer_at end rest ≡ Ok x → Takes (SpellsWithin depth) (17 ∷ rest) x
buffer_takes depth end rest x fits e =
    let a = bind_ok (counted_at constant_at end rest) (λ y. Ok (Buffer y.0.0 y.0.1, y.1)) x e in
    let t = counted_takes Const constant_at constant_takes end rest a.0 (IsBytes-rest 17 rest fits) a.1 in
    let held : Sized (Both Const Rest) (a.0.0.0, a.0.0.1) t.front =
    record { content = t.head ++ a.0.0.1; held = t.held; spelled = record { front = t.head; back = a.0.0.1; parts = refl; one = t.spelled; other = refl } } in
    Takes-is (SpellsWithin depth) (17 ∷ rest) (Buffer a.0.0.0 a.0.0.1, a.0.1) x a.2
    (record { front = 17 ∷ t.front; parts = ap (λ (r : List ℕ). 17 ∷ r) t.parts; spelled = spells_buffer held; rest_fits = t.rest_fits })

-- ---- objects of any lead byte

pub name_object : (inner : Option (ℕ → List ℕ → Read Data)) (end lead : ℕ) (rest : List ℕ) → begins_name lead ≡ true
    → object_by inner end (lead ∷ rest) ≡ (name_at end (lead ∷ rest) >>= λ path. Ok (at_path path.0, path.1))
unfolding object_by
name_object inner end lead rest h =
    rw (
      ne_eqb lead 255 (begins_ne lead 255 h refl),
      ne_eqb lead 91 (begins_ne lead 91 h refl),
      ne_eqb lead 13 (begins_ne lead 13 h refl),
      ne_eqb lead 17 (begins_ne lead 17 h refl),
      ne_eqb lead 18 (begins_ne lead 18 h refl),
      ne_eqb lead 19 (begins_ne lead 19 h refl),
      h,
    ) refl

pub constant_object : (inner : Option (ℕ → List ℕ → Read Data)) (end lead : ℕ) (rest : List ℕ) → OtherLead lead
    → object_by inner end (lead ∷ rest) ≡ (constant_at end (lead ∷ rest) >>= λ n. Ok (Int n.0, n.1))
unfolding object_by
constant_object inner end lead rest h =
    rw (ne_eqb lead 255 h.ones, ne_eqb lead 91 h.revision, ne_eqb lead 13 h.string, ne_eqb lead 17 h.buffer, ne_eqb lead 18 h.pack, ne_eqb lead 19 h.var_pack, h.name) refl

lead_takes : (depth : ℕ) (inner : Option (ℕ → List ℕ → Read Data)) → Inner TakingWithin depth inner → (end lead : ℕ) (rest : List ℕ) (x : Data × List ℕ) → LeadCase lead → IsBytes (lead ∷ rest)
    → object_by inner end (lead ∷ rest) ≡ Ok x → Takes (SpellsWithin depth) (lead ∷ rest) x
unfolding object_by
lead_takes depth inner h end lead rest x leads_ones fits e = ones_takes depth rest x fits e
lead_takes depth inner h end lead rest x leads_revision fits e = revision_takes depth end rest x fits e
lead_takes depth inner h end lead rest x leads_text fits e = object_text_takes depth end rest x fits e
lead_takes depth inner h end lead rest x leads_buffer fits e = buffer_takes depth end rest x fits e
lead_takes depth inner h end lead rest x leads_package fits e =
    pack_takes 18 Octet (FewerThan 1) byte_at Package package_kind depth inner h (end - length (18 ∷ rest)) end rest x (IsBytes-rest 18 rest fits) e
lead_takes depth inner h end lead rest x leads_var_package fits e =
    pack_takes 19 Const ConstFails constant_at (λ n elements. VarPackage n elements) var_package_kind depth inner h (end - length (19 ∷ rest)) end rest x (IsBytes-rest 19 rest fits) e
lead_takes depth inner h end lead rest x (leads_name begins) fits e = path_takes depth end lead rest x begins fits (sym (name_object inner end lead rest begins) ∙ e)
lead_takes depth inner h end lead rest x (leads_constant other) fits e = integer_takes depth end (lead ∷ rest) x fits (sym (constant_object inner end lead rest other) ∙ e)

no_object_taken : (inner : Option (ℕ → List ℕ → Read Data)) (end : ℕ) (x : Data × List ℕ) → object_by inner end [] ≡ Ok x → ⊥
unfolding object_by
no_object_taken inner end x e = cc

pub by_takes : (depth : ℕ) (inner : Option (ℕ → List ℕ → Read Data)) → Inner TakingWithin depth inner → TakingWithin depth (object_by inner)
by_takes depth inner h end [] x fits e = absurd (no_object_taken inner end x e)
by_takes depth inner h end (lead ∷ rest) x fits e = lead_takes depth inner h end lead rest x (lead_case lead) fits e

pub object_takes : Taking Spells object_at
unfolding object_at
object_takes end bytes x fits e = at_each_depth TakingWithin by_takes 32 end bytes x fits e

-- ---- spelled, so read

buffer_again : (end size : ℕ) (content b rest : List ℕ) → Sized (Both Const Rest) (size, content) b → buffer_at end (b ++ rest) ≡ Ok (Buffer size content, rest)
buffer_again end size content b rest h =
    let parts = h.spelled in
    let split : h.content ≡ parts.front ++ content = parts.parts ∙ ap (λ (t : List ℕ). parts.front ++ t) parts.other in
    let held = subst (λ (c : List ℕ). Holds c b) split h.held in
    rw (counted_again Const constant_at constant_again end size parts.front content b rest held parts.one) refl

object_text_again : (inner : Option (ℕ → List ℕ → Read Data)) (end : ℕ) (t rest : List ℕ) → AllByRecursion IsAscii t → object_by inner end ((13 ∷ t ++ 0 ∷ []) ++ rest) ≡ Ok (Text t, rest)
unfolding object_by
object_text_again inner end t rest all =
    let read : text_at end ((t ++ 0 ∷ []) ++ rest) ≡ Ok (t, rest) = ap (text_at end) (append_assoc t (0 ∷ []) rest) ∙ text_again end t rest all in
    rw read refl

path_by : (inner : Option (ℕ → List ℕ → Read Data)) (end lead : ℕ) (bytes rest : List ℕ) (path : Path) → begins_name lead ≡ true → name_at end (lead ∷ bytes) ≡ Ok (path, rest)
    → object_by inner end (lead ∷ bytes) ≡ Ok (at_path path, rest)
path_by inner end lead bytes rest path begins read = name_object inner end lead bytes begins ∙ rw read refl

path_again : (inner : Option (ℕ → List ℕ → Read Data)) (end : ℕ) (path : Path) (c rest : List ℕ) → NameOf path c → HasPart path → object_by inner end (c ++ rest) ≡ Ok (at_path path, rest)
path_again inner end path c rest name some =
    let t = name_lead path c name some in
    let bytes : c ++ rest ≡ t.lead ∷ (t.rest ++ rest) = ap (λ (r : List ℕ). r ++ rest) t.parts in
    let read : name_at end (t.lead ∷ (t.rest ++ rest)) ≡ Ok (path, rest) = ap (name_at end) (sym bytes) ∙ name_again end path c rest name in
    ap (object_by inner end) bytes ∙ path_by inner end t.lead (t.rest ++ rest) rest path t.begins read

integer_by : (inner : Option (ℕ → List ℕ → Read Data)) (end n lead : ℕ) (bytes rest : List ℕ) → OtherLead lead → constant_at end (lead ∷ bytes) ≡ Ok (n, rest)
    → object_by inner end (lead ∷ bytes) ≡ Ok (Int n, rest)
integer_by inner end n lead bytes rest other read = constant_object inner end lead bytes other ∙ rw read refl

integer_again : (inner : Option (ℕ → List ℕ → Read Data)) (end n : ℕ) (c rest : List ℕ) → Const n c → object_by inner end (c ++ rest) ≡ Ok (Int n, rest)
integer_again inner end n c rest spells_zero = integer_by inner end n 0 rest rest (other_by 0 refl refl refl refl refl refl refl) (constant_again end n c rest spells_zero)
integer_again inner end n c rest spells_one = integer_by inner end n 1 rest rest (other_by 1 refl refl refl refl refl refl refl) (constant_again end n c rest spells_one)
integer_again inner end n c rest (spells_byte k lt) = integer_by inner end n 10 (k ∷ rest) rest (other_by 10 refl refl refl refl refl refl refl) (constant_again end n c rest (spells_byte k lt))
integer_again inner end n c rest (spells_word k lt) =
    integer_by inner end n 11 (to_le_bytes w16 k ++ rest) rest (other_by 11 refl refl refl refl refl refl refl) (constant_again end n c rest (spells_word k lt))
integer_again inner end n c rest (spells_double k lt) =
    integer_by inner end n 12 (to_le_bytes w32 k ++ rest) rest (other_by 12 refl refl refl refl refl refl refl) (constant_again end n c rest (spells_double k lt))
integer_again inner end n c rest (spells_quad k lt) =
    integer_by inner end n 14 (to_le_bytes w64 k ++ rest) rest (other_by 14 refl refl refl refl refl refl refl) (constant_again end n c rest (spells_quad k lt))

pub by_again : (depth : ℕ) (inner : Option (ℕ → List ℕ → Read Data)) → Inner AgainWithin depth inner → AgainWithin depth (object_by inner)
unfolding object_by
by_again depth inner h end v c rest (spells_integer {n = n} const) = integer_again inner end n c rest const
by_again depth inner h end v c rest spells_ones = refl
by_again depth inner h end v c rest spells_revision = refl
by_again depth inner h end v c rest (spells_text t all) = object_text_again inner end t rest all
by_again depth inner h end v c rest (spells_buffer {size = size} {bytes = content} {b = b} sized) = buffer_again end size content b rest sized
by_again depth inner h end v c rest (spells_path {name = path} name some) = path_again inner end path c rest name some
by_again (suc depth) inner h end v c rest (spells_package {count = n} {elements = elements} {c = d} {body = body} {b = b} held octet all few) =
    pack_again 18 Octet (FewerThan 1) byte_at Package package_kind depth inner h _ end n elements d body b rest held octet all few
by_again (suc depth) inner h end v c rest (spells_var_package {count = n} {elements = elements} {c = d} {body = body} {b = b} held const all few) =
    pack_again 19 Const ConstFails constant_at (λ n elements. VarPackage n elements) var_package_kind depth inner h _ end n elements d body b rest held const all few

pub object_again : Again Spells object_at
unfolding object_at
object_again end v c rest h = at_each_depth AgainWithin by_again 32 end v c rest h
