-- What a lead byte begins.
use Rattle.std.proofs.Common.{◌≡◌, ◌≢◌, ◌<◌, ◌⊎◌, ℕ, zero, suc, Bool, true, false, eqb, IsTrue, List, [], ◌∷◌, ◌++◌, length, refl, ap, sym, subst, ◌∙◌, arith, inl, inr}
use Rattle.std.specs.List.{AllByRecursion}
use Rattle.std.proofs.lemmas.Bool.{eqb-true, eqb-false}
use Rattle.aml_data.specs.declared.path.Path.{Path}
use Rattle.aml_data.specs.Segment.{is_letter, IsSegment, joined, begins_name}
use Rattle.aml_data.specs.Grammar.{Prefix, spells_root, spells_ups, Segments, spells_no_segment, spells_one_segment, spells_two_segments, spells_many_segments, NameOf, spells_name, HasPart}
use Rattle.aml_data.proofs.Names.{first_letter}
use Rattle.pw_base.proofs.Facts.{choice}

-- ---- the lead byte of an object

-- a byte that begins nothing but perhaps an integer constant
pub record OtherLead (lead : ℕ) : Type 0 where
  pub ones : lead ≢ 255
  pub revision : lead ≢ 91
  pub string : lead ≢ 13
  pub buffer : lead ≢ 17
  pub pack : lead ≢ 18
  pub var_pack : lead ≢ 19
  pub name : begins_name lead ≡ false

pub data LeadCase : ℕ → Type 0 where
  leads_ones : LeadCase 255
  leads_revision : LeadCase 91
  leads_text : LeadCase 13
  leads_buffer : LeadCase 17
  leads_package : LeadCase 18
  leads_var_package : LeadCase 19
  leads_name : {lead : ℕ} → begins_name lead ≡ true → LeadCase lead
  leads_constant : {lead : ℕ} → OtherLead lead → LeadCase lead

pub other_by : (lead : ℕ) → eqb lead 255 ≡ false → eqb lead 91 ≡ false → eqb lead 13 ≡ false → eqb lead 17 ≡ false → eqb lead 18 ≡ false → eqb lead 19 ≡ false → begins_name lead ≡ false
    → OtherLead lead
other_by lead ones revision string buffer pack var_pack name = record {
  ones = eqb-false _ _ ones;
  revision = eqb-false _ _ revision;
  string = eqb-false _ _ string;
  buffer = eqb-false _ _ buffer;
  pack = eqb-false _ _ pack;
  var_pack = eqb-false _ _ var_pack;
  name = name;
}

pub same_or_not : (lead k : ℕ) → (k ≡ lead) ⊎ (lead ≢ k)
same_or_not lead k = elim (choice (eqb lead k)) [ inl h ↦ inl (sym (eqb-true lead k h)) | inr h ↦ inr (eqb-false lead k h) ]

pub lead_case : (lead : ℕ) → LeadCase lead
lead_case lead =
    elim (same_or_not lead 255) [
      | inl e ↦ subst LeadCase e leads_ones
      | inr ones ↦
          elim (same_or_not lead 91) [
            | inl e ↦ subst LeadCase e leads_revision
            | inr revision ↦
                elim (same_or_not lead 13) [
                  | inl e ↦ subst LeadCase e leads_text
                  | inr string ↦
                      elim (same_or_not lead 17) [
                        | inl e ↦ subst LeadCase e leads_buffer
                        | inr buffer ↦
                            elim (same_or_not lead 18) [
                              | inl e ↦ subst LeadCase e leads_package
                              | inr pack ↦
                                  elim (same_or_not lead 19) [
                                    | inl e ↦ subst LeadCase e leads_var_package
                                    | inr var_pack ↦
                                        elim (choice (begins_name lead)) [
                                          | inl name ↦ leads_name name
                                          | inr name ↦
                                              leads_constant (record { ones = ones; revision = revision; string = string; buffer = buffer; pack = pack; var_pack = var_pack; name = name })
                                        ]
                                  ]
                            ]
                      ]
                ]
          ]
    ]

-- a byte that begins a name is none of the others
pub begins_ne : (lead k : ℕ) → begins_name lead ≡ true → begins_name k ≡ false → lead ≢ k
begins_ne lead k h fails is = let impossible : false ≡ true = sym fails ∙ sym (ap begins_name is) ∙ h in cc

-- ---- the lead byte of a name

-- a prefix or a segment
abbrev pub IsSome : Bool → ℕ → List (List ℕ) → Type 0
IsSome root ups ss = (root ≡ true) ⊎ ((0 < ups) ⊎ (0 < length ss))

pub record NameLead (c : List ℕ) : Type 0 where
  pub lead : ℕ
  pub rest : List ℕ
  pub parts : c ≡ lead ∷ rest
  pub begins : begins_name lead ≡ true

letter_begins : (a : ℕ) → IsTrue (is_letter a) → begins_name a ≡ true
letter_begins a h = rw h refl

one_lead : (ss : List (List ℕ)) → length ss ≡ 1 → AllByRecursion IsSegment ss → NameLead (joined ss)
one_lead [] count all = absurd (omega arith)
one_lead ([] ∷ ss) count all = absurd all.0
one_lead ((a ∷ s) ∷ ss) count all = record { lead = a; rest = s ++ joined ss; parts = refl; begins = letter_begins a (first_letter a s all.0) }

segments_lead : (ss : List (List ℕ)) (s : List ℕ) → Segments ss s → 0 < length ss → NameLead s
segments_lead ss s spells_no_segment some = absurd (omega arith)
segments_lead ss s (spells_one_segment ts count all) some = one_lead ts count all
segments_lead ss s (spells_two_segments ts count all) some = record { lead = 46; rest = joined ts; parts = refl; begins = refl }
segments_lead ss s (spells_many_segments ts more few all) some = record { lead = 47; rest = length ts ∷ joined ts; parts = refl; begins = refl }

parts_lead : (root : Bool) (ups : ℕ) (p : List ℕ) (ss : List (List ℕ)) (s : List ℕ) → Prefix root ups p → Segments ss s → IsSome root ups ss → NameLead (p ++ s)
parts_lead root ups p ss s spells_root spelled some = record { lead = 92; rest = s; parts = refl; begins = refl }
parts_lead root ups p ss s (spells_ups zero) spelled some =
    elim some [
      | inl e ↦ absurd (let impossible = e in cc)
      | inr few ↦ elim few [ inl lt ↦ absurd (omega arith) | inr more ↦ segments_lead ss s spelled more ]
    ]
parts_lead root ups p ss s (spells_ups (suc n)) spelled some = record { lead = 94; rest = _; parts = refl; begins = refl }

pub name_lead : (path : Path) (c : List ℕ) → NameOf path c → HasPart path → NameLead c
name_lead path c (spells_name {p = p} {s = s} prefix segments) some = parts_lead path.root path.ups p path.segs s prefix segments some

-- what begins with such a byte has a prefix or a segment
parts_some : (root : Bool) (ups : ℕ) (p : List ℕ) (ss : List (List ℕ)) (s after : List ℕ) (lead : ℕ) (rest : List ℕ) → Prefix root ups p → Segments ss s
    → lead ∷ rest ≡ (p ++ s) ++ after → begins_name lead ≡ true → IsSome root ups ss
parts_some root ups p ss s after lead rest spells_root spelled e begins = inl refl
parts_some root ups p ss s after lead rest (spells_ups zero) spells_no_segment e begins = let is : lead ≡ 0 = cc in absurd (begins_ne lead 0 begins refl is)
parts_some root ups p ss s after lead rest (spells_ups zero) (spells_one_segment ts count all) e begins = inr (inr (omega arith))
parts_some root ups p ss s after lead rest (spells_ups zero) (spells_two_segments ts count all) e begins = inr (inr (omega arith))
parts_some root ups p ss s after lead rest (spells_ups zero) (spells_many_segments ts more few all) e begins = inr (inr more)
parts_some root ups p ss s after lead rest (spells_ups (suc n)) spelled e begins = inr (inl (omega arith))

pub name_some : (path : Path) (c after : List ℕ) (lead : ℕ) (rest : List ℕ) → NameOf path c → lead ∷ rest ≡ c ++ after → begins_name lead ≡ true → HasPart path
name_some path c after lead rest (spells_name {p = p} {s = s} prefix segments) e begins =
    parts_some path.root path.ups p path.segs s after lead rest prefix segments e begins
