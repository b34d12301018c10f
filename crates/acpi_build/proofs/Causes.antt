-- A plan's tables and notes: what they are, and why they are given.
use Rattle.std.proofs.Common.{◌≡◌, ◌⊎◌, ℕ, suc, ◌+◌, ◌<◌, Bool, true, false, List, [], ◌∷◌, ◌++◌, length, map, get_or, Option, Some, None, Result, Ok, refl, sym, ap, subst, ◌∙◌, inl, inr, arith}
use Rattle.std.specs.Prelude.{All, nat_lt}
use Rattle.std.specs.List.{AllZip}
use Rattle.std.proofs.lemmas.Bool.Decides.{nat_tests}
use Rattle.std.proofs.lemmas.List.{map-append}
use Rattle.std.proofs.lemmas.List.Elements.{All-cons, All-nil, All-head, All-tail, Contains-get_or}
use Rattle.acpi_space.specs.Distinct.{IsDistinct}
use Rattle.acpi_space.specs.Namespace.{Entry, places_of}
use Rattle.pw_plan.specs.declared.domain.Domain.{Domain}
use Rattle.pw_plan.specs.declared.fault.PlanFault.{PlanFault}
use Rattle.pw_plan.specs.declared.fault.PlanFault.TheVariants as limits
use Rattle.pw_plan.specs.declared.plan.Plan.{Plan}
use Rattle.pw_plan.specs.Groups.{domain_in, no_domain}
use Rattle.pw_plan.specs.Limits.{limit_passed}
use Rattle.acpi_build.specs.declared.note.Note.{Note}
use Rattle.acpi_build.specs.declared.fault.BuildFault.{BuildFault}
use Rattle.acpi_build.specs.declared.fault.ObjectFault.{ObjectFault}
use Rattle.acpi_build.specs.Building.{Made, built, noting}
use Rattle.acpi_build.specs.Finding.{containers_of, processors_of}
use Rattle.acpi_build.specs.Machine.{Parts, parts_of}
use Rattle.acpi_build.specs.Planning.{first_fault, judged, parts_within, unfit_notes, unless, within, IsPlanFrom}
use Rattle.acpi_build.specs.Causes.{Cause, by_method, by_alias, of_no_states, beside_lpi, of_no_such_state, of_unfit_domain, AreNotesOfCauses, IsCause, IsCaused, note_of}
use Rattle.acpi_build.specs.Sources.{IsContainerOf, IsCpuOf}
use Rattle.acpi_build.proofs.Ranks.{joins_numbered, none_numbered, Numbered, numbered_on, onward}
use Rattle.acpi_build.proofs.Sourced.{AreParts, OfTables, parts_yields}
use Rattle.acpi_build.proofs.Yielding.{Adds, Joins, Lists, Told, lists_both, lists_none, lists_one, lists_same}

-- # Tables

-- the causes that tables give
abbrev TableCause : List Entry → Plan → Cause → Type 0
TableCause entries plan c = OfTables c × IsCause entries plan c

-- where the parts are those of a plan, no object means nothing
judged_told : (entries : List Entry) (P : Plan) (r : Made Parts) (parts : Parts) (read : List Note) → judged r ≡ Ok (parts, read)
    → Told (note_of entries P) (TableCause entries P) (AreParts entries) (noting []) r → Adds (note_of entries P) (TableCause entries P) (AreParts entries) [] parts read
judged_told entries P (built made remarks) parts read is told =
    let none = no_fault remarks.faults (within (limit_passed made.containers made.cpus) (made, remarks.notes)) (parts, read) is in
    let same = same_pair (within_same (limit_passed made.containers made.cpus) (made, remarks.notes) (parts, read) none.1) in
    rw (← same.0, ← same.1) (told none.0)
  where
    no_fault : (fs : List ObjectFault) (r : Result (Parts × List Note) BuildFault) (x : Parts × List Note) → unless (first_fault fs) r ≡ Ok x → (fs ≡ []) × (r ≡ Ok x)
    no_fault [] r x e = (refl, e)
    no_fault (f ∷ fs) r x e = absurd (cc)

    within_same : (o : Option PlanFault) (x y : Parts × List Note) → within o x ≡ Ok y → x ≡ y
    within_same None x y e = cc
    within_same (Some (limits.Limit which number)) x y e = absurd (cc)
    within_same (Some limits.Memory) x y e = cc

    same_pair : {x y : Parts × List Note} → x ≡ y → (x.0 ≡ y.0) × (x.1 ≡ y.1)
    same_pair e = (ap (λ (p : Parts × List Note). p.0) e, ap (λ (p : Parts × List Note). p.1) e)

plan_told : (entries : List Entry) (P : Plan) (notes : List Note) → IsDistinct (places_of entries) → (is : IsPlanFrom entries P notes)
    → Adds (note_of entries P) (TableCause entries P) (AreParts entries) [] (record { containers = P.containers; cpus = P.cpus }) is.read
unfolding parts_within
plan_told entries P notes distinct is =
    judged_told entries P (parts_of entries (noting [])) (record { containers = P.containers; cpus = P.cpus }) is.read is.parts (parts_yields entries P distinct (noting []))

pub tables_of_containers : (entries : List Entry) (P : Plan) (notes : List Note) → IsDistinct (places_of entries) → IsPlanFrom entries P notes
    → AllZip (IsContainerOf entries) (containers_of entries) P.containers
tables_of_containers entries P notes distinct is = (plan_told entries P notes distinct is).holds.containers

pub tables_of_cpus : (entries : List Entry) (P : Plan) (notes : List Note) → IsDistinct (places_of entries) → IsPlanFrom entries P notes
    → AllZip (IsCpuOf entries) (processors_of entries) P.cpus
tables_of_cpus entries P notes distinct is = (plan_told entries P notes distinct is).holds.cpus

-- # Domains

abbrev is_unfit : Domain → Bool
is_unfit d = nat_lt 0 d.unfit

-- the causes that unfit domains give, the first of which has place d
abbrev UnfitFrom : ℕ → List Domain → Cause → Type 0
UnfitFrom = Numbered of_unfit_domain is_unfit no_domain

same_place : (a b : ℕ) → of_unfit_domain a ≡ of_unfit_domain b → a ≡ b
same_place a b e = cc

-- the notes of domains are those of these causes
record Unfit (entries : List Entry) (P : Plan) (d : ℕ) (ds : List Domain) : Type 0 where
  pub causes : List Cause
  pub lists : Lists (UnfitFrom d ds) causes
  pub noted : unfit_notes P.cpus d ds ≡ map (note_of entries P) causes

-- one domain more
unfit_more : (entries : List Entry) (P : Plan) (d : ℕ) (x : Domain) (xs : List Domain) → domain_in P.domains d ≡ x → Unfit entries P (d + 1) xs
    → (b : Bool) → is_unfit x ≡ b → Unfit entries P d (x ∷ xs)
unfit_more entries P d x xs here rest true e = record {
  causes = of_unfit_domain d ∷ rest.causes;
  lists = lists_both (λ c. c ≡ of_unfit_domain d) (UnfitFrom (d + 1) xs) (UnfitFrom d (x ∷ xs)) (of_unfit_domain d ∷ []) rest.causes
      (joins_numbered of_unfit_domain is_unfit no_domain d x xs same_place e)
      (lists_one (λ c. c ≡ of_unfit_domain d) (of_unfit_domain d) refl (λ c s. s)) rest.lists;
  noted = rw (e, rest.noted, here) refl;
}
unfit_more entries P d x xs here rest false e = record {
  causes = rest.causes;
  lists = lists_same (UnfitFrom (d + 1) xs) (UnfitFrom d (x ∷ xs)) rest.causes (onward of_unfit_domain is_unfit no_domain d x xs)
      (λ c s. numbered_on of_unfit_domain is_unfit no_domain d x xs c e s) rest.lists;
  noted = rw e rest.noted;
}

unfit_listed : (entries : List Entry) (P : Plan) (d : ℕ) (ds : List Domain) → ((j : ℕ) → j < length ds → domain_in P.domains (d + j) ≡ domain_in ds j)
    → Unfit entries P d ds
unfit_listed entries P d [] same = record {
  causes = [];
  lists = lists_none (UnfitFrom d []) (none_numbered of_unfit_domain is_unfit no_domain d);
  noted = refl;
}
unfit_listed entries P d (x ∷ xs) same =
    let first : d ≡ d + 0 = omega arith in
    unfit_more entries P d x xs (ap (domain_in P.domains) first ∙ same 0 (omega arith))
    (unfit_listed entries P (d + 1) xs (λ j l. let e : d + 1 + j ≡ d + suc j = omega arith in ap (domain_in P.domains) e ∙ same (suc j) (omega (arith, l))))
    (is_unfit x) refl

-- # All notes

unfit_is : (unfit : ℕ) → nat_lt 0 unfit ≡ true → 0 < unfit
unfit_is unfit e = grind (arith, nat_tests)

is_unfit_at : (unfit : ℕ) → 0 < unfit → nat_lt 0 unfit ≡ true
is_unfit_at unfit l = grind (arith, nat_tests)

split_cause : (entries : List Entry) (P : Plan) (c : Cause) → IsCause entries P c → TableCause entries P c ⊎ UnfitFrom 0 P.domains c
split_cause entries P (by_method k name) cause = inl (tt, cause)
split_cause entries P (by_alias k name) cause = inl (tt, cause)
split_cause entries P (of_no_states k name) cause = inl (tt, cause)
split_cause entries P (beside_lpi k) cause = inl (tt, cause)
split_cause entries P (of_no_such_state k j) cause = inl (tt, cause)
split_cause entries P (of_unfit_domain d) cause = inr (d, ap of_unfit_domain (omega arith), cause.0, is_unfit_at (domain_in P.domains d).unfit cause.1)

unfit_cause : (entries : List Entry) (P : Plan) (c : Cause) → UnfitFrom 0 P.domains c → (d : ℕ) × (c ≡ of_unfit_domain d) × IsCause entries P (of_unfit_domain d)
unfit_cause entries P c (d, is, l, unfit) = (d, is ∙ ap of_unfit_domain (omega arith), (l, unfit_is (domain_in P.domains d).unfit unfit))

joins_all : (entries : List Entry) (P : Plan) → Joins (TableCause entries P) (UnfitFrom 0 P.domains) (IsCause entries P)
joins_all entries P = record {
  apart = λ c s t. let (d, is, cause) = unfit_cause entries P c t in subst OfTables is s.0;
  split = split_cause entries P;
  left = λ c s. s.1;
  right = λ c t. let (d, is, cause) = unfit_cause entries P c t in subst (IsCause entries P) (sym is) cause;
}

pub notes_of_causes : (entries : List Entry) (P : Plan) (notes : List Note) → IsDistinct (places_of entries) → IsPlanFrom entries P notes → AreNotesOfCauses entries P notes
notes_of_causes entries P notes distinct is =
    let N = note_of entries P in
    let told = plan_told entries P notes distinct is in
    let unfit = unfit_listed entries P 0 P.domains (λ j l. let e : 0 + j ≡ j = omega arith in ap (domain_in P.domains) e) in
    let lists = lists_both (TableCause entries P) (UnfitFrom 0 P.domains) (IsCause entries P) told.causes unfit.causes (joins_all entries P)
    told.lists unfit.lists in
    record {
      causes = told.causes ++ unfit.causes;
      once = lists.once;
      all = λ c. (lists.only c, lists.all c);
      noted = is.notes_are ∙ ap (λ l. l ++ unfit_notes P.cpus 0 P.domains) told.grown ∙ ap (λ l. map N told.causes ++ l) unfit.noted
          ∙ sym (map-append N told.causes unfit.causes);
    }

caused_from : (entries : List Entry) (P : Plan) (causes : List Cause) → All (IsCause entries P) causes → All (IsCaused entries P) (map (note_of entries P) causes)
caused_from entries P [] all = All-nil (IsCaused entries P)
caused_from entries P (c ∷ cs) all =
    All-cons (IsCaused entries P) (note_of entries P c) (map (note_of entries P) cs) (c, All-head (IsCause entries P) c cs all, refl)
    (caused_from entries P cs (All-tail (IsCause entries P) c cs all))

pub notes_caused : (entries : List Entry) (P : Plan) (notes : List Note) → IsDistinct (places_of entries) → IsPlanFrom entries P notes → All (IsCaused entries P) notes
notes_caused entries P notes distinct is =
    let are = notes_of_causes entries P notes distinct is in
    subst (All (IsCaused entries P)) (sym are.noted) (caused_from entries P are.causes (λ k d l. (are.all (get_or are.causes k d)).0 (Contains-get_or are.causes k d l)))
