-- Entries of `_CSD` that repeat none before them.
use Rattle.std.proofs.Common.{◌≡◌, ◌<◌, ◌≤◌, ◌==◌, not, ℕ, Bool, true, false, cond, List, length, take, refl, arith, eq-eqb, length-take}
use Rattle.std.specs.List.{list_any}
use Rattle.std.proofs.lemmas.List.{get_or-take}
use Rattle.acpi_values.specs.declared.dependency.CDependency.{CDependency}
use Rattle.pw_plan.specs.declared.domains.DomainName.{DomainName}
use Rattle.pw_plan.specs.Parts.{entry_in, is_entry, no_entry}
use Rattle.pw_plan.specs.inner.DomainList.{is_before}
use Rattle.pw_plan.proofs.EntryTables.{both_about, names_itself}
use Rattle.pw_plan.proofs.Lists.{and_both, any_false, first_place}
use Rattle.pw_plan.proofs.Listing.{name_through}

about_itself : (e : CDependency) → is_entry e.domain e.index e ≡ true
about_itself e = and_both (e.domain == e.domain) (e.index == e.index) (eq-eqb e.domain e.domain refl) (eq-eqb e.index e.index refl)

flipped : (e x : CDependency) (b : Bool) → is_entry x.domain x.index e ≡ b → is_entry e.domain e.index x ≡ false → b ≡ false
flipped e x true h n = let y = both_about x.domain x.index e x h (about_itself x) in cc
flipped e x false h n = refl

-- none of those before it is repeated
pub none_before : (es : List CDependency) (n : ℕ) → n ≤ length es → list_any (is_entry (entry_in es n).domain (entry_in es n).index) (take n es) ≡ false
    → (j : ℕ) → j < n → is_entry (entry_in es j).domain (entry_in es j).index (entry_in es n) ≡ false
none_before es n le none j lt =
    let size = length-take n es in
    let at = any_false (is_entry (entry_in es n).domain (entry_in es n).index) (take n es) j no_entry none (omega (arith, size, lt, le)) in
    flipped (entry_in es n) (entry_in es j) (is_entry (entry_in es j).domain (entry_in es j).index (entry_in es n)) refl (rw (get_or-take n es j no_entry lt) at at)

pub new_is : (es : List CDependency) (n : ℕ) (b : Bool) → n ≤ length es → list_any (is_entry (entry_in es n).domain (entry_in es n).index) (take n es) ≡ b
    → ((j : ℕ) → j < n → is_entry (entry_in es j).domain (entry_in es j).index (entry_in es n) ≡ false) → not b ≡ true
new_is es n true le any h =
    let r = first_place (is_entry (entry_in es n).domain (entry_in es n).index) (take n es) no_entry any in
    let size = length-take n es in
    let lt : r.0 < n = omega (arith, size, r.1, le) in
    let found = rw (get_or-take n es r.0 no_entry lt) at r.2 in
    let never = flipped (entry_in es r.0) (entry_in es n) (is_entry (entry_in es n).domain (entry_in es n).index (entry_in es r.0)) refl (h r.0 lt) in
    absurd (cc)
new_is es n false le any h = refl

-- the later of two comes after none that doesn't come after the one
pub later_tops : (g e x : DomainName) → is_before g x ≡ false → is_before (cond (is_before g e) e g) x ≡ false
later_tops g e x tops = step (is_before g e) refl
  where
    none : (b : Bool) → is_before e x ≡ b → is_before g e ≡ true → b ≡ false
    none true h f = let k = name_through g e x f h in cc
    none false h f = refl

    step : (b : Bool) → is_before g e ≡ b → is_before (cond b e g) x ≡ false
    step true f = none (is_before e x) refl f
    step false f = tops

-- nor after itself
pub itself_not_before : (g e : DomainName) → is_before (cond (is_before g e) e g) e ≡ false
itself_not_before g e = step (is_before g e) refl
  where
    none : (b : Bool) → is_before e e ≡ b → b ≡ false
    none true h = absurd (names_itself e h)
    none false h = refl

    step : (b : Bool) → is_before g e ≡ b → is_before (cond b e g) e ≡ false
    step true f = none (is_before e e) refl
    step false f = f
