-- Objects by their numbers and places.
use Rattle.std.proofs.Common.{◌≡◌, ◌≢◌, ◌<◌, ◌≤◌, ℕ, zero, suc, Bool, true, false, List, [], ◌∷◌, ◌++◌, length, get_or, take, map}
use Rattle.std.proofs.Common.{refl, sym, ap, subst, ◌∙◌, arith, inl, inr, Option, Some, None}
use Rattle.std.specs.Prelude.{Contains, IfSome, nat_lt}
use Rattle.std.specs.List.{position_or_len}
use Rattle.std.specs.Bool.{Decides}
use Rattle.std.proofs.lemmas.Bool.{cases_lt}
use Rattle.std.proofs.lemmas.Bool.Decides.{nat_tests}
use Rattle.std.proofs.lemmas.Slice.Eq.{slice_eq-Decides}
use Rattle.std.specs.Option.{option_or}
use Rattle.std.proofs.lemmas.List.{get_or_default, length-map, length_push, take-append-le, take_at}
use Rattle.std.proofs.lemmas.List.Elements.{Contains-get_or}
use Rattle.std.proofs.lemmas.List.Sums.{position_or_len_is, passes_at_first}
use Rattle.acpi_space.specs.declared.object.Placed.{Placed}
use Rattle.acpi_space.specs.Distinct.{IsDistinct}
use Rattle.acpi_space.specs.Lookup.{is_place, label_around, label_at, label_of, nearest, no_entry, number_at, path_in}
use Rattle.acpi_space.specs.Namespace.{Entry, places_of}
use Rattle.acpi_space.specs.Places.{Place}
use Rattle.acpi_space.specs.inner.Standing.{IsIndex, entries_at, told_at}
use Rattle.acpi_space.specs.inner.Standing.{entry_in as entry_seen}
use Rattle.acpi_space.specs.inner.Trees.{IsAt}
use Rattle.acpi_space.proofs.Known.{distinct_places, free_place, no_object, path_is, seg_decides}

pub place_decides : (p q : Place) → Decides (is_place p q) (p ≡ q)
place_decides p q = slice_eq-Decides seg_decides p q (is_place p q) refl

pub not_place : (p q : Place) → p ≢ q → is_place p q ≡ false
not_place p q apart = by (is_place p q) (λ e. apart ((place_decides p q).0 e))
  where
    by : (b : Bool) → b ≢ true → b ≡ false
    by true apart = absurd (apart refl)
    by false _ = refl

-- the path of an object among the places
pub path_at : (entries : List Entry) (k : ℕ) (d : Place) → k < length entries → get_or (places_of entries) k d ≡ path_in entries k
path_at [] k d l = absurd (let impossible = l in omega arith)
path_at (e ∷ es) zero d l = refl
path_at (e ∷ es) (suc k) d l = path_at es k d (omega arith)

pub count_places : (entries : List Entry) → length (places_of entries) ≡ length entries
count_places entries = length-map entries (λ (e : Entry). e.path)

-- who stands at a place has the number that is found
pub numbered : (entries : List Entry) (k : ℕ) (place : Place) → IsDistinct (places_of entries) → k < length entries → path_in entries k ≡ place → number_at entries place ≡ Some k
unfolding number_at
numbered entries k place distinct l e =
    let test : Entry → Bool = λ x. is_place x.path place in
    let many = count_places entries in
    let first : position_or_len test entries ≡ k = position_or_len_is test entries k no_entry (omega arith)
    (λ j less. not_place (path_in entries j) place (λ same.
    distinct j k [] less (omega (arith, many))
    (path_at entries j [] (omega arith) ∙ same ∙ sym e ∙ sym (path_at entries k [] l))))
    (λ _. (place_decides (path_in entries k) place).1 e) in
    let within : nat_lt k (length entries) ≡ true = grind (arith, nat_tests) in
    rw (first, within) refl

-- where nothing stands, no number is found
pub unnumbered : (entries : List Entry) (place : Place) → (Contains (places_of entries) place → ⊥) → number_at entries place ≡ None
unfolding number_at
unnumbered entries place none =
    let test : Entry → Bool = λ x. is_place x.path place in
    elim (cases_lt (position_or_len test entries) (length entries)) [
      | inl within ↦
          let k = position_or_len test entries in
          let is : path_in entries k ≡ place = (place_decides (path_in entries k) place).0 (passes_at_first test entries no_entry within) in
          absurd (none (subst (Contains (places_of entries)) (path_at entries k [] within ∙ is)
          (Contains-get_or (places_of entries) k [] (let many = count_places entries in omega (arith, many, within)))))
      | inr past ↦ let not : nat_lt (position_or_len test entries) (length entries) ≡ false = grind (arith, nat_tests) in rw not refl
    ]

-- what is told of the object at a segment below object i
pub record IsBelow (entries : List Entry) (place : Place) (r : Option ℕ) : Type 0 where
  pub value : r ≡ number_at entries place
  pub within : IfSome r (λ k. k < length entries)
  pub path : IfSome r (λ k. path_in entries k ≡ place)

pub at_name : (places : List Place) (placed : List Placed) (index : List (Option ℕ)) (entries : List Entry) (name : ℕ) (place : Place) → IsIndex places placed index → IsDistinct places
    → entries_at places placed ≡ entries → IsAt places name place → (r : Option ℕ) → r ≡ told_at index name → IsBelow entries place r
at_name places placed index entries name place indexed distinct v here None e = record {
  value = sym (unnumbered entries place (λ among. free_place places placed index name indexed distinct here.0 (sym e)
      (subst (λ es. Contains (places_of es) (get_or places name [])) (sym v) (subst (Contains (places_of entries)) (sym here.1) among))));
  within = tt;
  path = tt;
}
at_name places placed index entries name place indexed distinct v here (Some k) e =
    let found = indexed.only name k (sym e) in
    let p = get_or placed k no_object in
    let count : length entries ≡ length placed = ap length (sym v) ∙ length-map placed (entry_seen places) in
    let inside : k < length entries = omega (arith, found.0, count) in
    let is : path_in entries k ≡ place =
    sym (path_is places placed entries k no_entry p v found.0 (get_or_default placed k no_object p found.0)) ∙ ap (λ n. get_or places n []) (found.1 no_object) ∙ here.1 in
    record {
      value = sym (numbered entries k place (distinct_places places placed index entries indexed distinct v) inside is);
      within = inside;
      path = is;
    }

-- # Labels

nearest_front : (label : Place → Option ℕ) (q : Place) (s : List ℕ) (n : ℕ) → n ≤ length q → nearest label (q ++ s ∷ []) n ≡ nearest label q n
unfolding nearest
nearest_front label q s zero l = refl
nearest_front label q s (suc n) l =
    rw (nearest_front label q s n (omega (arith, l)), take-append-le n q (s ∷ []) (omega (arith, l))) refl

-- one segment more: the label of the place above, or else the one that is nearest to that
pub nearest_more : (label : Place → Option ℕ) (q : Place) (s : List ℕ) → nearest label (q ++ s ∷ []) (length (q ++ s ∷ [])) ≡ option_or (label q) (nearest label q (length q))
unfolding nearest
nearest_more label q s =
    let size : length (q ++ s ∷ []) ≡ suc (length q) = length_push q s ∙ (omega arith) in
    let front : take (length q) (q ++ s ∷ []) ≡ q = take_at q (s ∷ []) (length q) refl in
    rw (size, front, nearest_front label q s (length q) (omega arith)) refl

pub nearest_root : (label : Place → Option ℕ) → nearest label [] 0 ≡ None
unfolding nearest
nearest_root label = refl

-- the label of an object is the one at its place
pub label_told : (labels : List (Option ℕ)) (entries : List Entry) (place : Place) (r : Option ℕ) → IsBelow entries place r → label_at entries labels place ≡ label_of labels r
label_told labels entries place r below = ap (label_of labels) (sym below.value)

-- what stands at the places of the objects
pub at_objects : (places : List Place) (placed : List Placed) (around : List (Option ℕ)) (f : Place → Option ℕ) → ((i : ℕ) (d : Placed) → i < length placed → (get_or placed i d).name < length places)
    → ((q : ℕ) → q < length places → get_or around q None ≡ f (get_or places q []))
    → map (λ (p : Placed). get_or around p.name None) placed ≡ map (λ (e : Entry). f e.path) (entries_at places placed)
at_objects places [] around f within each = refl
at_objects places (p ∷ ps) around f within each =
    rw (each p.name (within 0 p (omega arith)), at_objects places ps around f (λ i d l. within (suc i) d (omega (arith, l))) each) refl

pub objects_answer : (places : List Place) (placed ps qs : List Placed) (index : List (Option ℕ)) (entries : List Entry) (labels around seen r : List (Option ℕ)) → IsIndex places placed index
    → entries_at places placed ≡ entries → ps ≡ placed → qs ≡ placed → seen ≡ around
    → ((q : ℕ) → q < length places → get_or around q None ≡ label_around (entries_at places ps) labels (get_or places q []))
    → r ≡ map (λ (p : Placed). get_or seen p.name None) qs → r ≡ map (λ (e : Entry). label_around entries labels e.path) entries
objects_answer places placed ps qs index entries labels around seen r indexed v first second same each is =
    let f : Place → Option ℕ = λ q. label_around entries labels q in
    let told : (q : ℕ) → q < length places → get_or around q None ≡ f (get_or places q []) =
    λ q l. each q l ∙ ap (λ xs. label_around xs labels (get_or places q [])) (ap (entries_at places) first ∙ v) in
    is ∙ ap (λ xs. map (λ (p : Placed). get_or seen p.name None) xs) second ∙ ap (λ xs. map (λ (p : Placed). get_or xs p.name None) placed) same
    ∙ at_objects places placed around f indexed.within told ∙ ap (λ xs. map (λ (e : Entry). f e.path) xs) v

-- a segment below a place whose label is known, and one below a place that has none
pub around_labelled : (entries : List Entry) (labels : List (Option ℕ)) (q place : Place) (s : List ℕ) (label : ℕ) → place ≡ q ++ s ∷ [] → Some label ≡ label_at entries labels q
    → Some label ≡ label_around entries labels place
around_labelled entries labels q place s label is told =
    rw (is, nearest_more (label_at entries labels) q s, ← told) refl

pub around_bare : (entries : List Entry) (labels : List (Option ℕ)) (q place : Place) (s : List ℕ) → place ≡ q ++ s ∷ [] → None ≡ label_at entries labels q
    → label_around entries labels q ≡ label_around entries labels place
around_bare entries labels q place s is told =
    rw (is, nearest_more (label_at entries labels) q s, ← told) refl

pub around_root : (entries : List Entry) (labels : List (Option ℕ)) (place : Place) → place ≡ [] → None ≡ label_around entries labels place
around_root entries labels place is = rw is (sym (nearest_root (label_at entries labels)))
