-- What stands after one more step.
use Rattle.std.proofs.Common.{◌≡◌, ◌≢◌, ◌+◌, ◌-◌, ◌<◌, ◌≤◌, ℕ, zero, suc, Bool, true, false, ◌||◌, List, [], ◌∷◌, ◌++◌, length, get_or, take, drop, map, MatchOption}
use Rattle.std.proofs.Common.{refl, sym, ap, subst, ◌∙◌, arith, inl, inr, ◌⊎◌, Option, Some, None, append_assoc, length-append}
use Rattle.std.specs.Prelude.{Contains, nat_eq, is_some}
use Rattle.std.specs.Bool.{Decides}
use Rattle.std.specs.List.{starts_with}
use Rattle.std.specs.Cmp.Lexicographic.{pointwise}
use Rattle.std.proofs.lemmas.Bool.{false≢true, cases_lt}
use Rattle.std.proofs.lemmas.Bool.Decides.{Decides-eqb}
use Rattle.std.proofs.lemmas.Slice.Eq.{slice_eq-Decides, starts_is}
use Rattle.std.proofs.lemmas.List.{append-nil, length_push, get_or_append_left, get_or_default, get_or_push, take_at, take-append-drop, take_more, map-append, take_all, length-map}
use Rattle.std.proofs.lemmas.List.Elements.{Contains-get_or, Contains-append_left, Contains-append_cases, filter_map-append}
use Rattle.acpi_space.specs.declared.object.Placed.{Placed}
use Rattle.aml_data.specs.declared.path.Path.{Path}
use Rattle.acpi_space.specs.declared.object.Object.{Object}
use Rattle.acpi_space.specs.Things.{Thing, thing}
use Rattle.acpi_space.specs.declared.object.Object.TheVariants.{Device as device}
use Rattle.acpi_space.specs.declared.fault.SpaceFault.{SpaceFault}
use Rattle.acpi_space.specs.declared.fault.SpaceFault.TheVariants.{Twice, Memory}
use Rattle.aml_data.specs.declared.data.Width.{Width}
use Rattle.aml_data.specs.declared.data.Width.TheVariants.{W32}
use Rattle.acpi_space.specs.Distinct.{IsDistinct, IsFirstRepeat}
use Rattle.acpi_space.specs.Places.{Place, place_of, is_known, is_single, found, opened}
use Rattle.acpi_space.specs.Steps.{Step, Turn, opens, gives, touched, in_order}
use Rattle.acpi_space.specs.Namespace.{Entry, entry_at, entries_of, places_of}
use Rattle.acpi_space.specs.inner.Trees.{IsAt, IsBeginning, IsClosed, IsGrown, IsNearest, IsNowhere, Knows, Reaches}
use Rattle.acpi_space.specs.Standing.{AreObjects, IsFaultOf, IsFound, entry_from}
use Rattle.acpi_space.specs.inner.Standing.{entry_in, entries_at, told_at, IsIndex, IsNoted, Stands}
use Rattle.acpi_space.proofs.Seen.{IsDistinct-push}
use Rattle.acpi_space.proofs.Trees.{shorter_there, same_index, some_none, same_some}
use Rattle.pw_base.proofs.Facts.{choice}

-- ---- beginnings

pub seg_decides : (a b : List ℕ) → Decides (pointwise nat_eq a b) (a ≡ b)
seg_decides a b = slice_eq-Decides Decides-eqb a b (pointwise nat_eq a b) refl

pub begins_from : (whole place : Place) → IsBeginning place whole → starts_with (pointwise nat_eq) whole place ≡ true
begins_from whole place e =
    (starts_is seg_decides whole place (starts_with (pointwise nat_eq) whole place) refl).1 (drop (length place) whole)
    (sym (take-append-drop (length place) whole) ∙ ap (λ front. front ++ drop (length place) whole) e)

pub begins_to : (whole place : Place) → starts_with (pointwise nat_eq) whole place ≡ true → IsBeginning place whole
begins_to whole place e =
    let is = (starts_is seg_decides whole place (starts_with (pointwise nat_eq) whole place) refl).0 e in
    ap (take (length place)) is ∙ take_at place (drop (length place) whole) (length place) refl

pub itself : (place : Place) → IsBeginning place place
itself place = take_all (length place) place (omega arith)

-- ---- known places

abbrev pub begin : Place → Place → Bool
begin whole place = starts_with (pointwise nat_eq) whole place

pub or_true : (a b : Bool) → (a || b) ≡ true → (a ≡ true) ⊎ (b ≡ true)
or_true true b e = inl refl
or_true false b e = inr e

pub true_or : (a b : Bool) → (a ≡ true) ⊎ (b ≡ true) → (a || b) ≡ true
true_or true b e = refl
true_or false b (inl e) = absurd (false≢true e)
true_or false b (inr e) = e

pub known_left : (xs ys : List Place) (q : Place) → is_known xs q ≡ true → is_known (xs ++ ys) q ≡ true
known_left [] ys q e = absurd (false≢true e)
known_left (x ∷ xs) ys q e = true_or (begin x q) (is_known (xs ++ ys) q) (elim (or_true (begin x q) (is_known xs q) e) [
  | inl a ↦ inl a
  | inr b ↦ inr (known_left xs ys q b)
])

pub known_last : (xs : List Place) (x q : Place) → IsBeginning q x → is_known (xs ++ x ∷ []) q ≡ true
known_last [] x q e = true_or (begin x q) false (inl (begins_from x q e))
known_last (y ∷ xs) x q e = true_or (begin y q) (is_known (xs ++ x ∷ []) q) (inr (known_last xs x q e))

pub known_cases : (xs : List Place) (x q : Place) → is_known (xs ++ x ∷ []) q ≡ true → (is_known xs q ≡ true) ⊎ IsBeginning q x
known_cases [] x q e = elim (or_true (begin x q) false e) [
  | inl a ↦ inr (begins_to x q a)
  | inr b ↦ absurd (false≢true b)
]
known_cases (y ∷ xs) x q e = elim (or_true (begin y q) (is_known (xs ++ x ∷ []) q) e) [
  | inl a ↦ inl (true_or (begin y q) (is_known xs q) (inl a))
  | inr b ↦ elim (known_cases xs x q b) [
    | inl old ↦ inl (true_or (begin y q) (is_known xs q) (inr old))
    | inr new ↦ inr new
  ]
]

pub touched-append : (xs ys : List Step) → touched (xs ++ ys) ≡ touched xs ++ touched ys
touched-append xs ys = map-append (λ (s : Step). s.place) xs ys

-- ---- a tree that has a place has its beginnings

pub beginning_there : (places : List Place) (whole q : Place) → IsClosed places → Contains places whole → IsBeginning q whole → Contains places q
beginning_there places whole q closed among e =
    elim (cases_lt (length whole) (length q)) [
      | inl longer ↦ subst (Contains places) (sym (take_all (length q) whole (omega arith)) ∙ e) among
      | inr fits ↦
          let gap : ℕ = length whole - length q in
          let sum : length q + gap ≡ length whole = omega arith in
          subst (Contains places) e (shorter_there places whole [] (length q) gap closed sum among)
    ]

-- ---- what is placed

pub entries_of-append : (xs ys : List Step) → entries_of (xs ++ ys) ≡ entries_of xs ++ entries_of ys
entries_of-append xs ys = filter_map-append (λ (s : Step). entry_at s.place s.given) xs ys

pub places_of-append : (xs ys : List Entry) → places_of (xs ++ ys) ≡ places_of xs ++ places_of ys
places_of-append xs ys = map-append (λ (e : Entry). e.path) xs ys

pub given_places : (xs ys : List Step) → places_of (entries_of (xs ++ ys)) ≡ places_of (entries_of xs) ++ places_of (entries_of ys)
given_places xs ys = ap places_of (entries_of-append xs ys) ∙ places_of-append (entries_of xs) (entries_of ys)

-- more places change nothing of what is placed
same_entries : (old more : List Place) (placed : List Placed) → ((i : ℕ) (d : Placed) → i < length placed → (get_or placed i d).name < length old)
    → entries_at (old ++ more) placed ≡ entries_at old placed
same_entries old more [] within = refl
same_entries old more (p ∷ ps) within =
    let first : entry_in (old ++ more) p ≡ entry_in old p = rw (get_or_append_left old more [] p.name (within 0 p (omega arith))) refl in
    rw (first, same_entries old more ps (λ i d l. within (suc i) d (omega (arith, l)))) refl

-- ---- one more place is opened

pub after_touching : (old new known : List Place) (k : ℕ) (place : Place) → Knows old known → Reaches old new k place → IsClosed new
    → (all : List Place) → all ≡ known ++ place ∷ [] → Knows new all
after_touching old new known k place knows reaches closed all is =
    let there : Contains new place = subst (Contains new) reaches.here.1 (Contains-get_or new k [] reaches.here.0) in
    record {
      root = rw reaches.grown (Contains-append_left old reaches.more [] knows.root);
      only = λ q among. elim (Contains-append_cases old reaches.more q (subst (λ places. Contains places q) reaches.grown among)) [
        | inl was ↦ elim (knows.only q was) [
          | inl root ↦ inl root
          | inr known_now ↦ inr (rw is (known_left known (place ∷ []) q known_now))
        ]
        | inr more ↦ inr (rw is (known_last known place q (reaches.fresh q more)))
      ];
      all = λ q known_now. elim (known_cases known place q (subst (λ t. is_known t q ≡ true) is known_now)) [
        | inl was ↦ rw reaches.grown (Contains-append_left old reaches.more q (knows.all q was))
        | inr begins ↦ beginning_there new place q closed there begins
      ];
    }

pub after_opening : (old new : List Place) (placed : List Placed) (index : List (Option ℕ)) (steps : List Step) (k : ℕ) (place : Place)
    → Stands old placed index steps → Reaches old new k place → IsClosed new → Stands new placed index (steps ++ opens place ∷ [])
after_opening old new placed index steps k place stands reaches closed =
    let entries_stay : entries_of (steps ++ opens place ∷ []) ≡ entries_of steps = entries_of-append steps (opens place ∷ []) ∙ append-nil (entries_of steps) in
    let bigger : length new ≡ length old + length reaches.more = ap length reaches.grown ∙ length-append old reaches.more in
    record {
      known = after_touching old new (touched steps) k place stands.known reaches closed (touched (steps ++ opens place ∷ [])) (touched-append steps (opens place ∷ []));
      entries = rw (reaches.grown, same_entries old reaches.more placed stands.indexed.within, entries_stay) stands.entries;
      indexed = record {
        within = λ i d l. (let inside = stands.indexed.within i d l in omega arith);
        numbered = stands.indexed.numbered;
        all = stands.indexed.all;
        only = stands.indexed.only;
      };
      distinct = rw entries_stay stands.distinct;
    }

-- ---- an object is placed

pub no_object : Placed
no_object = record { name = 0; index = 0; object = device; width = W32 }

place_read : (places : List Place) (placed : List Placed) (i : ℕ) (d : Placed) → i < length placed
    → get_or (places_of (entries_at places placed)) i [] ≡ get_or places (get_or placed i d).name []
place_read places [] i d l = absurd (let impossible = l in omega arith)
place_read places (p ∷ ps) zero d l = refl
place_read places (p ∷ ps) (suc i) d l = place_read places ps i d (omega (arith, l))

pub entry_read : (places : List Place) (placed : List Placed) (i : ℕ) (d : Placed) (e : Entry) → i < length placed
    → get_or (entries_at places placed) i e ≡ entry_in places (get_or placed i d)
entry_read places [] i d e l = absurd (let impossible = l in omega arith)
entry_read places (p ∷ ps) zero d e l = refl
entry_read places (p ∷ ps) (suc i) d e l = entry_read places ps i d e (omega (arith, l))

places_count : (places : List Place) (placed : List Placed) → length (places_of (entries_at places placed)) ≡ length placed
places_count places placed = length-map (entries_at places placed) (λ (e : Entry). e.path) ∙ length-map placed (entry_in places)

-- where something stands already
pub place_taken : (places : List Place) (placed : List Placed) (index : List (Option ℕ)) (k i : ℕ) (place : Place) → IsIndex places placed index → IsAt places k place
    → told_at index k ≡ Some i → Contains (places_of (entries_at places placed)) place
place_taken places placed index k i place indexed here e =
    let (within, is) = indexed.only k i e in
    let size = places_count places placed in
    let read = place_read places placed i no_object within ∙ ap (λ n. get_or places n []) (is no_object) ∙ here.1 in
    subst (Contains (places_of (entries_at places placed))) read (Contains-get_or (places_of (entries_at places placed)) i [] (omega arith))

-- what stands at a place is told by the map
pub taken_told : (places : List Place) (placed : List Placed) (index : List (Option ℕ)) (k : ℕ) (place : Place) → IsIndex places placed index → IsDistinct places → IsAt places k place
    → Contains (places_of (entries_at places placed)) place → (i : ℕ) × (i < length placed) × ((get_or placed i no_object).name ≡ k) × (told_at index k ≡ Some i)
taken_told places placed index k place indexed distinct here (i, l, e) =
    let size = places_count places placed in
    let within : i < length placed = omega arith in
    let read = place_read places placed i no_object within in
    let is : get_or places (get_or placed i no_object).name [] ≡ place = sym read ∙ get_or_default (places_of (entries_at places placed)) i [] place l ∙ e in
    let same = same_index places (get_or placed i no_object).name k [] distinct (indexed.within i no_object within) here.0 (is ∙ sym here.1) in
    (i, within, same, ap (told_at index) (sym same) ∙ indexed.all i no_object within)

equal_or_not : (a b : ℕ) → (a ≡ b) ⊎ (a ≢ b)
equal_or_not a b = elim (cases_lt a b) [
  | inl less ↦ inr (λ e. omega (arith, less, e))
  | inr more ↦ elim (cases_lt b a) [
    | inl less ↦ inr (λ e. omega (arith, less, e))
    | inr same ↦ inl (omega (arith, more, same))
  ]
]

pub after_placing : (old new : List Place) (placed : List Placed) (index index' : List (Option ℕ)) (steps : List Step) (k : ℕ) (place : Place) (width : Width) (object : Object)
    → Stands old placed index steps → Reaches old new k place → IsClosed new → IsDistinct new → told_at index k ≡ None
    → IsNoted index index' k (length placed)
    → Stands new (placed ++ record { name = k; index = length placed; object = object; width = width } ∷ []) index' (steps ++ gives width place (thing object) ∷ [])
after_placing old new placed index index' steps k place width object stands reaches closed distinct free noted =
    let p : Placed = record { name = k; index = length placed; object = object; width = width } in
    let step : Step = gives width place (thing object) in
    let entry : Entry = record { path = place; object = thing object; width = width } in
    let open_first = after_opening old new placed index steps k place stands reaches closed in
    let indexed = open_first.indexed in
    let more = length_push placed p in
    let other_touched : touched (steps ++ step ∷ []) ≡ touched (steps ++ opens place ∷ []) = touched-append steps (step ∷ []) ∙ sym (touched-append steps (opens place ∷ [])) in
    let stay : entries_of (steps ++ opens place ∷ []) ≡ entries_of steps = entries_of-append steps (opens place ∷ []) ∙ append-nil (entries_of steps) in
    let here : entry_in new p ≡ entry = rw reaches.here.1 refl in
    let entries : entries_at new (placed ++ p ∷ []) ≡ entries_of (steps ++ step ∷ []) =
    map-append (entry_in new) placed (p ∷ []) ∙ ap (λ e. entries_at new placed ++ e ∷ []) here ∙ ap (λ es. es ++ entry ∷ []) (open_first.entries ∙ stay) ∙ sym (entries_of-append steps (step ∷ [])) in
    let fresh : Contains (places_of (entries_of steps)) place → ⊥ = λ among. (
    let (i, within, same, told) = taken_told new placed index k place indexed distinct reaches.here (subst (λ es. Contains (places_of es) place) (sym (open_first.entries ∙ stay)) among) in
    some_none told free) in
    record {
      known = rw other_touched open_first.known;
      entries = entries;
      indexed = record {
        within = λ i d l. elim (cases_lt i (length placed)) [
          | inl was ↦ rw (get_or_append_left placed (p ∷ []) d i was) (indexed.within i d was)
          | inr end ↦ let e : length placed ≡ i = omega arith in rw (get_or_push placed p d i e) reaches.here.0
        ];
        numbered = λ i d l. elim (cases_lt i (length placed)) [
          | inl was ↦ rw (get_or_append_left placed (p ∷ []) d i was) (indexed.numbered i d was)
          | inr end ↦ let e : length placed ≡ i = omega arith in rw (get_or_push placed p d i e) e
        ];
        all = λ i d l. elim (cases_lt i (length placed)) [
          | inl was ↦
              let told = indexed.all i d was in
              rw (get_or_append_left placed (p ∷ []) d i was)
              (noted.others (get_or placed i d).name (λ same. some_none (ap (told_at index) (sym same) ∙ told) free) ∙ told)
          | inr end ↦ let e : length placed ≡ i = omega arith in rw (get_or_push placed p d i e, ← e) noted.here
        ];
        only = λ q i e. elim (equal_or_not q k) [
          | inl hit ↦
              let is : Some (length placed) ≡ Some i = sym noted.here ∙ ap (told_at index') (sym hit) ∙ e in
              let number : length placed ≡ i = same_some is in
              (omega arith, λ d. rw (get_or_push placed p d i number) (sym hit))
          | inr miss ↦
              let (within, name) = indexed.only q i (sym (noted.others q miss) ∙ e) in
              (omega arith, λ d. rw (get_or_append_left placed (p ∷ []) d i within) (name d))
        ];
      };
      distinct = rw (given_places steps (step ∷ [])) (IsDistinct-push (places_of (entries_of steps)) place stands.distinct fresh);
    }

-- the place has an object already
pub given_twice : (old new : List Place) (placed : List Placed) (index : List (Option ℕ)) (steps : List Step) (k i : ℕ) (place : Place) (width : Width) (object : Thing)
    → Stands old placed index steps → Reaches old new k place → IsClosed new → told_at index k ≡ Some i
    → IsFirstRepeat (places_of (entries_of (steps ++ gives width place object ∷ []))) place
given_twice old new placed index steps k i place width object stands reaches closed e =
    let open_first = after_opening old new placed index steps k place stands reaches closed in
    let stay : entries_of (steps ++ opens place ∷ []) ≡ entries_of steps = entries_of-append steps (opens place ∷ []) ∙ append-nil (entries_of steps) in
    record {
      front = places_of (entries_of steps);
      back = [];
      parts = given_places steps (gives width place object ∷ []);
      distinct = stands.distinct;
      among = subst (λ es. Contains (places_of es) place) (open_first.entries ∙ stay) (place_taken new placed index k i place open_first.indexed reaches.here e);
    }

-- ---- the fault of the first steps is the fault of all

pub fault_goes_on : (f : SpaceFault) (steps more : List Step) → IsFaultOf f steps → IsFaultOf f (steps ++ more)
fault_goes_on (Twice path) steps more r =
    let rest = places_of (entries_of more) in
    record {
      front = r.front;
      back = r.back ++ rest;
      parts = given_places steps more ∙ ap (λ places. places ++ rest) r.parts ∙ append_assoc r.front (path.segs ∷ r.back) rest;
      distinct = r.distinct;
      among = r.among;
    }
fault_goes_on Memory steps more r = tt

-- ---- turns one after the other

pub in_order-append : (xs ys : List Turn) (scope : Place) (before : List Step)
    → in_order (xs ++ ys) scope before ≡ in_order xs scope before ++ in_order ys scope (before ++ in_order xs scope before)
in_order-append [] ys scope before = ap (in_order ys scope) (sym (append-nil before))
in_order-append (x ∷ xs) ys scope before =
    let first = x scope before in
    let others = in_order xs scope (before ++ first) in
    ap (λ rest. first ++ rest) (in_order-append xs ys scope (before ++ first)
    ∙ ap (λ b. others ++ in_order ys scope b) (append_assoc before first others))
    ∙ sym (append_assoc first others (in_order ys scope (before ++ (first ++ others))))

-- one turn more
pub more_turns : {X : Type 0} (turn : X → Turn) (xs : List X) (i : ℕ) (x : X) (scope : Place) (before : List Step) → i < length xs → x ≡ get_or xs i x
    → before ++ in_order (map turn (take (i + 1) xs)) scope before
    ≡ (before ++ in_order (map turn (take i xs)) scope before) ++ turn x scope (before ++ in_order (map turn (take i xs)) scope before)
more_turns turn xs i x scope before l is =
    let done = in_order (map turn (take i xs)) scope before in
    let split : map turn (take (i + 1) xs) ≡ map turn (take i xs) ++ turn x ∷ [] =
    ap (map turn) (take_more xs i x l ∙ ap (λ y. take i xs ++ y ∷ []) (sym is)) ∙ map-append turn (take i xs) (x ∷ []) in
    ap (λ turns. before ++ in_order turns scope before) split
    ∙ ap (λ s. before ++ s) (in_order-append (map turn (take i xs)) (turn x ∷ []) scope before)
    ∙ ap (λ last. before ++ (done ++ last)) (append-nil (turn x scope (before ++ done)))
    ∙ sym (append_assoc before done (turn x scope (before ++ done)))

-- the first turns, and then the others
pub split_turns : {X : Type 0} (turn : X → Turn) (xs : List X) (i : ℕ) (scope : Place) (before : List Step)
    → before ++ in_order (map turn xs) scope before
    ≡ (before ++ in_order (map turn (take i xs)) scope before) ++ in_order (map turn (drop i xs)) scope (before ++ in_order (map turn (take i xs)) scope before)
split_turns turn xs i scope before =
    let done = in_order (map turn (take i xs)) scope before in
    ap (λ ts. before ++ in_order (map turn ts) scope before) (sym (take-append-drop i xs))
    ∙ ap (λ turns. before ++ in_order turns scope before) (map-append turn (take i xs) (drop i xs))
    ∙ ap (λ s. before ++ s) (in_order-append (map turn (take i xs)) (map turn (drop i xs)) scope before)
    ∙ sym (append_assoc before done (in_order (map turn (drop i xs)) scope (before ++ done)))

-- ---- which place a Scope opens

pub found_there : (known : List Place) (scope segs other : Place) (n kept : ℕ) → kept ≤ n → is_known known (take kept scope ++ segs) ≡ true
    → ((m : ℕ) → kept < m → m ≤ n → is_known known (take m scope ++ segs) ≡ false) → found known scope segs other n ≡ take kept scope ++ segs
unfolding found
found_there known scope segs other zero kept fits there further =
    let e : kept ≡ 0 = omega arith in
    let there' : is_known known segs ≡ true = subst (λ k. is_known known (take k scope ++ segs) ≡ true) e there in
    (rw there' refl) ∙ ap (λ k. take k scope ++ segs) (sym e)
found_there known scope segs other (suc n) kept fits there further = elim (cases_lt kept (suc n)) [
  | inl less ↦ rw (further (suc n) less (omega arith)) (found_there known scope segs other n kept (omega (arith, less)) there (λ m more within. further m more (omega (arith, within))))
  | inr same ↦
      let e : kept ≡ suc n = omega (arith, fits, same) in
      let there' : is_known known (take (suc n) scope ++ segs) ≡ true = subst (λ k. is_known known (take k scope ++ segs) ≡ true) e there in
      (rw there' refl) ∙ ap (λ k. take k scope ++ segs) (sym e)
]

pub found_nowhere : (known : List Place) (scope segs other : Place) (n : ℕ) → ((m : ℕ) → m ≤ n → is_known known (take m scope ++ segs) ≡ false) → found known scope segs other n ≡ other
unfolding found
found_nowhere known scope segs other zero none = rw (none 0 (omega arith)) refl
found_nowhere known scope segs other (suc n) none = rw (none (suc n) (omega arith)) (found_nowhere known scope segs other n (λ m fits. none m (omega (arith, fits))))

not_known : (places known : List Place) (q : Place) → Knows places known → (Contains places q → ⊥) → is_known known q ≡ false
not_known places known q knows none = elim (choice (is_known known q)) [
  | inl there ↦ absurd (none (knows.all q there))
  | inr missing ↦ missing
]

pub opened_near : (places known : List Place) (scope : Place) (path : Path) (seg : List ℕ) (k : ℕ) → Knows places known → is_single path ≡ true → path.segs ≡ seg ∷ []
    → IsNearest places scope seg k → IsAt places k (opened known scope path)
opened_near places known scope path seg k knows single segs near =
    let place = take near.kept scope ++ seg ∷ [] in
    let among : Contains places place = subst (Contains places) near.here.1 (Contains-get_or places k [] near.here.0) in
    let there : is_known known place ≡ true = elim (knows.only place among) [
      | inl root ↦ absurd (let l = length_push (take near.kept scope) seg in let e : length place ≡ 0 = ap length root in omega arith)
      | inr told ↦ told
    ] in
    let is : opened known scope path ≡ place =
    rw (single, segs) (found_there known scope (seg ∷ []) _ (length scope) near.kept near.within there
    (λ n more fits. not_known places known (take n scope ++ seg ∷ []) knows (near.first n more fits))) in
    subst (IsAt places k) (sym is) near.here

pub opened_far : (places known : List Place) (scope : Place) (path : Path) (seg : List ℕ) → Knows places known → path.segs ≡ seg ∷ []
    → IsNowhere places scope seg → opened known scope path ≡ place_of scope path
opened_far places known scope path seg knows segs nowhere = elim (choice (is_single path)) [
  | inl single ↦ rw (single, segs) (found_nowhere known scope (seg ∷ []) _ (length scope)
      (λ m fits. not_known places known (take m scope ++ seg ∷ []) knows (nowhere m fits)))
  | inr other ↦ rw other refl
]

-- ---- a tree that grew

pub grown_at : (old new : List Place) (k : ℕ) → IsGrown old new → k < length old → get_or new k [] ≡ get_or old k []
grown_at old new k (more, e) l = rw e (get_or_append_left old more [] k l)

pub grown_on : (old mid new : List Place) → IsGrown old mid → IsGrown mid new → IsGrown old new
grown_on old mid new (a, e) (b, f) = (a ++ b, f ∙ ap (λ m. m ++ b) e ∙ append_assoc old a b)

pub some_there : {X : Type 0} (o : Option X) → is_some o ≡ true → (x : X) × (o ≡ Some x)
some_there None e = absurd (false≢true e)
some_there (Some x) e = (x, refl)

pub none_there : {X : Type 0} (o : Option X) → is_some o ≡ false → o ≡ None
none_there None e = refl
none_there (Some x) e = absurd (false≢true (sym e))

-- ---- a space

pub unplaced : (places : List Place) (placed : List Placed) (index : List (Option ℕ)) (place : Place) → IsIndex places placed index
    → (Contains places place → ⊥) → Contains (places_of (entries_at places placed)) place → ⊥
unplaced places placed index place indexed none (i, l, e) =
    let size = places_count places placed in
    let within : i < length placed = omega arith in
    let is : get_or places (get_or placed i no_object).name [] ≡ place = sym (place_read places placed i no_object within) ∙ get_or_default (places_of (entries_at places placed)) i [] place l ∙ e in
    none (subst (Contains places) is (Contains-get_or places (get_or placed i no_object).name [] (indexed.within i no_object within)))

pub free_place : (places : List Place) (placed : List Placed) (index : List (Option ℕ)) (k : ℕ) → IsIndex places placed index → IsDistinct places → k < length places
    → told_at index k ≡ None → Contains (places_of (entries_at places placed)) (get_or places k []) → ⊥
free_place places placed index k indexed distinct l free among =
    let (i, within, same, told) = taken_told places placed index k (get_or places k []) indexed distinct (l, refl) among in
    some_none told free

pub object_there : (places : List Place) (placed : List Placed) (index : List (Option ℕ)) (k i : ℕ) (p : Placed) → IsIndex places placed index
    → told_at index k ≡ Some i → p ≡ get_or placed i p → IsFound (entries_at places placed) (get_or places k []) p
object_there places placed index k i p indexed told is =
    let (within, name) = indexed.only k i told in
    let number : p.index ≡ i = ap (λ (q : Placed). q.index) is ∙ indexed.numbered i p within in
    let at : p.name ≡ k = ap (λ (q : Placed). q.name) is ∙ name p in
    let size = length-map placed (entry_in places) in (
      omega (arith, number, within, size),
      λ d. ap (λ n. get_or (entries_at places placed) n d) number ∙ entry_read places placed i p d within ∙ ap (entry_in places) (sym is) ∙ ap (λ n. entry_from (get_or places n []) p) at,
    )

pub are_objects : (places : List Place) (placed ps : List Placed) (index : List (Option ℕ)) (entries : List Entry) → IsIndex places placed index → entries_at places placed ≡ entries
    → ps ≡ placed → AreObjects entries ps
are_objects places placed ps index entries indexed v e = rw (e, ← v) (record {
  numbered = indexed.numbered;
  count = sym (length-map placed (entry_in places));
  objects = λ i d p l. rw (entry_read places placed i p d l) (refl, refl);
})

pub path_is : (places : List Place) (placed : List Placed) (entries : List Entry) (i : ℕ) (d : Entry) (p : Placed) → entries_at places placed ≡ entries → i < length placed
    → p ≡ get_or placed i p → get_or places p.name [] ≡ (get_or entries i d).path
path_is places placed entries i d p v l is =
    ap (λ (q : Placed). get_or places q.name []) is ∙ sym (ap (λ (x : Entry). x.path) (entry_read places placed i p d l)) ∙ ap (λ es. (get_or es i d).path) v

-- ---- the search of a name

pub single_list : {X : Type 0} (xs : List X) (x : X) → length xs ≡ 1 → x ≡ get_or xs 0 x → xs ≡ x ∷ []
single_list [] x l e = absurd (let impossible = l in omega arith)
single_list (y ∷ []) x l e = rw e refl
single_list (y ∷ z ∷ ys) x l e = absurd (let impossible = l in omega arith)

pub searched_answer : (places known : List Place) (scope : Place) (path : Path) (seg : List ℕ) → Knows places known → path.root ≡ false → path.ups ≡ 0 → path.segs ≡ seg ∷ []
    → (r : Option ℕ) → MatchOption r (IsNowhere places scope seg) (IsNearest places scope seg)
    → MatchOption r (opened known scope path ≡ place_of scope path) (λ k. IsAt places k (opened known scope path))
searched_answer places known scope path seg knows root ups segs None nowhere = opened_far places known scope path seg knows segs nowhere
searched_answer places known scope path seg knows root ups segs (Some k) near = opened_near places known scope path seg k knows (rw (root, ups, segs) refl) segs near

-- ---- the fault of one turn

pub turn_fault : {X : Type 0} (turn : X → Turn) (xs : List X) (i : ℕ) (x : X) (scope : Place) (before : List Step) (f : SpaceFault) → i < length xs → x ≡ get_or xs i x
    → IsFaultOf f ((before ++ in_order (map turn (take i xs)) scope before) ++ turn x scope (before ++ in_order (map turn (take i xs)) scope before))
    → IsFaultOf f (before ++ in_order (map turn xs) scope before)
turn_fault turn xs i x scope before f l is fault =
    let first = subst (IsFaultOf f) (sym (more_turns turn xs i x scope before l is)) fault in
    subst (IsFaultOf f) (sym (split_turns turn xs (i + 1) scope before)) (fault_goes_on f (before ++ in_order (map turn (take (i + 1) xs)) scope before) _ first)

pub first_fault : (f : SpaceFault) (before : List Step) (step : Step) (rest whole : List Step) → whole ≡ step ∷ rest → IsFaultOf f (before ++ step ∷ []) → IsFaultOf f (before ++ whole)
first_fault f before step rest whole e fault =
    rw e (subst (IsFaultOf f) (append_assoc before (step ∷ []) rest) (fault_goes_on f (before ++ step ∷ []) rest fault))

-- no place of a space is given twice
pub distinct_places : (places : List Place) (placed : List Placed) (index : List (Option ℕ)) (entries : List Entry) → IsIndex places placed index → IsDistinct places
    → entries_at places placed ≡ entries → IsDistinct (places_of entries)
distinct_places places placed index entries indexed distinct v = subst (λ es. IsDistinct (places_of es)) v (λ i j d less within same. (
    let given = places_of (entries_at places placed) in
    let size = places_count places placed in
    let li : i < length placed = omega (arith, less, within, size) in
    let lj : j < length placed = omega (arith, within, size) in
    let gi : i < length given = omega (arith, less, within) in
    let e = sym (place_read places placed i no_object li) ∙ get_or_default given i [] d gi ∙ same ∙ get_or_default given j d [] within ∙ place_read places placed j no_object lj in
    let name = same_index places (get_or placed i no_object).name (get_or placed j no_object).name [] distinct (indexed.within i no_object li) (indexed.within j no_object lj) e in
    let number : i ≡ j = same_some (sym (indexed.all i no_object li) ∙ ap (told_at index) name ∙ indexed.all j no_object lj) in
    let impossible : i < i = subst (λ k. i < k) (sym number) less in omega (arith, impossible)))
