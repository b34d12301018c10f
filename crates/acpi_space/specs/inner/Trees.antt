-- Places as a tree of names: place 0 is the root, and each name is one more place, below one that stands before it.
use Rattle.std.specs.Prelude.{◌≡◌, ◌⊎◌, ◌≤◌, ◌<◌, ℕ, zero, suc, ◌+◌, true, List, [], ◌∷◌, ◌++◌, length, take, get_or, Contains, Option, None, Some}
use Rattle.std.specs.Ordering.{nat_cmp, ordering_then}
use Rattle.std.specs.declared.cmp.Ordering.{Ordering}
use Rattle.std.specs.declared.cmp.Reverse.{Reverse}
use Rattle.std.specs.Cmp.Lexicographic.{slice_cmp}
use Rattle.std.specs.BTreeMap.{BTreeMap, get, Updates}
use Rattle.acpi_space.specs.declared.tree.Name.{Name}
use Rattle.acpi_space.specs.Places.{Place, is_known}
use Rattle.acpi_space.specs.Distinct.{IsDistinct}

-- a segment, and the number of the place that it stands below; the greatest comes first
abbrev pub Key : Type 0
Key = Reverse (List ℕ × ℕ)

abbrev pub key_cmp : Key → Key → Ordering
key_cmp a b = ordering_then (slice_cmp nat_cmp b.0.0 a.0.0) (nat_cmp b.0.1 a.0.1)

abbrev pub key : List ℕ → ℕ → Key
key seg above = record { 0 = (seg, above) }

abbrev pub key_of : Name → Key
key_of name = key name.seg name.above

pub no_name : Name
no_name = record { above = 0; depth = 0; seg = []; back = 0 }

-- the place of this segment below the place of this number
abbrev pub below : List Place → ℕ → List ℕ → Place
below places at seg = get_or places at [] ++ seg ∷ []

-- these places, and one more for each name
abbrev pub places_from : List Place → List Name → List Place
places_from places [] = places
places_from places (n ∷ ns) = places_from (places ++ below places n.above n.seg ∷ []) ns

-- the places of names
abbrev pub places_in : List Name → List Place
places_in names = places_from ([] ∷ []) names

-- so many places before this one stand above it, each above the next; before the root there are none
abbrev pub back_of : List Name → ℕ → ℕ
back_of names zero = 0
back_of names (suc i) = (get_or names i no_name).back

-- each name stands below a place before it, no place stands twice, and a map tells the names by segment and place; the
-- places right before one that are counted as above it are so
pub record IsTree (names : List Name) (map : BTreeMap Key ℕ) : Type 0 where
  pub above : (i : ℕ) (d : Name) → i < length names → (get_or names i d).above ≤ i
  pub depth : (i : ℕ) (d : Name) → i < length names → (get_or names i d).depth ≡ length (get_or (places_in names) (i + 1) [])
  pub back : (i : ℕ) (d : Name) → i < length names
      → ((get_or names i d).back ≡ 0) ⊎ (((get_or names i d).above ≡ i) × ((get_or names i d).back ≤ back_of names i + 1))
  pub distinct : IsDistinct (places_in names)
  pub all : (i : ℕ) (d : Name) → i < length names → get key_cmp map (key_of (get_or names i d)) ≡ Some (i + 1)
  pub only : (q : Key) (k : ℕ) → get key_cmp map q ≡ Some k
      → (i : ℕ) × (k ≡ i + 1) × (i < length names) × ((d : Name) → key_of (get_or names i d) ≡ q)

-- what a name says of the place that it adds to these
pub record IsNext (names : List Name) (n : Name) : Type 0 where
  pub depth : n.depth ≡ length (get_or (places_in names) n.above []) + 1
  pub back : (n.back ≡ 0) ⊎ ((n.above ≡ length names) × (n.back ≤ back_of names (length names) + 1))

-- two maps tell the same of each key
abbrev pub IsSame : BTreeMap Key ℕ → BTreeMap Key ℕ → Type 0
IsSame old new = (q : Key) → get key_cmp new q ≡ get key_cmp old q

-- a map that is told a number knows it, where it knew none, and else what it knew: that is the answer
abbrev pub IsTold : BTreeMap Key ℕ → BTreeMap Key ℕ → Key → ℕ → Option ℕ → Type 0
IsTold old new key number None = (get key_cmp old key ≡ None) × Updates key_cmp old new key (Some number)
IsTold old new key number (Some known) = (get key_cmp old key ≡ Some known) × IsSame old new

-- the place of this number is this one
abbrev pub IsAt : List Place → ℕ → Place → Type 0
IsAt places k place = (k < length places) × (get_or places k [] ≡ place)

-- a place is a beginning of another
abbrev pub IsBeginning : Place → Place → Type 0
IsBeginning place whole = take (length place) whole ≡ place

-- what stands above a place of these is one of them
abbrev pub IsClosed : List Place → Type 0
IsClosed places = (q : Place) (s : List ℕ) → Contains places (q ++ s ∷ []) → Contains places q

-- More places, among which this one has this number: all that are new are beginnings of it.
pub record Reaches (old new : List Place) (k : ℕ) (place : Place) : Type 0 where
  pub more : List Place
  pub grown : new ≡ old ++ more
  pub here : IsAt new k place
  pub fresh : (q : Place) → Contains more q → IsBeginning q place

-- the places are these and more
abbrev pub IsGrown : List Place → List Place → Type 0
IsGrown old new = (more : List Place) × (new ≡ old ++ more)

-- a segment is below no place on the way from a scope up to the root
abbrev pub IsNowhere : List Place → Place → List ℕ → Type 0
IsNowhere places scope seg = (n : ℕ) → n ≤ length scope → Contains places (take n scope ++ seg ∷ []) → ⊥

-- the place of this number is a segment below the first place, on the way from a scope up to the root, that has it below
pub record IsNearest (places : List Place) (scope : Place) (seg : List ℕ) (k : ℕ) : Type 0 where
  pub kept : ℕ
  pub within : kept ≤ length scope
  pub here : IsAt places k (take kept scope ++ seg ∷ [])
  pub first : (n : ℕ) → kept < n → n ≤ length scope → Contains places (take n scope ++ seg ∷ []) → ⊥

-- no place of these numbers has the segment below it
abbrev pub HasNoneFrom : List Place → List ℕ → ℕ → ℕ → Type 0
HasNoneFrom places seg least most = (a : ℕ) → least ≤ a → a ≤ most → Contains places (below places a seg) → ⊥

-- the last place, up to this number, that has the segment below it, and the number of the place there
pub record IsLast (places : List Place) (seg : List ℕ) (most : ℕ) (last : ℕ × ℕ) : Type 0 where
  pub within : last.0 ≤ most
  pub here : IsAt places last.1 (below places last.0 seg)
  pub none : HasNoneFrom places seg (last.0 + 1) most

-- A place above another; the places between the two have greater numbers than this one.
pub record IsRisen (places : List Place) (at least k : ℕ) : Type 0 where
  pub less : k < at
  pub above : IsBeginning (get_or places k []) (get_or places at [])
  pub shorter : length (get_or places k []) < length (get_or places at [])
  pub passed : (n : ℕ) → length (get_or places k []) < n → n < length (get_or places at [])
      → (j : ℕ) × (least < j) × IsAt places j (take n (get_or places at []))

-- what begins another stands before it
abbrev pub IsOrdered : List Place → Type 0
IsOrdered places = (j k : ℕ) → j < length places → k < length places → IsBeginning (get_or places j []) (get_or places k []) → j ≤ k

-- the places are the root and all places that are known, and no others
pub record Knows (places known : List Place) : Type 0 where
  pub root : Contains places []
  pub only : (q : Place) → Contains places q → (q ≡ []) ⊎ (is_known known q ≡ true)
  pub all : (q : Place) → is_known known q ≡ true → Contains places q
