-- Places in the namespace, and where names lead (ACPI 6.5, 5.3).
use Rattle.std.specs.Prelude.{◌≡◌, ◌≤◌, ◌<◌, true, false, Contains, ℕ, zero, suc, ◌-◌, ◌==◌, ◌&&◌, not, Bool, List, [], ◌++◌, length, take, nat_eq, if◌then◌else◌}
use Rattle.std.specs.List.{list_any, starts_with}
use Rattle.std.specs.Cmp.Lexicographic.{pointwise}
use Rattle.aml_data.specs.declared.path.Path.{Path}

-- a place: its segments from the root on
abbrev pub Place : Type 0
Place = List (List ℕ)

-- so many steps up from a place; the root has nothing above it
abbrev pub up : ℕ → Place → Place
up steps place = take (length place - steps) place

-- where a name leads from a scope: from the root, or from so many steps up (ACPI 6.5, 5.3)
abbrev pub place_of : Place → Path → Place
place_of scope path = (if path.root then [] else up path.ups scope) ++ path.segs

-- a place is known where it, or a longer place that it begins, is one of these
abbrev pub is_known : List Place → Place → Bool
is_known places place = list_any (λ p. starts_with (pointwise nat_eq) p place) places

-- a single segment without prefix: the one form of a name that is searched (ACPI 6.5, 5.3)
abbrev pub is_single : Path → Bool
is_single path = not path.root && (path.ups == 0) && (length path.segs == 1)

-- the longest of the first `n` segments of a scope, or of fewer, below which these segments are known; below none of
-- them it is `other`
unfoldable pub found : List Place → Place → Place → Place → ℕ → Place
found known scope segs other zero = if is_known known segs then segs else other
found known scope segs other (suc n) =
    if is_known known (take (suc n) scope ++ segs) then take (suc n) scope ++ segs else found known scope segs other n

-- Which place a Scope opens. A single segment is searched in its scope and in each scope around it, and the first place
-- that is known is opened; where none is, and by any other name, it is the place where the name leads.
abbrev pub opened : List Place → Place → Path → Place
opened known scope path =
    if is_single path then found known scope path.segs (place_of scope path) (length scope) else place_of scope path

-- # Which place a Scope opens, in words

-- a place is one of these, or begins one of them
abbrev pub IsKnown : List Place → Place → Type 0
IsKnown known place = (rest : Place) × Contains known (place ++ rest)

-- A name of another form is opened where it leads. A single segment is opened in its scope where it is known there, or else
-- in the nearest scope around it, up to the root, in which it is known; where it is known in none, in the scope itself.
pub data Opens (known : List Place) (scope : Place) (path : Path) : Place → Type 0 where
  opens_there : is_single path ≡ false → Opens known scope path (place_of scope path)
  opens_nearest : is_single path ≡ true → (n : ℕ) → n ≤ length scope → IsKnown known (take n scope ++ path.segs)
      → ((m : ℕ) → n < m → m ≤ length scope → IsKnown known (take m scope ++ path.segs) → ⊥)
      → Opens known scope path (take n scope ++ path.segs)
  opens_new : is_single path ≡ true → ((m : ℕ) → m ≤ length scope → IsKnown known (take m scope ++ path.segs) → ⊥)
      → Opens known scope path (scope ++ path.segs)
