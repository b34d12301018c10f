-- The first number that passes a test, and the first that stands twice in a list.
use Rattle.std.specs.Prelude.{ℕ, zero, suc, ◌==◌, not, Bool, List, length, take, is_some, position, slice_index_or, Option, Some, None, if◌then◌else◌}
use Rattle.std.specs.Option.{option_map, option_or, unwrap_or}
use Rattle.pw_findings.specs.declared.finding.Repeat.{Repeat}

-- the first number below n for which a test holds
abbrev pub first_below : (ℕ → Bool) → ℕ → Option ℕ
first_below test zero = None
first_below test (suc n) = option_or (first_below test n) (if test n then Some n else None)

-- what stands at place k of a list of numbers, 0 past its end
abbrev pub number_in : List ℕ → ℕ → ℕ
number_in numbers k = slice_index_or numbers k 0

-- the first place before place k where the same number stands
abbrev pub earlier : List ℕ → ℕ → Option ℕ
earlier numbers k = position (λ n. n == number_in numbers k) (take k numbers)

abbrev pub stood : List ℕ → ℕ → Bool
stood numbers k = is_some (earlier numbers k)

-- place k with its number, and the first place of this number
abbrev pub repeat_at : List ℕ → ℕ → Repeat
repeat_at numbers k = record { number = number_in numbers k; place = k; earlier = unwrap_or (earlier numbers k) 0 }

-- the first place whose number stood before it
unfoldable pub first_repeat : List ℕ → Option Repeat
first_repeat numbers = option_map (repeat_at numbers) (first_below (stood numbers) (length numbers))

-- whether two lists have other numbers at place k
abbrev pub differ_at : List ℕ → List ℕ → ℕ → Bool
differ_at one other k = not (number_in one k == number_in other k)

-- the first place of a list at which another has another number
unfoldable pub first_other : List ℕ → List ℕ → Option ℕ
first_other one other = first_below (differ_at one other) (length one)
