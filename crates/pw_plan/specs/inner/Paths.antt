-- The order of paths, in which those of the processors are compared.
use Rattle.std.specs.Prelude.{ℕ, Bool, List}
use Rattle.std.specs.Ordering.{is_lt, nat_cmp}
use Rattle.std.specs.Cmp.Lexicographic.{slice_cmp}

-- by their segments in order, and each of these by its bytes
abbrev pub is_path_before : List (List ℕ) → List (List ℕ) → Bool
is_path_before one other = is_lt (slice_cmp (slice_cmp nat_cmp) one other)
