-- The last line of a text.
use Rattle.std.specs.Prelude.{◌==◌, ◌-◌, ◌&&◌, not, ℕ, Bool, List, length, slice_index}
use Rattle.pw_text.specs.Fields.{is_empty}

-- whether the last line has no line feed
abbrev pub is_open : List ℕ → Bool
is_open bytes = not (is_empty bytes) && not (slice_index bytes (length bytes - 1) == 10)
