-- Texts in a caller's room.
use Rattle.std.specs.Prelude.{◌≡◌, ◌≤◌, ◌<◌, ◌++◌, ℕ, List, length, drop}

-- a text stands at the front of the room, where there is room for it; else the room is as it was
abbrev pub IsOver : List ℕ → List ℕ → List ℕ → Type 0
IsOver text room room' =
    (length text ≤ length room → room' ≡ text ++ drop (length text) room) × (length room < length text → room' ≡ room)
