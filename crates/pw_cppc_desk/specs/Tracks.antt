-- A seat of the table: its view, and the steps of the desk's machine that it took itself, or that seats took which were joined into it.
use Rattle.std.specs.Prelude.{ℕ, List, ◌++◌}
use Rattle.pw_books.specs.declared.track.Track.{Track as tracked}
use Rattle.pw_books.specs.declared.view.View.{View}
use Rattle.pw_books.specs.Machine.{spent_view}
use Rattle.pw_books.specs.Steps.{Kind, split_seat, join_seats, left_of, right_of, joined}
use Rattle.pw_books.specs.Tracks as books
use Rattle.pw_cppc.specs.declared.entry.CppcEntry.{CppcEntry}

abbrev pub Track : Type 0
Track = tracked (View CppcEntry) (Kind CppcEntry)

-- a kind of step as the seat knows it that takes it: where another seat lies that it joins isn't told
abbrev pub own_kind : Kind CppcEntry → Kind CppcEntry
own_kind (join_seats k w) = join_seats 0 w
own_kind k = k

-- it took one more, and has this view
abbrev pub did : Kind CppcEntry → View CppcEntry → Track → Track
did = books.did own_kind

-- # Seats that are split and joined

abbrev pub left_track : ℕ → ℕ → Track → Track
left_track n parts t = did (split_seat n parts) (left_of n parts t.view) t

abbrev pub right_track : ℕ → ℕ → Track → Track
right_track n parts t = books.fresh (right_of n parts t.view)

abbrev pub joined_track : Track → Track → Track
joined_track t u = books.took_over own_kind (join_seats 0 u.view) (joined t.view u.view) t u

abbrev pub spent_track : Track
spent_track = books.fresh spent_view

-- # What a seat has in keeping

-- its own steps, and the lists of the seats that were joined into it
abbrev pub Keeping : Type 0
Keeping = List (Kind CppcEntry) × List (List (Kind CppcEntry))

abbrev pub keeping : Track → Keeping
keeping t = (t.own, t.kept)

-- with these steps more of its own
abbrev pub more : List (Kind CppcEntry) → Keeping → Keeping
more ks k = (k.0 ++ ks, k.1)
