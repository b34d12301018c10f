-- What a handle ends as, once a `&mut` to what it keeps has ended.
use Rattle.std.specs.Borrow.{Fml, Lends, MutBor}
use Rattle.pw_handles.specs.declared.handle.Handle.{Handle}
use Rattle.pw_handles.specs.declared.kept.Kept.{Kept}
use Rattle.pw_handles.specs.declared.place.Place.{Place}
use Rattle.pw_handles.specs.contracts.handle.Handle.{the_row as handle_row}
use Rattle.pw_handles.specs.contracts.kept.Kept.{the_row as kept_row}
use Rattle.pw_handles.specs.contracts.place.Place.{the_row as place_row}

-- the place with this in its box
abbrev pub with_value : Place → Kept → Place
with_value p k = record p { value = k }

abbrev pub LendsPlace : MutBor Place → MutBor Kept → Fml
LendsPlace p k = Lends place_row kept_row p k (with_value p.now)

-- the handle with this in its box
abbrev pub with_kept : Handle → Kept → Handle
with_kept h k = record h { place = with_value h.place k }

abbrev pub LendsHandle : MutBor Handle → MutBor Kept → Fml
LendsHandle h k = Lends handle_row kept_row h k (with_kept h.now)
