-- What a place that C keeps owns.
use Rattle.std.specs.Prelude.{Bool, true, false}
use mir.Syntax.{Ty}
use base.Fml.{Fml, ftrue}
use base.Stored.{Coded}
use denote.RawPtr.{Ptr}
use Rattle.std.specs.Box.Ownership.{box_owns}
use Rattle.std_heap.specs.contracts.GlobalAllocator.TheImpl.{ghosts}
use Rattle.pw_handles.specs.contracts.kept.Kept.{the_row}

-- the right to give a block back to the heap, which is one for all of its handles
abbrev pub to_free : Ty → Ptr → Fml
to_free = ghosts.dealloc_token (record { memory = record { seal = tt } })

-- where it is full the box at the pointer, and else nothing
abbrev pub held : Bool → Ptr → the_row.Denot → Fml
held true p x = box_owns to_free the_row p x
held false p x = ftrue

abbrev pub kept_coded : Coded the_row.Denot
kept_coded = the_row.coded
