-- A full place and the parts of a box own what the box at the same types owns.
use mathlib.Core.List.{[]}
use mir.Syntax.{impl, tnil, dnil}
use denote.Signature.{Slot, plain}
use Rattle.std_alloc.proofs.BoxSteps.Form.{Bx}
use Rattle.std_heap.specs.contracts.Global as Heap
use Rattle.std_heap.specs.contracts.GlobalAllocator.TheImpl.{ghosts, dict}
use Rattle.std_heap.proofs.Global.TheLaws as heap
use Rattle.pw_handles.specs.contracts.kept.Kept as Thing
use Rattle.pw_handles.proofs.kept.Kept.TheLaws as thing
use Rattle.pw_handles.specs.contracts.parts.Parts as Parts
use Rattle.pw_handles.specs.contracts.place.Place as Place

abbrev pub E : Bx
E = record { row = Thing.the_row; laws = thing.the_row_laws; al = record { row = Heap.the_row; laws = heap.the_row_laws; g = ghosts; d = dict; drops = impl [] tnil dnil } }

abbrev pub FromParts : Slot 0
FromParts = plain (λ _. Parts.the_row Thing.the_row Heap.the_row ghosts)

abbrev pub FromPlace : Slot 0
FromPlace = plain (λ _. Place.the_row)

abbrev pub FromHeap : Slot 0
FromHeap = plain (λ _. Heap.the_row)
