use Rattle.std.proofs.Common.{true, take}
use Rattle.std.specs.List.{flat_map}
use Rattle.pw_text.specs.Puts.{PutsText}
use Rattle.pw_check.specs.CheckText.{note_line}
use Rattle.pw_check.proofs.noting.put_notes.Given as goal

abbrev pub invariant-loop-note : goal.invariant-loop-note
invariant-loop-note g l =
    PutsText g.K.Sink l.initial.sink l.sink l.initial.page l.page (flat_map (note_line) (take l.note-index l.notes)) true
