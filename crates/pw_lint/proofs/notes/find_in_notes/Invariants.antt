use Rattle.std.proofs.Common.{◌≡◌, ◌++◌, take}
use Rattle.std.specs.List.{flat_map}
use Rattle.pw_lint.specs.Notes.{note_findings}
use Rattle.pw_lint.proofs.notes.find_in_notes.Given as goal

abbrev pub invariant-loop-note : goal.invariant-loop-note
invariant-loop-note l = l.found.items ≡ l.initial.found.items ++ flat_map note_findings (take l.note-index l.notes)
