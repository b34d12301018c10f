use Rattle.std.proofs.Common.{◌<◌, ◌++◌, ◌∙◌, ap, arith, length}
use Rattle.pw_lint.specs.Notes.{note_findings, of_object}
use Rattle.pw_findings.proofs.Added.{added_item}
use Rattle.pw_lint.proofs.notes.find_in_notes.Goals as goal

pub loop-note-preserved : goal.loop-note-preserved
loop-note-preserved c =
    let all = c.args.notes.now in
    let at = c.loop-note.note-index in
    let inside : at < length all = omega arith in
    added_item note_findings at all c.note-item.result c.args.found.now.items c.loop-note.found.items
    c.find_unused.new.found.items inside c.note-item.is c.loop-note.invariant
    (c.in_ok-find_unused.ensures ∙ ap (λ w. c.loop-note.found.items ++ of_object c.note-item.result.path w) c.noted_kind.ensures)
