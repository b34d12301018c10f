use Rattle.std.proofs.Common.{◌+◌, ◌<◌, ◌≤◌, add-one, ap, arith, drop, length, take_all}
use Rattle.std.specs.List.{flat_map}
use Rattle.pw_text.proofs.Putting.{PutsText-as, PutsText-stop, PutsText-then}
use Rattle.pw_check.specs.CheckText.{note_line}
use Rattle.pw_text.proofs.Joined.{flat_map-in_parts, flat_map-take-suc}
use Rattle.pw_check.proofs.noting.put_notes.Goals as goal

pub returns-in_err-put_note : goal.returns-in_err-put_note
returns-in_err-put_note g c =
    let all = c.args.notes.now in
    let at = c.loop-note.note-index in
    let inside : at < length all = omega arith in
    let text = note_line in
    PutsText-as (flat_map text all) (flat_map-in_parts text at all c.note-item.result inside c.note-item.is)
    (PutsText-stop (flat_map text (drop (at + 1) all)) c.from_residual.result c.from_residual.ensures.0
    (PutsText-then c.loop-note.invariant c.in_err-put_note.ensures))

pub loop-note-preserved : goal.loop-note-preserved
loop-note-preserved g c =
    let all = c.args.notes.now in
    let at = c.loop-note.note-index in
    let inside : at < length all = omega arith in
    let text = note_line in
    rw (add-one, flat_map-take-suc text at all c.note-item.result inside c.note-item.is)
    (PutsText-then c.loop-note.invariant c.in_ok-put_note.ensures)

pub returns : goal.returns
returns g c =
    let all = c.args.notes.now in
    let at = c.loop-note.note-index in
    let past : length all ≤ at = omega arith in
    let text = note_line in
    PutsText-as (flat_map text all) (ap (flat_map text) (take_all at all past)) c.loop-note.invariant
