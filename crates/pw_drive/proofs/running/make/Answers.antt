use Rattle.std.proofs.lemmas.Result.{on_err_weaker}
use Rattle.pw_model.specs.History.{replay}
use Rattle.pw_machine.proofs.Plans.{legal_state}
use Rattle.pw_walker.specs.Places.{walk_of}
use Rattle.pw_drive.specs.Keeping.{part_in}
use Rattle.pw_drive.proofs.Requesting.{keeps_after}
use Rattle.pw_drive.proofs.Midway.{midway_first}
use Rattle.pw_drive.proofs.running.make.Goals as goal

pub make_from-requires-clause-midway : goal.make_from-requires-clause-midway
make_from-requires-clause-midway g c =
    let P = c.args.plan.now in
    let es = c.args.journal.now.entries in
    let stands = c.requires.stands in
    midway_first P (replay P es) c.args.request (legal_state P es stands.legal) c.requires.has (walk_of c.begin-place.result c.begin-place.new.ops.elements)
    (part_in c.args.records.now) c.begin-place.ensures.walk stands.keeps.told

pub returns-clause-keeps : goal.returns-clause-keeps
returns-clause-keeps g c =
    keeps_after c.args.plan.now c.args.journal.now.entries c.make_from.new.journal.entries c.args.records.now c.make_from.new.records c.make_from.result
    c.requires.stands.keeps c.make_from.ensures.stands c.make_from.ensures.undone

pub returns-clause-stopped : goal.returns-clause-stopped
returns-clause-stopped g c = on_err_weaker c.make_from.result (λ u. u.stopped) c.make_from.ensures.undone
