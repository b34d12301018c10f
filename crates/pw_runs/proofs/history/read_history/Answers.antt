use Rattle.std.proofs.Common.{map}
use Rattle.pw_base.specs.Seen.{files_seen}
use Rattle.pw_runs.proofs.Held.{held_if, held_why}
use Rattle.pw_runs.proofs.history.read_history.Goals as goal

pub returns-in-Ok-clause-held : goal.returns-in-Ok-clause-held
returns-in-Ok-clause-held g c =
    let is = rw c.deref.ensures.value at c.count_entries.ensures.whole in
    held_if g.T.Audited.words c.args.form c.args.plan.now (map g.T.Audited.ask c.args.lines.now) (files_seen g.F.Files c.args.files.now) (files_seen g.F.Files c.read_all.new.files) c.args.name.now
    c.in-Ok.bytes.items c.in-Ok.ensures.content c.count_entries.result is

pub returns-in-Ok-clause-unlawful : goal.returns-in-Ok-clause-unlawful
returns-in-Ok-clause-unlawful g c =
    let none = rw c.deref.ensures.value at c.count_entries.ensures.none in
    held_why g.T.Audited.words c.args.form c.args.plan.now (map g.T.Audited.ask c.args.lines.now) (files_seen g.F.Files c.args.files.now) (files_seen g.F.Files c.read_all.new.files) c.args.name.now
    c.in-Ok.bytes.items c.in-Ok.ensures.content c.count_entries.result none
