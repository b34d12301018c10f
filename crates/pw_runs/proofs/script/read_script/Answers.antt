use Rattle.pw_base.specs.Seen.{files_seen}
use Rattle.pw_runs.proofs.Cuts.{held_why, held_if}
use Rattle.pw_runs.proofs.script.read_script.Goals as goal

pub returns-in-Ok-clause-held : goal.returns-in-Ok-clause-held
returns-in-Ok-clause-held g c =
    let read = rw c.deref.ensures.value at c.script_of.ensures.script in
    held_if c.args.plan.now c.args.step c.in-Ok.bytes.items (g.F.Files.told c.args.files.now) (g.F.Files.holds c.args.files.now c.args.name.now) c.script_of.result c.in-Ok.ensures.content read

pub returns-in-Ok-clause-missing : goal.returns-in-Ok-clause-missing
returns-in-Ok-clause-missing g c =
    let none = rw c.deref.ensures.value at c.script_of.ensures.none in
    held_why c.args.plan.now c.args.step c.in-Ok.bytes.items (files_seen g.F.Files c.args.files.now) (files_seen g.F.Files c.read_all.new.files) c.args.name.now c.script_of.result
    c.in-Ok.ensures.content none
