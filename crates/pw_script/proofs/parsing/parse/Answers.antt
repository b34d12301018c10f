use Rattle.std.proofs.Common.{[]}
use Rattle.pw_text.specs.Fields.{lines_of}
use Rattle.pw_script.proofs.Askable.{lines_asked}
use Rattle.pw_script.proofs.parsing.parse.Goals as goal

pub returns-clause-asked : goal.returns-clause-asked
returns-clause-asked g c =
    let handlers = c.args.handlers.now in
    rw c.from_vec.ensures (lines_asked c.args.plan.now (goal.F-post g c.args.governor.now) (goal.P-pre g handlers.0) (goal.T-pre g handlers.1) (goal.P-post g handlers.0) (goal.T-post g handlers.1)
    c.requires.perf c.requires.throttle [] 1 (lines_of c.args.bytes.now) c.in_ok-lines.lines.items c.in_ok-lines.ensures.read)
