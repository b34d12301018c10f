use Rattle.std.proofs.Common.{◌<◌, ◌≡◌, length}
use Rattle.std.proofs.lemmas.Result.{IfOk-weaker}
use Rattle.std.specs.Prelude.{option_map, IfSome}
use Rattle.pw_text.specs.Forms.{name_of}
use Rattle.pw_text.specs.Looking.{IsFound}
use Rattle.pw_text.proofs.Leading.{found_exists, found_named}
use Rattle.pw_cppc_drive.specs.Forms.{cpu_named, segs_of}
use Rattle.pw_cppc_drive.proofs.index.find.Goals as goal

pub returns-clause-named : goal.returns-clause-named
returns-clause-named c =
    let P = c.args.plan.now in let I = c.args.index.now in let text = c.args.path.now in
    IfOk-weaker c.find.result (IsFound I text) (λ found. found ≡ option_map (cpu_named P) (name_of text))
    (λ found is. found_named segs_of P.paths I text found c.requires is) c.find.ensures

pub returns-clause-exists : goal.returns-clause-exists
returns-clause-exists c =
    let P = c.args.plan.now in let I = c.args.index.now in let text = c.args.path.now in
    IfOk-weaker c.find.result (IsFound I text) (λ found. IfSome found (λ some. IfSome some (λ p. p < length P.cpus)))
    (λ found is. rw P.planned.paths_are at (found_exists segs_of P.paths I text found c.requires is)) c.find.ensures
