use Rattle.std.specs.Prelude.{Result, Ok, Err, IfOk}
use Rattle.std.proofs.Common.{◌∙◌, sym, subst}
use Rattle.std.proofs.lemmas.List.{length-map}
use Rattle.pw_cppc.specs.Machine.{AreCppcParts}
use Rattle.pw_base.proofs.Facts.{if_ok}
use Rattle.pw_cppc.proofs.Apart.{machine_paths}
use Rattle.pw_cppc.proofs.planning.cppc_plan.Goals as goal

pub new-requires-clause-paths : goal.new-requires-clause-paths
new-requires-clause-paths c = rw c.in_ok-paths.ensures (length-map c.args.machine.now.cpus _ ∙ sym c.in_ok-cpus.ensures.count)

pub new-requires-clause-differ : goal.new-requires-clause-differ
new-requires-clause-differ c = rw c.in_ok-paths.ensures (machine_paths c.args.machine.now)

pub new-requires-clause-few : goal.new-requires-clause-few
new-requires-clause-few c = rw c.in_ok-cpus.ensures.count c.args.machine.now.sound.small.cpus

pub returns-clause-paths : goal.returns-clause-paths
returns-clause-paths c = rw c.in_ok-paths.ensures at c.new.ensures.paths

pub returns-clause-parts : goal.returns-clause-parts
returns-clause-parts c =
    if_ok c.new.result (λ plan same. subst (AreCppcParts c.args.space.now c.args.machine.now) (sym same) c.in_ok-cpus.ensures) c.new.ensures.cpus
