use Rattle.std.proofs.Common.{◌++◌, ◌+◌, ◌*◌, map}
use Rattle.pw_plan.proofs.Ranges.{pushed_map}
use Rattle.pw_generate.specs.Machines.{container_objects, cpu_term, cpus_of}
use Rattle.pw_generate.proofs.block.make_container.Goals as goal

pub loop-cpu-preserved : goal.loop-cpu-preserved
loop-cpu-preserved c =
    rw c.in_ok-push.ensures.items (pushed_map c.loop-cpu.terms.items (container_objects ++ map (cpu_term c.args.container) (cpus_of c.args.container))
    c.loop-cpu.cpu (8 * c.args.container + 8) c.loop-cpu-test.true (cpu_term c.args.container) c.in_ok-make_cpu.field-0 c.in_ok-make_cpu.ensures c.loop-cpu.invariant)
