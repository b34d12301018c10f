use Rattle.std.proofs.Common.{map}
use Rattle.std.specs.List.{range_with_len}
use Rattle.pw_plan.proofs.Ranges.{pushed_map}
use Rattle.pw_generate.specs.Machines.{container_term}
use Rattle.pw_generate.proofs.block.make_containers.Goals as goal

pub loop-container-preserved : goal.loop-container-preserved
loop-container-preserved c =
    rw c.in_ok-push.ensures.items (pushed_map c.loop-container.terms.items (map container_term (range_with_len 0 c.args.n))
    c.loop-container.container c.args.n c.loop-container-test.true container_term c.in_ok-make_container.field-0 c.in_ok-make_container.ensures c.loop-container.invariant)
