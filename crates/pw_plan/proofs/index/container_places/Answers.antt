use Rattle.std.proofs.Common.{length, ap, ◌∙◌}
use Rattle.pw_plan.specs.declared.domain.Child.TheVariants.{Container}
use Rattle.pw_plan.specs.declared.parts.ContainerParts.{ContainerParts}
use Rattle.pw_plan.specs.Index.{child_place, container_place, container_places}
use Rattle.pw_plan.proofs.Ranges.{pushed_map}
use Rattle.pw_plan.proofs.index.container_places.Goals as goal

pub loop-number-preserved : goal.loop-number-preserved
loop-number-preserved c =
    rw c.in_ok-push.ensures.items (pushed_map c.loop-number.places.items (container_places c.args.children.now c.args.containers.now)
    c.loop-number.number (length c.args.containers.now) c.loop-number-test.true (container_place c.args.children.now c.args.containers.now)
    c.child_place.result (c.child_place.ensures ∙ ap (λ (x : ContainerParts). child_place c.args.children.now x.parent (Container c.loop-number.number)) c.container_in.ensures)
    c.loop-number.invariant)
