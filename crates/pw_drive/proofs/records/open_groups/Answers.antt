use Rattle.std.proofs.Common.{◌+◌, ◌∷◌, [], ◌∙◌, ap, length, length-append, arith}
use Rattle.pw_drive.specs.Keeping.{OpensGroup, no_group_record}
use Rattle.pw_walker.proofs.Scaled.{groups_few}
use Rattle.pw_drive.proofs.Places.{placed_more}
use Rattle.pw_drive.proofs.records.open_groups.Goals as goal

pub loop-group-preserved : goal.loop-group-preserved
loop-group-preserved c =
    let P = c.args.plan.now in
    let i = c.loop-group.group in
    let held = c.loop-group.groups.items in
    let r = c.in_ok-open.field-0 in
    let opens : OpensGroup P i r = (record { of = c.in_ok-open.ensures.of; number = c.in_ok-open.ensures.group }, c.in_ok-open.ensures.part) in
    rw c.in_ok-push.ensures.items (record {
      count = length-append held (r ∷ []) ∙ ap (λ k. k + 1) c.loop-group.invariant.count;
      each = placed_more (OpensGroup P) no_group_record held r i c.loop-group.invariant.count c.loop-group.invariant.each opens;
    })

pub overflow_cast-group : goal.overflow_cast-group
overflow_cast-group c =
    let few = groups_few c.args.plan.now in
    omega (arith, few, c.loop-group-test.true, ap length c.as_slice-group-end.ensures)
