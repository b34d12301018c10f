use Rattle.std.proofs.Common.{◌≤◌, ◌∷◌, [], length, length-append, take_all, arith}
use Rattle.acpi_fields.proofs.RowLists.{objects_step}
use Rattle.acpi_fields.proofs.rows.package_of.Goals as goal

pub loop-row-preserved : goal.loop-row-preserved
loop-row-preserved g c =
    let before = c.loop-row in
    let made = c.in_ok-make.field-0 in
    let more = length-append before.elements.items (made ∷ []) in
    record {
      count = rw c.in_ok-push.ensures.items (omega (arith, more, before.invariant.count));
      objects = λ object_of makes.
          rw c.in_ok-push.ensures.items
          (objects_step object_of c.args.front.items before.elements.items before.row-index c.row-item.result c.args.rows.now made
          c.loop-row-test.true c.row-item.is (makes _ _ c.in_ok-make.ensures) (before.invariant.objects object_of makes));
    }

pub returns : goal.returns
returns g c object_of makes =
    let at = c.loop-row in
    let past : length c.args.rows.now ≤ at.row-index = omega arith in
    rw (at.invariant.objects object_of makes, take_all at.row-index c.args.rows.now past) at c.package_object.ensures
