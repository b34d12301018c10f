use Rattle.std.proofs.Common.{◌∙◌, arith}
use Rattle.acpi_fields.proofs.RowLists.{rows_step}
use Rattle.acpi_fields.proofs.rows.rows_from.Goals as goal

pub loop-object-preserved : goal.loop-object-preserved
loop-object-preserved g c =
    let before = c.loop-object in
    record {
      place = omega (arith, before.invariant.place);
      rows = λ row reads.
          let step = rows_step row before.rows.items before.outer before.object-index c.in_ok-read.field-0 c.object-item.result c.args.objects.now
          c.loop-object-test.true c.object-item.is (reads _ _ _ c.in_ok-read.ensures) in
          rw c.in_ok-push.ensures.items (step ∙ before.invariant.rows row reads);
    }
