use Rattle.std.proofs.Common.{◌<◌, ◌∙◌, ◌++◌, ◌∷◌, [], length, sym, ap, arith}
use Rattle.acpi_build.specs.Finding.{is_container}
use Rattle.acpi_build.proofs.Orders.{filter_yes, filter_no, all_push}
use Rattle.acpi_build.proofs.finding.unsorted.Goals as goal
use Rattle.acpi_build.proofs.finding.unsorted.Goals.{then-is_container_device+in_ok-push, else-is_container_device}

pub loop-number-preserved : goal.loop-number-preserved
loop-number-preserved c =
    let p = is_container c.args.space.now in
    let n = c.loop-number.number in
    let here : n < length c.args.space.now = omega (arith, c.loop-number-test.true, c.count-number-end.ensures) in
    elim c.if-is_container_device.branch [
      | then-is_container_device+in_ok-push w ↦ record {
        order = ap (λ v. v.items) w.found-is ∙ w.in_ok-push.ensures.items ∙ ap (λ xs. xs ++ n ∷ []) c.loop-number.invariant.order
            ∙ sym (filter_yes p n (sym w.if-is_container_device.true ∙ c.is_container_device.ensures));
        within = rw (w.found-is, w.in_ok-push.ensures.items) (all_push (λ k. k < length c.args.space.now) c.loop-number.found.items n c.loop-number.invariant.within here);
      }
      | else-is_container_device w ↦ record {
        order = ap (λ v. v.items) w.found-is ∙ c.loop-number.invariant.order ∙ sym (filter_no p n (sym w.if-is_container_device.false ∙ c.is_container_device.ensures));
        within = rw w.found-is c.loop-number.invariant.within;
      }
    ]
