use Rattle.std.proofs.Common.{◌∙◌, ◌++◌, ◌∷◌, [], sym, ap}
use Rattle.acpi_build.specs.Finding.{is_processor}
use Rattle.acpi_build.proofs.Orders.{filter_yes, filter_no}
use Rattle.acpi_build.proofs.finding.processors.Goals as goal
use Rattle.acpi_build.proofs.finding.processors.Goals.{then-is_processor_object+in_ok-push, else-is_processor_object}

pub loop-number-preserved : goal.loop-number-preserved
loop-number-preserved c =
    let p = is_processor c.args.space.now in
    let n = c.loop-number.number in
    elim c.if-is_processor_object.branch [
      | then-is_processor_object+in_ok-push w ↦
          ap (λ v. v.items) w.found-is ∙ w.in_ok-push.ensures.items ∙ ap (λ xs. xs ++ n ∷ []) c.loop-number.invariant
          ∙ sym (filter_yes p n (sym w.if-is_processor_object.true ∙ c.is_processor_object.ensures))
      | else-is_processor_object w ↦
          ap (λ v. v.items) w.found-is ∙ c.loop-number.invariant ∙ sym (filter_no p n (sym w.if-is_processor_object.false ∙ c.is_processor_object.ensures))
    ]
