use Rattle.acpi_space.proofs.Lookups.{objects_answer}
use Rattle.pw_base.proofs.Facts.{if_ok}
use Rattle.acpi_space.proofs.space.Space.labels_around.Goals as goal

pub returns : goal.returns
returns c = if_ok c.at_objects.result (λ r is.
    objects_answer c.self.inside.tree c.self.inside.placed.items c.as_slice.result.now c.as_slice-3.result.now c.self.inside.index.items c.args.self.now c.args.labels.now
    c.in_ok-around.around.items c.as_slice-4.result.now r.items c.self.invariant c.self.view_is c.as_slice.ensures.value c.as_slice-3.ensures.value c.as_slice-4.ensures.value
    c.in_ok-around.ensures.each is) c.at_objects.ensures
