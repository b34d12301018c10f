use Rattle.std.proofs.Common.{◌≡◌, ◌∙◌, ◌+◌, length, get_or, ap, sym}
use Rattle.std.specs.Prelude.{slice_index}
use Rattle.std.proofs.lemmas.List.{get_or_default, length_push}
use Rattle.pw_plan.specs.Parts.{no_container}
use Rattle.acpi_build.specs.Finding.{parent_of}
use Rattle.acpi_build.specs.Machine.{container_parts}
use Rattle.acpi_build.specs.inner.Answers.{remarks_in}
use Rattle.acpi_build.proofs.Each.{each_step, index_push}
use Rattle.acpi_build.proofs.machine.read_containers.Goals as goal

pub loop-index-preserved : goal.loop-index-preserved
loop-index-preserved c =
    let before = c.loop-index in
    let space = c.args.space.now in
    let order = c.args.order.now in
    let front = before.containers.items in
    let y = c.in_ok-container.container in
    let i = before.index-index in
    let step = each_step (container_parts space) front order i (get_or order i 0) y (remarks_in before.said) (remarks_in c.read_container.new.said) c.loop-index-test.true
    (get_or_default order i 0 (get_or order i 0) c.loop-index-test.true) c.in_ok-container.ensures.value in
    record {
      value = rw c.in_ok-push.ensures.items (step ∙ before.invariant.value);
      count = ap length c.in_ok-push.ensures.items ∙ length_push front y ∙ ap (λ n. n + 1) before.invariant.count;
      parents = rw c.in_ok-push.ensures.items (index_push (λ n c'. c'.parent ≡ parent_of space (slice_index order n)) front y no_container before.invariant.parents
          (c.in_ok-container.ensures.parent ∙ c.requires.parents.each (get_or order i 0) (c.requires.within i 0 c.loop-index-test.true) ∙ ap
          (λ n. parent_of space (slice_index order n)) (sym before.invariant.count)));
    }
