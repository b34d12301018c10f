use Rattle.std.proofs.Common.{◌≡◌, ◌∙◌, length, map, ap}
use Rattle.std.specs.Prelude.{position, nat_eq}
use Rattle.std.specs.List.{range_with_len}
use Rattle.std.specs.Option.{option_map}
use Rattle.std.proofs.lemmas.List.FromFn.{length-map-range_with_len}
use Rattle.pw_plan.specs.Limits.{in_32_bits}
use Rattle.acpi_build.specs.Finding.{containers_of}
use Rattle.acpi_build.specs.inner.Labels.{container_labels}
use Rattle.acpi_build.proofs.Labelled.{are_parents}
use Rattle.pw_base.proofs.Facts.{if_ok}
use Rattle.acpi_build.proofs.finding.parents.Goals as goal

pub labels_around-requires : goal.labels_around-requires
labels_around-requires c =
    ap length (c.as_slice.ensures.value ∙ c.in_ok-labels.ensures)
    ∙ length-map-range_with_len (λ k. option_map in_32_bits (position (nat_eq k) c.args.order.now)) 0 c.count.result ∙ c.count.ensures

pub returns : goal.returns
unfolding container_labels
returns c =
    let space = c.args.space.now in
    let known : c.as_slice.result.now ≡ container_labels space (containers_of space) = c.as_slice.ensures.value ∙ c.in_ok-labels.ensures
    ∙ ap (λ cs. map (λ k. option_map in_32_bits (position (nat_eq k) cs)) (range_with_len 0 c.count.result)) c.requires.order
    ∙ ap (λ n. map (λ k. option_map in_32_bits (position (nat_eq k) (containers_of space))) (range_with_len 0 n)) c.count.ensures in
    if_ok c.labels_around.result (λ r is. are_parents space c.as_slice.result.now r.items c.placed-objects.ensures.distinct known is) c.labels_around.ensures
