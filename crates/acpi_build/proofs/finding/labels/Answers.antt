use Rattle.std.proofs.Common.{◌≡◌, ◌∙◌, None, ap, take}
use Rattle.std.specs.Prelude.{position, nat_eq}
use Rattle.std.specs.Option.{option_map}
use Rattle.std.proofs.lemmas.List.{take_all}
use Rattle.std.proofs.lemmas.List.FromFn.{fill_by_all}
use Rattle.pw_plan.specs.Limits.{in_32_bits}
use Rattle.acpi_build.proofs.Orders.{labels_more}
use Rattle.acpi_build.proofs.finding.labels.Goals as goal

pub loop-number-preserved : goal.loop-number-preserved
loop-number-preserved c = record {
  many = c.put_label.ensures.many ∙ c.loop-number.invariant.many;
  each = λ q. labels_more in_32_bits c.args.order.now c.loop-number.number q _ _ c.loop-number-test.true (c.loop-number.invariant.each q) (c.put_label.ensures.each q);
}

pub returns : goal.returns
returns c =
    let all : take c.loop-number.number c.args.order.now ≡ c.args.order.now = take_all c.loop-number.number c.args.order.now c.loop-number-test.false in
    fill_by_all (λ k. option_map in_32_bits (position (nat_eq k) c.args.order.now)) c.loop-number.labels.items c.args.count None c.loop-number.invariant.many
    (λ k l. c.loop-number.invariant.each k ∙ ap (λ xs. option_map in_32_bits (position (nat_eq k) xs)) all)
