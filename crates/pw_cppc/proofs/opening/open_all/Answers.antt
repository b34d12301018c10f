use Rattle.std.proofs.Common.{◌≡◌, ◌<◌, ◌-◌, ◌++◌, length, length-append, ap, ◌∙◌, arith, refl}
use Rattle.std.specs.List.{flat_map, range_with_len}
use Rattle.std.proofs.lemmas.List.Sums.{sum_by-drop_more}
use Rattle.acpi_values.specs.declared.operation.Op.{Op}
use Rattle.pw_base.specs.Room.{Bounded}
use Rattle.pw_plan.proofs.Ranges.{pushed_flat_map}
use Rattle.pw_cppc.specs.Requests.{opening_count}
use Rattle.pw_cppc.specs.Sound.{no_domain}
use Rattle.pw_cppc.specs.Operations.{opening_ops, opening_ops_of}
use Rattle.pw_cppc.proofs.Counting.{opening_of_length}
use Rattle.pw_cppc.proofs.opening.open_all.Goals as goal

pub loop-place-init : goal.loop-place-init
unfolding opening_ops
loop-place-init c =
    let whole : length c.args.plan.now.domains - 0 ≡ length c.args.plan.now.domains = omega arith in
    record {
      list = ap (λ n. c.args.ops.now.elements ++ flat_map (opening_ops_of c.args.plan.now) (range_with_len 0 n)) whole;
      room = c.requires;
      capacity = refl;
    }

pub open_domain-requires-clause-room : goal.open_domain-requires-clause-room
open_domain-requires-clause-room c =
    let P = c.args.plan.now in
    let d = c.loop-place.place in
    let lt : d < length P.domains = rw (← c.as_slice-place-end.ensures) c.loop-place-test.true in
    let later = sum_by-drop_more (opening_count P) P.domains d no_domain lt in
    let room = c.loop-place.invariant.room in
    omega (arith, later, room)

pub loop-place-preserved : goal.loop-place-preserved
loop-place-preserved c =
    let P = c.args.plan.now in
    let d = c.loop-place.place in
    let lt : d < length P.domains = rw (← c.as_slice-place-end.ensures) c.loop-place-test.true in
    let pushed : c.open_domain.new.ops.elements ≡ c.loop-place.ops.elements ++ opening_ops_of P d = ap (λ (ops : Bounded Op). ops.elements) c.open_domain.ensures in
    let same : c.open_domain.new.ops.capacity ≡ c.loop-place.ops.capacity = ap (λ (ops : Bounded Op). ops.capacity) c.open_domain.ensures in
    let more = length-append c.loop-place.ops.elements (opening_ops_of P d) in
    let count = opening_of_length P d lt in
    let later = sum_by-drop_more (opening_count P) P.domains d no_domain lt in
    let room = c.loop-place.invariant.room in
    record {
      list = rw pushed (pushed_flat_map c.loop-place.ops.elements (c.args.ops.now.elements ++ opening_ops P) d (length P.domains) lt (opening_ops_of P) c.loop-place.invariant.list);
      room = rw (pushed, same) (omega (arith, more, count, later, room));
      capacity = same ∙ c.loop-place.invariant.capacity;
    }
