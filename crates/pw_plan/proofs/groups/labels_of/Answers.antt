use Rattle.std.proofs.Common.{◌≡◌, ◌++◌, ap, sym, ◌∙◌, append_assoc, append-nil, length}
use Rattle.std.proofs.lemmas.List.FromFn.{length-range_with_len}
use Rattle.std.specs.List.{range_with_len}
use Rattle.pw_plan.specs.Groups.{labels_after}
use Rattle.pw_plan.proofs.Ranges.{range_next, range_end}
use Rattle.pw_plan.proofs.groups.labels_of.Goals as goal

pub loop-cpu-preserved : goal.loop-cpu-preserved
loop-cpu-preserved c =
    rw (c.in_ok-push.ensures.items, append_assoc) (ap (λ r. c.loop-cpu.labels.items ++ r) (sym (range_next c.loop-cpu.cpu c.args.count c.loop-cpu-test.true)) ∙ c.loop-cpu.invariant)

pub loop-domain-init : goal.loop-domain-init
loop-domain-init c =
    let all : c.loop-cpu.labels.items ≡ range_with_len 0 c.args.count =
    sym (append-nil c.loop-cpu.labels.items) ∙ ap (λ r. c.loop-cpu.labels.items ++ r) (sym (range_end c.loop-cpu.cpu c.args.count c.loop-cpu-test.false)) ∙ c.loop-cpu.invariant in
    record {
      size = ap length all ∙ length-range_with_len 0 c.args.count;
      rest = ap (labels_after c.args.domains.now) all;
    }
