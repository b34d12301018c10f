use Rattle.std.proofs.Common.{length, ap, ◌∙◌}
use Rattle.pw_plan.specs.declared.parts.CpuParts.{CpuParts}
use Rattle.pw_plan.specs.Index.{cpu_index, cpu_indices, index_under}
use Rattle.pw_plan.proofs.Ranges.{pushed_map}
use Rattle.pw_plan.proofs.index.cpu_indices.Goals as goal

pub loop-number-preserved : goal.loop-number-preserved
loop-number-preserved c =
    rw c.in_ok-push.ensures.items (pushed_map c.loop-number.indices.items (cpu_indices c.args.children.now c.args.cpus.now c.args.domains.now c.args.groups.now)
    c.loop-number.number (length c.args.cpus.now) c.loop-number-test.true (cpu_index c.args.children.now c.args.cpus.now c.args.domains.now c.args.groups.now)
    c.in_ok-cpu_index.field-0 (c.in_ok-cpu_index.ensures ∙ ap (λ (x : CpuParts). index_under c.args.children.now x.parent c.args.domains.now c.args.groups.now c.loop-number.number) c.cpu_in.ensures)
    c.loop-number.invariant)
