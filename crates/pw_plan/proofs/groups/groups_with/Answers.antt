use Rattle.std.proofs.Common.{length, sym, ◌∙◌}
use Rattle.pw_plan.specs.Groups.{group_with, groups_by, leads_group}
use Rattle.pw_plan.proofs.Ranges.{pushed_filter, passed_filter}
use Rattle.pw_plan.proofs.groups.groups_with.Goals as goal
use Rattle.pw_plan.proofs.groups.groups_with.Goals.{then-leads_group+in_ok-group_with+in_ok-push, else-leads_group}

pub loop-cpu-preserved : goal.loop-cpu-preserved
loop-cpu-preserved c =
    let ds = c.args.domains.now in
    let ls = c.args.labels.now in
    elim c.if-leads_group.branch [
      | then-leads_group+in_ok-group_with+in_ok-push w ↦
          rw (w.groups-is, w.in_ok-push.ensures.items) (pushed_filter c.loop-cpu.groups.items (groups_by ds ls (length ls)) c.loop-cpu.cpu (length ls) c.loop-cpu-test.true
          (group_with ls) (leads_group ds ls) w.in_ok-group_with.field-0 w.in_ok-group_with.ensures (sym c.leads_group.ensures ∙ w.if-leads_group.true) c.loop-cpu.invariant)
      | else-leads_group w ↦
          rw w.groups-is (passed_filter c.loop-cpu.groups.items (groups_by ds ls (length ls)) c.loop-cpu.cpu (length ls) c.loop-cpu-test.true
          (group_with ls) (leads_group ds ls) (sym c.leads_group.ensures ∙ w.if-leads_group.false) c.loop-cpu.invariant)
    ]
