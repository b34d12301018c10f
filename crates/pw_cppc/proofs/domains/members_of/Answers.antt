use Rattle.std.proofs.Common.{length, sym, ◌∙◌}
use Rattle.pw_cppc.specs.Domains.{members_of, together}
use Rattle.pw_cppc.proofs.Kept.{pushed_kept, passed_kept}
use Rattle.pw_cppc.proofs.domains.members_of.Goals as goal
use Rattle.pw_cppc.proofs.domains.members_of.Goals.{then-together+in_ok-push, else-together}

pub loop-other-preserved : goal.loop-other-preserved
loop-other-preserved c =
    let ps = c.args.cpus.now in
    elim c.if-together.branch [
      | then-together+in_ok-push w ↦
          rw (w.members-is, w.in_ok-push.ensures.items) (pushed_kept c.loop-other.members.items (members_of ps c.args.cpu) c.loop-other.other (length ps) c.loop-other-test.true
          (together ps c.args.cpu) (sym c.together.ensures ∙ w.if-together.true) c.loop-other.invariant)
      | else-together w ↦
          rw w.members-is (passed_kept c.loop-other.members.items (members_of ps c.args.cpu) c.loop-other.other (length ps) c.loop-other-test.true
          (together ps c.args.cpu) (sym c.together.ensures ∙ w.if-together.false) c.loop-other.invariant)
    ]
