use Rattle.std.proofs.Common.{◌++◌, ap, ◌∙◌, List, ◌∷◌, []}
use Rattle.acpi_values.specs.declared.operation.Op.{Op}
use Rattle.pw_base.specs.Room.{Bounded}
use Rattle.pw_core.proofs.Starting.{sets_all, sets_each, sets_first}
use Rattle.pw_core.proofs.opening.open_domain.Goals as goal
use Rattle.pw_core.proofs.opening.open_domain.Goals.{in-Idle, in_default}
use Rattle.pw_core.proofs.Drawing.{with_more}

pub returns-in-SwAll : goal.returns-in-SwAll
unfolding with_more
returns-in-SwAll c = elim c.match-matches.branch [
  | in-Idle w ↦ cc
  | in_default w ↦
      c.set_each.ensures ∙ ap (with_more c.args.ops.now) (sets_all c.args.plan.now c.args.place c.domain-domain.result.now c.as_slice-members.result.now c.requires.place c.domain-domain.ensures
      c.as_slice-members.ensures w.in_default.not-Idle c.if-domain-gt0.false c.slowest_limit.result c.in-SwAll.is c.slowest_limit.ensures)
]

pub returns-in-Some : goal.returns-in-Some
unfolding with_more
returns-in-Some c = elim c.match-matches.branch [
  | in-Idle w ↦ cc
  | in_default w ↦
      c.push.ensures ∙ ap (λ op. with_more c.args.ops.now (op ∷ [])) c.set_on.ensures
      ∙ ap (with_more c.args.ops.now) (sets_first c.args.plan.now c.args.place c.domain-domain.result.now c.as_slice-members.result.now c.requires.place c.domain-domain.ensures
      c.as_slice-members.ensures w.in_default.not-Idle c.if-domain-gt0.false c.in-Some.first.now c.slowest_limit-in-Some.result c.in-SwAny.is c.in-Some.ensures.value c.slowest_limit-in-Some.ensures)
]

pub returns-in-HwAll : goal.returns-in-HwAll
unfolding with_more
returns-in-HwAll c = elim c.match-matches.branch [
  | in-Idle w ↦ cc
  | in_default w ↦
      c.open_each.ensures ∙ ap (with_more c.args.ops.now) (sets_each c.args.plan.now c.args.place c.domain-domain.result.now c.as_slice-members.result.now c.requires.place c.domain-domain.ensures
      c.as_slice-members.ensures w.in_default.not-Idle c.if-domain-gt0.false c.in-HwAll.is)
]
