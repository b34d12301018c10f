use Rattle.std.proofs.Common.{List, ◌∷◌, [], ◌∙◌, ap}
use Rattle.acpi_values.specs.declared.operation.Chain.{Chain}
use Rattle.acpi_values.specs.declared.operation.Op.{Op}
use Rattle.pw_plan.specs.Requests.{cpu_of}
use Rattle.pw_model.specs.declared.reply.Reply.TheVariants.{Entered}
use Rattle.pw_model.specs.Answers.{chain_of}
use Rattle.pw_model.proofs.Accepting.{idle_from}
use Rattle.pw_domain.specs.Groups.{group_part}
use Rattle.pw_walker.proofs.Groups.{level_is, member_below, member_may, ops_are}
use Rattle.pw_core.proofs.Drawing.{with_more}
use Rattle.pw_walker.proofs.grouping.vote_on.Goals as goal

pub vote_ops-level-requires-clause-place : goal.vote_ops-level-requires-clause-place
vote_ops-level-requires-clause-place c =
    member_below c.args.plan.now (cpu_of c.args.request.now) c.requires.within c.args.held.now.group c.args.member c.requires.of.number c.requires.member

pub vote_ops-level-requires-clause-state : goal.vote_ops-level-requires-clause-state
vote_ops-level-requires-clause-state c =
    let P = c.args.plan.now in
    let within = rw c.in-Idle.is at c.requires.within in
    let number = rw c.in-Idle.is at c.requires.of.number in
    let member = rw c.in-Idle.is at c.requires.member in
    let accepted = rw c.in-Idle.is at c.requires.accepted in
    let may = idle_from P c.in-Idle.cpu c.in-Idle.state c.in-Idle.tolerance accepted in
    member_may P c.in-Idle.cpu within c.args.held.now.group c.args.member number member c.in-Idle.state may.within

pub vote-level-requires-clause-place : goal.vote-level-requires-clause-place
vote-level-requires-clause-place c =
    member_below c.args.plan.now (cpu_of c.args.request.now) c.requires.within c.args.held.now.group c.args.member c.requires.of.number c.requires.member

pub returns-in-Idle-clause-reply : goal.returns-in-Idle-clause-reply
returns-in-Idle-clause-reply c =
    let P = c.args.plan.now in
    let within = rw c.in-Idle.is at c.requires.within in
    let number = rw c.in-Idle.is at c.requires.of.number in
    let member = rw c.in-Idle.is at c.requires.member in
    let level = level_is P c.in-Idle.cpu within c.args.held.now.group c.args.member number member c.in-Idle.state
    (group_part c.args.held.now) (group_part c.vote_ops-level.new.self) c.vote_ops-level.ensures.part
    c.vote_ops-level.new.self.group (c.vote_ops-level.ensures.group ∙ number) in
    rw c.in-Idle.is (ap (λ (x : Chain). Entered x) c.chain_of_one.ensures
    ∙ ap (λ l. Entered (chain_of (l ∷ []))) (c.vote_ops-level.ensures.c_state ∙ level))

pub returns-in-Idle-clause-list : goal.returns-in-Idle-clause-list
returns-in-Idle-clause-list c =
    let P = c.args.plan.now in
    let within = rw c.in-Idle.is at c.requires.within in
    let number = rw c.in-Idle.is at c.requires.of.number in
    let member = rw c.in-Idle.is at c.requires.member in
    let ops = ops_are P c.in-Idle.cpu within c.args.held.now.group c.args.member number member c.in-Idle.state
    (group_part c.args.held.now) (group_part c.vote_ops-level.new.self) c.vote_ops-level.ensures.part in
    rw c.in-Idle.is (c.vote_ops-level.ensures.list ∙ ap (λ (xs : List Op). with_more c.args.ops.now xs) ops)
