use Rattle.std.proofs.Common.{◌<◌, ◌∙◌, ap, length, refl, subst, sym}
use Rattle.pw_plan.specs.Places.{group_at, group_of}
use Rattle.pw_plan.specs.Requests.{cpu_of}
use Rattle.pw_model.specs.Calls.{with_state}
use Rattle.pw_model.specs.Effects.{member_place}
use Rattle.pw_domain.specs.Groups.{group_part}
use Rattle.pw_machine.specs.Standing.{own_vote}
use Rattle.pw_walker.specs.Records.{IsGroup}
use Rattle.pw_walker.proofs.Beginnings.{at_group}
use Rattle.pw_walker.proofs.Groups.{left_is, member_below}
use Rattle.pw_walker.proofs.Undoing.{state_stands, state_undone}
use Rattle.pw_walker.proofs.grouping.step_group.Goals as goal

pub own_vote-requires : goal.own_vote-requires
own_vote-requires c =
    let P = c.args.plan.now in
    let q = c.args.request.now in
    let g = c.args.held.now.group in
    let at = at_group P q g c.requires.place.stands.0.1 in
    let within : group_of P (cpu_of q) < length P.groups = subst (λ h. h < length P.groups) at.1 c.requires.place.stands.1 in
    let member = c.member_of-member.ensures ∙ ap (λ p. member_place (group_at P (group_of P p)).members p) c.cpu.ensures in
    let below = member_below P (cpu_of q) within g c.member_of-member.result at.1 member in
    subst (λ n. c.member_of-member.result < n) (sym c.requires.of.holds.members) below

pub returns-clause-old : goal.returns-clause-old
returns-clause-old c =
    let P = c.args.plan.now in
    let q = c.args.request.now in
    let held = c.args.held.now in
    let g = held.group in
    let k = c.member_of-member.result in
    let s = (own_vote q).state in
    let at = at_group P q g c.requires.place.stands.0.1 in
    let within : group_of P (cpu_of q) < length P.groups = subst (λ h. h < length P.groups) at.1 c.requires.place.stands.1 in
    let member = c.member_of-member.ensures ∙ ap (λ p. member_place (group_at P (group_of P p)).members p) c.cpu.ensures in
    let is : IsGroup P g held = record { of = c.requires.of; number = refl } in
    let new = group_part c.vote_on-reply.new.held in
    let made = c.vote_on-reply.ensures.part ∙ left_is P q (group_of P (cpu_of q)) (group_part held) at.0 ∙ ap (λ j. with_state j s (group_part held)) (sym member) in
    record {
      fits = rw c.own_vote.ensures (state_stands P g k held is (member_below P (cpu_of q) within g k at.1 member));
      back = ap (λ i. with_state k i new) c.own_vote.ensures ∙ state_undone held.states k s new made;
    }
