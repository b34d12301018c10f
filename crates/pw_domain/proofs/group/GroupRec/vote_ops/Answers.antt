use Rattle.std.proofs.Common.{◌≡◌, get_or, set, ap, ◌∙◌}
use Rattle.pw_plan.specs.declared.domain.Group.{Group}
use Rattle.pw_model.specs.Effects.{enter_c}
use Rattle.pw_plan.specs.Places.{group_at}
use Rattle.pw_domain.proofs.Groups.{c_state_le, drawn_room, states_set}
use Rattle.pw_domain.proofs.group.GroupRec.vote_ops.Goals as goal

pub enter_own-requires-clause-level : goal.enter_own-requires-clause-level
enter_own-requires-clause-level c =
    let P = c.args.plan.now in
    let g = c.args.self.now.group in
    let ms = c.as_slice-members.result.now in
    let are : ms ≡ (group_at P g).members = c.as_slice-members.ensures ∙ ap (λ (g : Group). g.members) c.group.ensures in
    let le = c_state_le P g (set c.args.self.now.states c.args.member c.args.state) c.args.member
    (states_set P g c.args.self.now.states c.args.member c.args.state c.requires.of.holds c.requires.place c.requires.state) c.requires.place in
    rw (c.c_state_in-after.ensures, c.as_slice.ensures, are) le

pub draw_along-requires-clause-room : goal.draw_along-requires-clause-room
draw_along-requires-clause-room c =
    drawn_room c.args.plan.now c.args.self.now.group c.as_slice-2.result.now c.args.member c.args.state c.c_state_in-after.result
    (enter_c c.args.plan.now (get_or c.as_slice-members.result.now c.args.member 0) c.c_state_in-after.result) c.args.ops.now c.enter_own.new.ops c.as_slice-members.result.now
    c.requires.place c.requires.room (c.as_slice-members.ensures ∙ ap (λ (g : Group). g.members) c.group.ensures) c.enter_own.ensures
