use Rattle.std.proofs.Common.{◌≡◌, ◌<◌, ◌==◌, ◌&&◌, ◌∷◌, ◌++◌, [], ℕ, true, false, not, List, length, get_or, set, ap, sym, ◌∙◌, append-nil}
use Rattle.std.specs.List.{list_any}
use Rattle.acpi_values.specs.declared.operation.Op.{Op}
use Rattle.pw_base.proofs.Facts.{subst2}
use Rattle.pw_plan.specs.declared.domain.Group.{Group}
use Rattle.pw_plan.specs.Places.{group_at}
use Rattle.pw_model.specs.Effects.{c_state_by, drawn_by, drawn_ops, enter_c}
use Rattle.pw_core.proofs.Drawing.{passed, pushed, room_passed, room_pushed}
use Rattle.pw_domain.specs.inner.Brought.{brought_by}
use Rattle.pw_domain.proofs.Groups.{c_state_le, nobody_drawn_by}
use Rattle.pw_domain.proofs.group.draw_along.Goals as goal
use Rattle.pw_domain.proofs.group.draw_along.Goals.{then-joins, else-joins}

pub returns-then-not-brings_one : goal.returns-then-not-brings_one
returns-then-not-brings_one c =
    let P = c.args.plan.now in
    let g = c.args.group in
    let ss = c.args.states.now in
    let k = c.args.place in
    let s = c.args.own in
    let ops = c.args.ops.now in
    let are : c.as_slice-members.result.now ≡ (group_at P g).members = c.as_slice-members.ensures ∙ ap (λ (g : Group). g.members) c.group.ensures in
    let none : list_any (brought_by c.as_slice-members.result.now ss k s c.args.cpu) P.domains ≡ false = sym c.brings_one.ensures ∙ c.if-not-brings_one.true in
    let size : length ss ≡ length (group_at P g).members = c.requires.before.members in
    let lt : k < length (group_at P g).members = rw (← size) c.requires.place in
    let nobody = nobody_drawn_by P g ss k s c.requires.before lt (subst2 (λ ms p. list_any (brought_by ms ss k s p) P.domains ≡ false) are c.requires.own none) in
    rw (c.requires.own, nobody) (ap (λ (es : List Op). record { elements = es; capacity = ops.capacity }) (sym (append-nil ops.elements)))

pub enter_c-requires-clause-last : goal.enter_c-requires-clause-last
enter_c-requires-clause-last c =
    let P = c.args.plan.now in
    let ms = c.as_slice-members.result.now in
    let i = c.loop-member.member-index in
    let new = set c.args.states.now c.args.place c.args.own in
    let are : ms ≡ (group_at P c.args.group).members = c.as_slice-members.ensures ∙ ap (λ (g : Group). g.members) c.group.ensures in
    let lt : i < length (group_at P c.args.group).members = rw (← are) c.loop-member-test.true in
    let le = c_state_le P c.args.group new i c.requires.after lt in
    rw c.c_state_in-level.ensures (rw (← are) at le)

pub loop-member-preserved : goal.loop-member-preserved
loop-member-preserved c =
    let P = c.args.plan.now in
    let ms = c.as_slice-members.result.now in
    let i = c.loop-member.member-index in
    let lt : i < length ms = c.loop-member-test.true in
    let old = c.args.states.now in
    let new = set old c.args.place c.args.own in
    let q = get_or ms i 0 in
    let t = λ (r : ℕ). not (r == c.args.cpu) && drawn_by P ms old new r in
    let f = λ (r : ℕ). enter_c P r (c_state_by P ms new r) in
    let whole = c.args.ops.now.elements ++ drawn_ops P ms old new c.args.cpu in
    elim c.if-joins.branch [
      | then-joins w ↦
          let joins : t q ≡ true = sym c.joins.ensures ∙ w.if-joins.true in
          let entered : w.enter_c.result ≡ f q = w.enter_c.ensures ∙ ap (enter_c P q) w.c_state_in-level.ensures in
          let now : c.if-joins.ops ≡ record { elements = c.loop-member.ops.elements ++ w.enter_c.result ∷ []; capacity = c.loop-member.ops.capacity } = w.ops-is ∙ w.push.ensures in
          rw now (record {
            list = pushed t ms i lt f c.loop-member.ops.elements whole w.enter_c.result entered joins c.loop-member.invariant.list;
            room = room_pushed t ms i lt c.loop-member.ops.elements w.enter_c.result c.loop-member.ops.capacity joins c.loop-member.invariant.room;
            capacity = c.loop-member.invariant.capacity;
          })
      | else-joins w ↦
          let stays : t q ≡ false = sym c.joins.ensures ∙ w.if-joins.false in
          rw w.ops-is (record {
            list = passed t ms i lt f c.loop-member.ops.elements whole stays c.loop-member.invariant.list;
            room = room_passed t ms i lt c.loop-member.ops.elements c.loop-member.ops.capacity stays c.loop-member.invariant.room;
            capacity = c.loop-member.invariant.capacity;
          })
    ]
