use Rattle.std.proofs.Common.{◌≡◌, ◌<◌, ◌==◌, ◌&&◌, ◌++◌, ◌∷◌, [], ℕ, true, false, not, List, map, length, get_or, ap, sym, ◌∙◌, append-nil}
use Rattle.std.specs.List.{list_any}
use Rattle.acpi_values.specs.declared.operation.Op.{Op}
use Rattle.acpi_values.specs.declared.operation.Op.TheVariants as op
use Rattle.pw_plan.specs.declared.domain.Domain.{Domain}
use Rattle.pw_plan.proofs.Lists.{and_second}
use Rattle.pw_model.specs.declared.state.Vote.{Vote}
use Rattle.pw_model.specs.States.{vote_of, with_change}
use Rattle.pw_model.specs.Domains.{c_state, governs, is_sw_all}
use Rattle.pw_model.specs.Composites.{composite_of}
use Rattle.pw_model.specs.Operations.{enter, is_drawn}
use Rattle.pw_core.specs.inner.Drawn.{drawn_among}
use Rattle.pw_core.proofs.Climbing.{chain_fits}
use Rattle.pw_core.proofs.Undrawn.{nobody_drawn}
use Rattle.pw_core.proofs.Drawing.{drawn_above, passed, pushed, room_passed, room_pushed}
use Rattle.pw_core.proofs.accepting.draw_along.Goals as goal
use Rattle.pw_core.proofs.accepting.draw_along.Goals.{then-joins, else-joins}

pub returns-then-not-brings_one : goal.returns-then-not-brings_one
returns-then-not-brings_one c =
    let P = c.args.plan.now in
    let S = c.args.state.now in
    let T = with_change S c.args.change in
    let ops = c.args.ops.now in
    let nobody : drawn_among P S T c.args.cpu c.args.members.now ≡ [] =
    nobody_drawn P (λ q. (vote_of S q).state) (λ q. (vote_of T q).state) c.args.cpu (λ r other. ap (λ (v : Vote). v.state) (c.requires.alone r other))
    (λ q. list_any (λ (d : Domain). governs q (c_state P T q) d && is_sw_all d.coord) P.domains) c.args.members.now (sym c.brings_one.ensures ∙ c.if-not-brings_one.true) in
    rw nobody (ap (λ (es : List Op). record { elements = es; capacity = ops.capacity }) (sym (append-nil ops.elements)))

pub enter-requires-clause-states : goal.enter-requires-clause-states
enter-requires-clause-states c =
    let P = c.args.plan.now in
    let S = c.args.state.now in
    let T = with_change S c.args.change in
    let q = get_or c.args.members.now c.loop-member.member-index 0 in
    let drawn : is_drawn P S T q ≡ true = and_second (not (q == c.args.cpu)) (is_drawn P S T q) (sym c.joins.ensures ∙ c.if-joins.true) in
    (chain_fits P T q c.chain_under-chain.result (c.requires.members c.loop-member.member-index 0 c.loop-member-test.true) c.requires.fits c.chain_under-chain.ensures
    (drawn_above P S T q c.chain_under-chain.result drawn c.chain_under-chain.ensures)).fit

pub loop-member-preserved : goal.loop-member-preserved
loop-member-preserved c =
    let P = c.args.plan.now in
    let S = c.args.state.now in
    let T = with_change S c.args.change in
    let ms = c.args.members.now in
    let i = c.loop-member.member-index in
    let lt : i < length ms = c.loop-member-test.true in
    let q = get_or ms i 0 in
    let t = λ (r : ℕ). not (r == c.args.cpu) && is_drawn P S T r in
    let whole = c.args.ops.now.elements ++ map (enter P T) (drawn_among P S T c.args.cpu ms) in
    elim c.if-joins.branch [
      | then-joins w ↦
          let joins : t q ≡ true = sym c.joins.ensures ∙ w.if-joins.true in
          let drawn : is_drawn P S T q ≡ true = and_second (not (q == c.args.cpu)) (is_drawn P S T q) joins in
          let fits = chain_fits P T q w.chain_under-chain.result (c.requires.members i 0 lt) c.requires.fits w.chain_under-chain.ensures
          (drawn_above P S T q w.chain_under-chain.result drawn w.chain_under-chain.ensures) in
          let entered : w.enter.result ≡ enter P T q = w.enter.ensures ∙ ap (λ ss. op.Enter q (composite_of P q ss)) fits.told in
          let now : c.if-joins.ops ≡ record { elements = c.loop-member.ops.elements ++ w.enter.result ∷ []; capacity = c.loop-member.ops.capacity } = w.ops-is ∙ w.push.ensures in
          rw now (record {
            list = pushed t ms i lt (enter P T) c.loop-member.ops.elements whole w.enter.result entered joins c.loop-member.invariant.list;
            room = room_pushed t ms i lt c.loop-member.ops.elements w.enter.result c.loop-member.ops.capacity joins c.loop-member.invariant.room;
            capacity = c.loop-member.invariant.capacity;
          })
      | else-joins w ↦
          let stays : t q ≡ false = sym c.joins.ensures ∙ w.if-joins.false in
          rw w.ops-is (record {
            list = passed t ms i lt (enter P T) c.loop-member.ops.elements whole stays c.loop-member.invariant.list;
            room = room_passed t ms i lt c.loop-member.ops.elements c.loop-member.ops.capacity stays c.loop-member.invariant.room;
            capacity = c.loop-member.invariant.capacity;
          })
    ]
