use Rattle.std.proofs.Common.{◌≡◌, ◌≤◌, ap, ◌∙◌, arith}
use Rattle.pw_cppc.specs.Parts.{highest_of}
use Rattle.pw_cppc.specs.Planning.{parts_at}
use Rattle.pw_cppc.specs.States.{any_performance}
use Rattle.pw_cppc.proofs.Appending.{twice}
use Rattle.pw_cppc.proofs.Starting.{room_left, sets_all}
use Rattle.pw_cppc.proofs.opening.open_domain.Goals as goal

pub set_start-requires-clause-room : goal.set_start-requires-clause-room
set_start-requires-clause-room c =
    room_left c.args.plan.now c.args.place c.domain-domain.result.now c.as_slice-members.result.now c.requires.place c.domain-domain.ensures c.as_slice-members.ensures c.if-domain-ne0.false
    c.args.ops.now c.set_ranges.new.ops c.set_ranges.ensures c.requires.room

pub returns : goal.returns
unfolding any_performance
returns c =
    let fastest : c.highest-highest.result ≡ highest_of (parts_at c.args.plan.now c.in-Some.first.now) = c.highest-highest.ensures ∙ ap highest_of c.parts.ensures in
    let few : c.highest-highest.result ≤ any_performance = let lt = c.highest-highest.type_inv in omega (arith, lt) in
    twice c.args.ops.now c.set_ranges.new.ops c.set_start.new.ops _ _ _ c.set_ranges.ensures c.set_start.ensures
    (sets_all c.args.plan.now c.args.place c.domain-domain.result.now c.as_slice-members.result.now c.requires.place c.domain-domain.ensures c.as_slice-members.ensures c.if-domain-ne0.false
    c.in-Some.first.now c.highest-highest.result c.in-Some.ensures.value fastest few)
