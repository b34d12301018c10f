use Rattle.std.proofs.Common.{◌<◌, ◌∙◌, [], refl, sym, subst, arith, rules}
use Rattle.pw_model.specs.History.{replay}
use Rattle.pw_model.specs.Records.{container, domain, group}
use Rattle.pw_idle.specs.Nodes.{node_part}
use Rattle.pw_domain.specs.Domains.{domain_part}
use Rattle.pw_domain.specs.Groups.{group_part}
use Rattle.pw_machine.specs.Walk.{grouped, scaled}
use Rattle.pw_machine.proofs.Plans.{legal_state}
use Rattle.pw_walker.specs.declared.place.Place.TheVariants.{Scaled, Grouped, Climbing}
use Rattle.pw_walker.specs.Places.{walk_of}
use Rattle.pw_walker.specs.Records.{IsNode}
use Rattle.pw_walker.specs.Undoing.{FitsLevel, FitsState, FitsVote, level_back, state_back, vote_back}
use Rattle.pw_turns.specs.HeldRecords.{rank}
use Rattle.pw_turns.proofs.Frames.{falls}
use Rattle.pw_drive.specs.Keeping.{part_in}
use Rattle.pw_drive.proofs.Midway.{midway_on, undone_too}
use Rattle.pw_drive.proofs.Setting.{domain_before, group_before, held_is, node_before, puts_domain, puts_group, puts_node, stepped_domain, stepped_group, stepped_node}
use Rattle.pw_drive.proofs.Setting.{with_domain, with_group, with_node}
use Rattle.pw_drive.proofs.walking.+make_from.Goals as goal

pub step_domain-next-requires-clause-of : goal.step_domain-next-requires-clause-of
step_domain-next-requires-clause-of g t c =
    let at = rw c.in-Scaled.is at c.requires.place in
    (held_is c.requires.of.domains c.in-Scaled.domain at.stands.1 c.index_mut-held.result.now c.index_mut-held.ensures.value).of

pub make_from-requires : goal.make_from-requires
make_from-requires g t c κs within =
    let P = c.args.plan.now in let q = c.args.request.now in let es = c.args.journal.now.entries in let was = c.args.records.now in
    let n = c.in-Scaled.domain in let at = rw c.in-Scaled.is at c.requires.place in
    let h = c.index_mut-held.result.now in let there = c.index_mut-held.ensures.value in
    let r = c.step_domain-next.new.held in let e = c.step_domain-next.ensures in let next = c.step_domain-next.result.0 in let more = c.step_domain-next.new.ops.elements in
    let s = stepped_domain P was c.requires.of n at.stands.1 h r there e.of q (walk_of next more) e.part e.walk in
    let on = midway_on P (replay P es) q (legal_state P es c.requires.legal) at.has (scaled n) (walk_of next more) (domain n) was (with_domain was n r)
    (rw c.in-Scaled.is at c.requires.midway) s in
    let lower = falls P q (Scaled n) next c.args.ops.now.elements more (part_in was (domain n)) at (λ reply e. absurd (cc)) s.on in
    let low : rank next < rank c.args.place.now = subst (λ p. rank next < rank p) (sym c.in-Scaled.is) lower in (
      omega (arith, low, c.decreases),
      (search rules, (c.requires.legal, (c.requires.faultless, (s.puts.of, (e.place, (on, (c.requires.space, (search rules, (search rules, (c.requires.answered, c.requires.spare)))))))))),
    )

pub unstep_domain-requires-clause-of : goal.unstep_domain-requires-clause-of
unstep_domain-requires-clause-of g t c =
    let at = rw c.in-Scaled.is at c.requires.place in
    (held_is c.in-Err.ensures.undone.of.domains c.in-Scaled.domain at.stands.1 c.index_mut.result.now c.index_mut.ensures.value).of

pub unstep_domain-requires-clause-fits : goal.unstep_domain-requires-clause-fits
unstep_domain-requires-clause-fits g t c =
    let at = rw c.in-Scaled.is at c.requires.place in
    let is = held_is c.in-Err.ensures.undone.of.domains c.in-Scaled.domain at.stands.1 c.index_mut.result.now c.index_mut.ensures.value in
    subst (λ m. FitsLevel c.args.plan.now m c.step_domain-next.result.1)
    ((held_is c.requires.of.domains c.in-Scaled.domain at.stands.1 c.index_mut-held.result.now c.index_mut-held.ensures.value).number ∙ sym is.number)
    c.step_domain-next.ensures.old.fits

pub returns-in-Err-clause-undone : goal.returns-in-Err-clause-undone
returns-in-Err-clause-undone g t c =
    let P = c.args.plan.now in let was = c.args.records.now in let n = c.in-Scaled.domain in let at = rw c.in-Scaled.is at c.requires.place in
    let h = c.index_mut-held.result.now in let there = c.index_mut-held.ensures.value in let r = c.step_domain-next.new.held in let e = c.step_domain-next.ensures in
    let u = c.in-Err.ensures.undone in let mid = c.make_from.new.records in let back = level_back c.step_domain-next.result.1 in let s = c.unstep_domain in
    undone_too P c.args.journal.now.entries c.make_from.new.journal.entries was (with_domain was n r) mid (with_domain mid n s.new.held) (domain n) (domain_part r) back at.stands.1
    (puts_domain P was c.requires.of n at.stands.1 h r there e.of (λ x. domain_part r) refl) u
    (puts_domain P mid u.of n at.stands.1 c.index_mut.result.now s.new.held c.index_mut.ensures.value s.ensures.of back s.ensures.part)
    (e.old.back ∙ domain_before P was c.requires.of n at.stands.1 h r there e.of)

pub step_group-next-requires-clause-of : goal.step_group-next-requires-clause-of
step_group-next-requires-clause-of g t c =
    let at = rw c.in-Grouped.is at c.requires.place in
    (held_is c.requires.of.groups c.in-Grouped.group at.stands.1 c.index_mut-held-in-Grouped.result.now c.index_mut-held-in-Grouped.ensures.value).of

pub make_from-requires-in-Grouped : goal.make_from-requires-in-Grouped
make_from-requires-in-Grouped g t c κs within =
    let P = c.args.plan.now in let q = c.args.request.now in let es = c.args.journal.now.entries in let was = c.args.records.now in
    let n = c.in-Grouped.group in let at = rw c.in-Grouped.is at c.requires.place in
    let h = c.index_mut-held-in-Grouped.result.now in let there = c.index_mut-held-in-Grouped.ensures.value in
    let r = c.step_group-next.new.held in let e = c.step_group-next.ensures in let next = c.step_group-next.result.0 in let more = c.step_group-next.new.ops.elements in
    let s = stepped_group P was c.requires.of n at.stands.1 h r there e.of q (walk_of next more) e.part e.walk in
    let on = midway_on P (replay P es) q (legal_state P es c.requires.legal) at.has (grouped n) (walk_of next more) (group n) was (with_group was n r)
    (rw c.in-Grouped.is at c.requires.midway) s in
    let lower = falls P q (Grouped n) next c.args.ops.now.elements more (part_in was (group n)) at (λ reply e. absurd (cc)) s.on in
    let low : rank next < rank c.args.place.now = subst (λ p. rank next < rank p) (sym c.in-Grouped.is) lower in (
      omega (arith, low, c.decreases),
      (search rules, (c.requires.legal, (c.requires.faultless, (s.puts.of, (e.place, (on, (c.requires.space, (search rules, (search rules, (c.requires.answered, c.requires.spare)))))))))),
    )

pub unstep_group-requires-clause-of : goal.unstep_group-requires-clause-of
unstep_group-requires-clause-of g t c =
    let at = rw c.in-Grouped.is at c.requires.place in
    (held_is c.in-Err-make_from.ensures.undone.of.groups c.in-Grouped.group at.stands.1 c.index_mut-in-Err-make_from.result.now c.index_mut-in-Err-make_from.ensures.value).of

pub unstep_group-requires-clause-fits : goal.unstep_group-requires-clause-fits
unstep_group-requires-clause-fits g t c =
    let at = rw c.in-Grouped.is at c.requires.place in
    let is = held_is c.in-Err-make_from.ensures.undone.of.groups c.in-Grouped.group at.stands.1 c.index_mut-in-Err-make_from.result.now c.index_mut-in-Err-make_from.ensures.value in
    subst (λ m. FitsState c.args.plan.now m c.step_group-next.result.1)
    ((held_is c.requires.of.groups c.in-Grouped.group at.stands.1 c.index_mut-held-in-Grouped.result.now c.index_mut-held-in-Grouped.ensures.value).number ∙ sym is.number)
    c.step_group-next.ensures.old.fits

pub returns-in-Err-make_from-clause-undone : goal.returns-in-Err-make_from-clause-undone
returns-in-Err-make_from-clause-undone g t c =
    let P = c.args.plan.now in let was = c.args.records.now in let n = c.in-Grouped.group in let at = rw c.in-Grouped.is at c.requires.place in
    let h = c.index_mut-held-in-Grouped.result.now in let there = c.index_mut-held-in-Grouped.ensures.value in let r = c.step_group-next.new.held in let e = c.step_group-next.ensures in
    let u = c.in-Err-make_from.ensures.undone in let mid = c.make_from-in-Grouped.new.records in let back = state_back c.step_group-next.result.1 in let s = c.unstep_group in
    undone_too P c.args.journal.now.entries c.make_from-in-Grouped.new.journal.entries was (with_group was n r) mid (with_group mid n s.new.held) (group n) (group_part r) back at.stands.1
    (puts_group P was c.requires.of n at.stands.1 h r there e.of (λ x. group_part r) refl) u
    (puts_group P mid u.of n at.stands.1 c.index_mut-in-Err-make_from.result.now s.new.held c.index_mut-in-Err-make_from.ensures.value s.ensures.of back s.ensures.part)
    (e.old.back ∙ group_before P was c.requires.of n at.stands.1 h r there e.of)

pub step_node-next-requires-clause-of : goal.step_node-next-requires-clause-of
step_node-next-requires-clause-of g t c =
    let at = rw c.in-Climbing.is at c.requires.place in
    held_is c.requires.of.nodes c.in-Climbing.node at.stands.exists c.index_mut-held-in-Climbing.result.now c.index_mut-held-in-Climbing.ensures.value

pub make_from-requires-in-Climbing : goal.make_from-requires-in-Climbing
make_from-requires-in-Climbing g t c κs within =
    let P = c.args.plan.now in let q = c.args.request.now in let es = c.args.journal.now.entries in let was = c.args.records.now in
    let n = c.in-Climbing.node in let at = rw c.in-Climbing.is at c.requires.place in
    let h = c.index_mut-held-in-Climbing.result.now in let there = c.index_mut-held-in-Climbing.ensures.value in
    let r = c.step_node-next.new.held in let e = c.step_node-next.ensures in let next = c.step_node-next.result.0 in let more = c.step_node-next.new.ops.elements in
    let own = subst (λ m. IsNode P m r) (sym (held_is c.requires.of.nodes n at.stands.exists h there).number) e.of in
    let s = stepped_node P was c.requires.of n at.stands.exists h r there own q c.in-Climbing.climb (walk_of next more) e.part e.walk in
    let on = midway_on P (replay P es) q (legal_state P es c.requires.legal) at.has (walk_of (Climbing n c.in-Climbing.climb) []) (walk_of next more) (container n) was (with_node was n r)
    (rw c.in-Climbing.is at c.requires.midway) s in
    let lower = falls P q (Climbing n c.in-Climbing.climb) next c.args.ops.now.elements more (part_in was (container n)) at (λ reply e. absurd (cc)) s.on in
    let low : rank next < rank c.args.place.now = subst (λ p. rank next < rank p) (sym c.in-Climbing.is) lower in (
      omega (arith, low, c.decreases),
      (search rules, (c.requires.legal, (c.requires.faultless, (s.puts.of, (e.place, (on, (c.requires.space, (search rules, (search rules, (c.requires.answered, c.requires.spare)))))))))),
    )

pub unstep_node-requires-clause-of : goal.unstep_node-requires-clause-of
unstep_node-requires-clause-of g t c =
    let at = rw c.in-Climbing.is at c.requires.place in
    (held_is c.in-Err-make_from-2.ensures.undone.of.nodes c.in-Climbing.node at.stands.exists c.index_mut-in-Err-make_from-2.result.now c.index_mut-in-Err-make_from-2.ensures.value).of

pub unstep_node-requires-clause-fits : goal.unstep_node-requires-clause-fits
unstep_node-requires-clause-fits g t c =
    let at = rw c.in-Climbing.is at c.requires.place in
    let is = held_is c.in-Err-make_from-2.ensures.undone.of.nodes c.in-Climbing.node at.stands.exists c.index_mut-in-Err-make_from-2.result.now c.index_mut-in-Err-make_from-2.ensures.value in
    subst (λ m. FitsVote c.args.plan.now m c.step_node-next.result.1)
    (sym is.number)
    c.step_node-next.ensures.old.fits

pub returns-in-Err-make_from-2-clause-undone : goal.returns-in-Err-make_from-2-clause-undone
returns-in-Err-make_from-2-clause-undone g t c =
    let P = c.args.plan.now in let was = c.args.records.now in let n = c.in-Climbing.node in let at = rw c.in-Climbing.is at c.requires.place in
    let h = c.index_mut-held-in-Climbing.result.now in let there = c.index_mut-held-in-Climbing.ensures.value in let r = c.step_node-next.new.held in let e = c.step_node-next.ensures in
    let u = c.in-Err-make_from-2.ensures.undone in let mid = c.make_from-in-Climbing.new.records in let back = vote_back c.step_node-next.result.1 in let s = c.unstep_node in
    let own = subst (λ m. IsNode P m r) (sym (held_is c.requires.of.nodes n at.stands.exists h there).number) e.of in
    undone_too P c.args.journal.now.entries c.make_from-in-Climbing.new.journal.entries was (with_node was n r) mid (with_node mid n s.new.held) (container n) (node_part r) back at.stands.exists
    (puts_node P was c.requires.of n at.stands.exists h r there own (λ x. node_part r) refl) u
    (puts_node P mid u.of n at.stands.exists c.index_mut-in-Err-make_from-2.result.now s.new.held c.index_mut-in-Err-make_from-2.ensures.value s.ensures.of back s.ensures.part)
    (e.old.back ∙ node_before P was c.requires.of n at.stands.exists h r there own)

pub enter-requires-clause-midway : goal.enter-requires-clause-midway
enter-requires-clause-midway g t c = rw c.in-Over.is at c.requires.midway
