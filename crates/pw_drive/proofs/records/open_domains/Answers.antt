use Rattle.std.proofs.Common.{subst, ◌<◌, ◌+◌, ◌∷◌, [], ◌∙◌, ap, length-append, arith}
use Rattle.pw_drive.specs.Keeping.{OpensDomain, no_domain_record}
use Rattle.pw_walker.proofs.Scaled.{scaled_below, scaled_few}
use Rattle.pw_drive.proofs.Places.{placed_more}
use Rattle.pw_drive.proofs.records.open_domains.Goals as goal

pub loop-domain-preserved : goal.loop-domain-preserved
loop-domain-preserved c =
    let P = c.args.plan.now in
    let i = c.loop-domain.domain in
    let held = c.loop-domain.domains.items in
    let r = c.in_ok-open.field-0 in
    let opens : OpensDomain P i r = (record { of = c.in_ok-open.ensures.of; number = c.in_ok-open.ensures.domain }, c.in_ok-open.ensures.part) in
    rw c.in_ok-push.ensures.items (record {
      count = length-append held (r ∷ []) ∙ ap (λ k. k + 1) c.loop-domain.invariant.count;
      each = placed_more (OpensDomain P) no_domain_record held r i c.loop-domain.invariant.count c.loop-domain.invariant.each opens;
    })

pub overflow_cast-domain : goal.overflow_cast-domain
overflow_cast-domain c =
    let few = scaled_few c.args.plan.now in
    omega (arith, few, c.loop-domain-test.true, c.scaled_count-domain-end.ensures)

pub open-requires-clause-scaled : goal.open-requires-clause-scaled
open-requires-clause-scaled c = scaled_below c.args.plan.now c.loop-domain.domain (subst (λ n. c.loop-domain.domain < n) c.scaled_count-domain-end.ensures c.loop-domain-test.true)
