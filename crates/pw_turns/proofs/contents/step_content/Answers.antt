use Rattle.std.proofs.Common.{sym, ap, ◌∙◌, subst}
use Rattle.pw_rule.specs.Contents.{IsRecordOf}
use Rattle.pw_domain.specs.Domains.{domain_part}
use Rattle.pw_machine.specs.Walk.{left, next_turn, step}
use Rattle.pw_walker.specs.Places.{walk_of}
use Rattle.pw_turns.specs.Steps.{content_part}
use Rattle.pw_turns.proofs.InHand.{domain_here}
use Rattle.pw_turns.proofs.contents.step_content.Goals as goal

pub returns-in-Domain-clause-walk : goal.returns-in-Domain-clause-walk
returns-in-Domain-clause-walk g c =
    let P = c.args.plan.now in let q = c.args.request.now in let ops = c.args.ops.now.elements in let r = c.in-Domain.held in
    let at = subst (λ l. IsRecordOf P (next_turn P (walk_of c.args.place ops)) (content_part l) l) c.in-Domain.is c.requires.holds in
    let here = domain_here P q ops c.args.place r c.requires.place c.requires.turn at.1 in
    (rw c.get_mut-in-Domain.ensures.value at c.step_domain-next.ensures.walk) ∙ ap (λ pl. step P q (walk_of pl ops) (domain_part r)) (sym here)
    ∙ ap (λ l. step P q (walk_of c.args.place ops) (content_part l)) (sym c.in-Domain.is)

pub returns-in-Domain-clause-part : goal.returns-in-Domain-clause-part
returns-in-Domain-clause-part g c =
    let P = c.args.plan.now in let q = c.args.request.now in let ops = c.args.ops.now.elements in let r = c.in-Domain.held in
    let at = subst (λ l. IsRecordOf P (next_turn P (walk_of c.args.place ops)) (content_part l) l) c.in-Domain.is c.requires.holds in
    let here = domain_here P q ops c.args.place r c.requires.place c.requires.turn at.1 in
    (rw c.get_mut-in-Domain.ensures.value at c.step_domain-next.ensures.part) ∙ ap (λ pl. left P q (walk_of pl ops) (domain_part r)) (sym here)
    ∙ ap (λ l. left P q (walk_of c.args.place ops) (content_part l)) (sym c.in-Domain.is)
