-- What an accepted request leaves.
use Rattle.std.proofs.Common.{◌≡◌, ◌<◌, ℕ, true, length, None, refl, ap, sym, subst, ◌∙◌, arith, get_or-set_same, get_or-set_other}
use Rattle.pw_plan.specs.Groups.{has_member}
use Rattle.pw_cppc.specs.declared.numbers.CppcNumbers.{CppcNumbers}
use Rattle.pw_cppc.specs.declared.plan.CppcPlan.{CppcPlan}
use Rattle.pw_cppc.specs.declared.reply.CppcReply.TheVariants.{Stands}
use Rattle.pw_cppc.specs.declared.request.CppcRequest.{CppcRequest}
use Rattle.pw_cppc.specs.declared.request.CppcRequest.TheVariants.{Desired, Minimum, Maximum}
use Rattle.pw_cppc.specs.Answers.{after, answer, if_accepted, refusal}
use Rattle.pw_cppc.specs.Laws.{Leaves}
use Rattle.pw_cppc.specs.Planning.{domain_at}
use Rattle.pw_cppc.specs.Requests.{Has, cpu_of}
use Rattle.pw_cppc.specs.States.{AreNumbers, changed, standing, stands}
use Rattle.pw_cppc.proofs.Refused.{has_exists, may_ask}

pub after_is : (P : CppcPlan) (S : CppcNumbers) (q : CppcRequest) → refusal P S q ≡ None → after P S q ≡ changed S q
unfolding after
after_is P S q e = ap (λ o. if_accepted o (λ reply. S) (changed S q)) e

answer_is : (P : CppcPlan) (S : CppcNumbers) (q : CppcRequest) → refusal P S q ≡ None → answer P S q ≡ Stands (stands P (changed S q) (cpu_of q))
unfolding answer
answer_is P S q e = ap (λ o. if_accepted o (λ reply. reply) (Stands (stands P (changed S q) (cpu_of q)))) e

changed_leaves : (P : CppcPlan) (S : CppcNumbers) (q : CppcRequest) → AreNumbers P S → Has P q → Leaves S q (changed S q)
changed_leaves P S (Desired p v) fits has = let n = fits.asks in ((get_or-set_same S.asks p v 0 (omega (arith, n, has)), λ m other. get_or-set_other S.asks p m v 0 other), refl, refl)
changed_leaves P S (Minimum p v) fits has = let n = fits.minima in ((get_or-set_same S.minima p v 0 (omega (arith, n, has)), λ m other. get_or-set_other S.minima p m v 0 other), refl, refl)
changed_leaves P S (Maximum p v) fits has = let n = fits.maxima in ((get_or-set_same S.maxima p v 0 (omega (arith, n, has)), λ m other. get_or-set_other S.maxima p m v 0 other), refl, refl)

pub leaves : (P : CppcPlan) (S : CppcNumbers) (q : CppcRequest) → AreNumbers P S → refusal P S q ≡ None → Leaves S q (after P S q)
leaves P S q fits e = subst (Leaves S q) (sym (after_is P S q e)) (changed_leaves P S q fits (has_exists P.cpus (cpu_of q) (may_ask P S q e).scaled.fit.table))

pub answers : (P : CppcPlan) (S : CppcNumbers) (q : CppcRequest) (d : ℕ) → refusal P S q ≡ None → d < length P.domains → has_member (domain_at P d).members (cpu_of q) ≡ true
    → answer P S q ≡ Stands (standing P (after P S q) d (cpu_of q))
answers P S q d e lt member =
    answer_is P S q e
    ∙ ap (λ k. Stands (standing P (changed S q) k (cpu_of q))) (P.sound.only d (cpu_of q) lt member)
    ∙ ap (λ T. Stands (standing P T d (cpu_of q))) (sym (after_is P S q e))
