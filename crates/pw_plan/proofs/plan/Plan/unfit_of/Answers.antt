use Rattle.std.proofs.Common.{ap, refl}
use Rattle.pw_plan.specs.declared.index.CpuIndex.{CpuIndex}
use Rattle.pw_plan.specs.Index.{is_unfit, membership_in}
use Rattle.pw_plan.proofs.Memberships.{index_none, index_some, no_domain_of, membership_is, unfit_has}
use Rattle.pw_plan.proofs.plan.Plan.unfit_of.Goals as goal

pub returns-in_err-index_of : goal.returns-in_err-index_of
returns-in_err-index_of c =
    let P = c.args.self.now in
    rw c.from_residual.ensures (no_domain_of P c.args.cpu (index_none P c.args.cpu c.in_err-index_of.ensures) (is_unfit c.args.cpu) (unfit_has c.args.cpu))

pub returns : goal.returns
returns c =
    let P = c.args.self.now in
    let i = c.in_ok-index_of.field-0.now in
    membership_is (is_unfit c.args.cpu) P.domains (membership_in P.domains c.args.cpu) (λ k. refl) i.unfit (ap (λ (x : CpuIndex). x.unfit) (index_some P c.args.cpu i c.in_ok-index_of.ensures))
