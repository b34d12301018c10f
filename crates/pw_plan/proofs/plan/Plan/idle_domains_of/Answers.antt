use Rattle.std.proofs.Common.{◌∙◌, ap, sym}
use Rattle.pw_plan.specs.declared.index.CpuIndex.{CpuIndex}
use Rattle.pw_plan.proofs.Memberships.{index_none, index_some, no_idle_of}
use Rattle.pw_plan.proofs.plan.Plan.idle_domains_of.Goals as goal

pub returns-in-None : goal.returns-in-None
returns-in-None c = sym (no_idle_of c.args.self.now c.args.cpu (index_none c.args.self.now c.args.cpu c.in-None.ensures))

pub returns-in-Some : goal.returns-in-Some
returns-in-Some c =
    c.as_slice.ensures ∙ ap (λ (x : CpuIndex). x.idle) (index_some c.args.self.now c.args.cpu c.in-Some.index.now c.in-Some.ensures)
