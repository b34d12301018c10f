use Rattle.std.proofs.Common.{◌∙◌, sym, subst}
use Rattle.acpi_build.specs.Planning.{IsPlanFrom}
use Rattle.acpi_build.proofs.Planned.{fault_found, fault_is, limit_found, plan_found}
use Rattle.acpi_build.proofs.planning.plan.Goals as goal

pub returns-in-Some-clause-fault : goal.returns-in-Some-clause-fault
returns-in-Some-clause-fault c =
    let S = c.in_ok-faults.field-0 in
    let first = sym c.first_fault.ensures ∙ c.in-Some.is in
    fault_is c.args.space.now S.faults c.in-Some.fault first (fault_found c.args.space.now S c.in-Some.fault c.in_ok-faults.ensures first)

pub returns-in-Planned-clause-plan : goal.returns-in-Planned-clause-plan
returns-in-Planned-clause-plan c =
    let S = c.in_ok-faults.field-0 in
    subst (IsPlanFrom c.args.space.now c.in-Planned.plan) (sym c.into_vec.ensures)
    (plan_found c.args.space.now S c.in-Planned.plan c.in_ok-faults.ensures (sym c.first_fault.ensures ∙ c.in-None.is) c.in-Planned.is)

pub returns-in-PastLimit-clause-fault : goal.returns-in-PastLimit-clause-fault
returns-in-PastLimit-clause-fault c =
    let S = c.in_ok-faults.field-0 in
    limit_found c.args.space.now S c.in-PastLimit.which c.in-PastLimit.number c.in_ok-faults.ensures (sym c.first_fault.ensures ∙ c.in-None.is) c.in-PastLimit.is
