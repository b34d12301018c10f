use Rattle.std.proofs.Common.{ap}
use Rattle.acpi_build.specs.Planning.{first_fault}
use Rattle.acpi_build.specs.declared.fault.BuildFault.TheVariants.{Object}
use Rattle.acpi_build.proofs.Planned.{fault_found, limit_found, plan_found}
use Rattle.acpi_build.proofs.laws.surveys_tell_plans.Goals as goal

pub returns-clause-object : goal.returns-clause-object
returns-clause-object c = λ entries S f fs is first. fault_found entries S (Object f.path f.place f.why) is (ap first_fault first)

pub returns-clause-limit : goal.returns-clause-limit
returns-clause-limit c = λ entries S which number is none outcome. limit_found entries S which number is (ap first_fault none) outcome

pub returns-clause-plan : goal.returns-clause-plan
returns-clause-plan c = λ entries S P is none outcome. plan_found entries S P is (ap first_fault none) outcome
