use Rattle.std.proofs.Common.{subst}
use Rattle.std.specs.Prelude.{IfSome}
use Rattle.aml_data.specs.Countable.{IsCountable}
use Rattle.acpi_build.specs.declared.names.Name.TheVariants.{Csd}
use Rattle.acpi_build.specs.Finding.{place_below}
use Rattle.acpi_build.proofs.Counting.{told_few}
use Rattle.acpi_build.proofs.tables.find_csd.Goals as goal

pub returns-clause-count : goal.returns-clause-count
returns-clause-count c =
    let found = c.in-Some.found in
    let countable = subst (λ o. IfSome o (λ f. IsCountable f.data.now)) c.in-Some.is c.in_ok-found.ensures.countable in
    told_few (λ v. v.items) (place_below c.args.space.now c.args.index Csd) found.width found.data.now c.read_csd.result c.tell.result _ _
    countable c.read_csd.ensures c.tell.ensures
