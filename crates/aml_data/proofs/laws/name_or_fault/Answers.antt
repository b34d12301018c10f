use Rattle.aml_data.specs.Grammar.{NameOf}
use Rattle.aml_data.specs.Faults.{NameFails}
use Rattle.aml_data.specs.inner.Reading.{name_at}
use Rattle.aml_data.proofs.Names.{name_takes}
use Rattle.aml_data.proofs.NameFaults.{name_fails}
use Rattle.aml_data.proofs.Places.{spelled_or_fails}
use Rattle.aml_data.proofs.laws.name_or_fault.Goals as goal

pub returns : goal.returns
returns c = spelled_or_fails NameOf NameFails name_at name_takes name_fails
