use Rattle.aml_data.specs.Grammar.{NameOf}
use Rattle.aml_data.specs.Faults.{NameFails}
use Rattle.aml_data.specs.inner.Reading.{name_at}
use Rattle.aml_data.proofs.Names.{name_again}
use Rattle.aml_data.proofs.NameFaults.{name_refused}
use Rattle.aml_data.proofs.Places.{one_fault, no_fault}
use Rattle.aml_data.proofs.laws.one_name_fault.Goals as goal

pub returns-clause-one : goal.returns-clause-one
returns-clause-one c = one_fault NameFails name_at name_refused

pub returns-clause-apart : goal.returns-clause-apart
returns-clause-apart c = no_fault NameOf NameFails name_at name_again name_refused
