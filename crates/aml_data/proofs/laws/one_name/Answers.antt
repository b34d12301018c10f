use Rattle.aml_data.specs.Grammar.{NameOf}
use Rattle.aml_data.specs.inner.Reading.{name_at}
use Rattle.aml_data.proofs.Names.{name_again}
use Rattle.aml_data.proofs.Places.{one_spelled, one_place}
use Rattle.aml_data.proofs.laws.one_name.Goals as goal

pub returns-clause-place : goal.returns-clause-place
returns-clause-place c = one_place NameOf name_at name_again

pub returns-clause-prefix : goal.returns-clause-prefix
returns-clause-prefix c = one_spelled NameOf name_at name_again
