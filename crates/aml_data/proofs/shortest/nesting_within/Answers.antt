use Rattle.aml_data.proofs.Nestings.{spelled_within, writable_within}
use Rattle.aml_data.proofs.shortest.nesting_within.Goals as goal

pub returns-clause-spelled : goal.returns-clause-spelled
returns-clause-spelled c = spelled_within

pub returns-clause-writable : goal.returns-clause-writable
returns-clause-writable c = writable_within
