use Rattle.aml_data.proofs.ShortestNames.{name_spelled, name_least, name_writable}
use Rattle.aml_data.proofs.shortest.shortest_name.Goals as goal

pub returns-clause-spelled : goal.returns-clause-spelled
returns-clause-spelled c = name_spelled

pub returns-clause-least : goal.returns-clause-least
returns-clause-least c = name_least

pub returns-clause-writable : goal.returns-clause-writable
returns-clause-writable c = name_writable
