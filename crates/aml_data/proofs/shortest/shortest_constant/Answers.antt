use Rattle.aml_data.proofs.ShortestParts.{constant_spelled, constant_least}
use Rattle.aml_data.proofs.shortest.shortest_constant.Goals as goal

pub returns-clause-spelled : goal.returns-clause-spelled
returns-clause-spelled c = constant_spelled

pub returns-clause-least : goal.returns-clause-least
returns-clause-least c = constant_least
