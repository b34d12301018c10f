use Rattle.aml_data.proofs.ShortestParts.{length_spelled, length_least}
use Rattle.aml_data.proofs.shortest.shortest_length.Goals as goal

pub returns-clause-spelled : goal.returns-clause-spelled
returns-clause-spelled c = length_spelled

pub returns-clause-least : goal.returns-clause-least
returns-clause-least c = length_least
