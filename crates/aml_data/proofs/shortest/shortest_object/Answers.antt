use Rattle.aml_data.specs.Grammar.{Spells}
use Rattle.aml_data.specs.Written.{written}
use Rattle.aml_data.specs.inner.ReadingObjects.{object_at}
use Rattle.aml_data.proofs.Objects.{object_again}
use Rattle.aml_data.proofs.Places.{one_spelled}
use Rattle.aml_data.proofs.Placed.{is_placed}
use Rattle.aml_data.proofs.ShortestObjects.{object_spelled, object_least, short_writable}
use Rattle.aml_data.proofs.shortest.shortest_object.Goals as goal

pub returns-clause-spelled : goal.returns-clause-spelled
returns-clause-spelled c = λ v h. object_spelled 32 v h.within h.short

pub returns-clause-placed : goal.returns-clause-placed
returns-clause-placed c = λ v before after h. is_placed Spells v before (written v) after (object_spelled 32 v h.within h.short)

pub returns-clause-read : goal.returns-clause-read
returns-clause-read c = λ v w b x y h s e. one_spelled Spells object_at object_again w v b (written v) x y s (object_spelled 32 v h.within h.short) e

pub returns-clause-least : goal.returns-clause-least
returns-clause-least c = object_least 32

pub returns-clause-writable : goal.returns-clause-writable
returns-clause-writable c = short_writable
