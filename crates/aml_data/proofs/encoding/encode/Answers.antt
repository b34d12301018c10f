use Rattle.aml_data.proofs.WrittenLayers.{written-Int}
use Rattle.aml_data.proofs.encoding.encode.Goals as goal

pub returns-in-Int-clause-ok : goal.returns-in-Int-clause-ok
returns-in-Int-clause-ok c = rw (c.in-Int.is, written-Int c.in-Int.number) c.encode_constant.ensures.ok
