use Rattle.pw_show.proofs.Listed.{text_of_array}
use Rattle.pw_show.proofs.json_laws.text_is_an_array.Goals as goal

pub returns : goal.returns
returns c = text_of_array
