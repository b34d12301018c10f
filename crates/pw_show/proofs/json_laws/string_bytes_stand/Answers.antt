use Rattle.std.proofs.Common.{ap}
use Rattle.std.proofs.lemmas.Str.{encodes-IsAscii}
use Rattle.serde_json.specs.Data.{string}
use Rattle.pw_show.proofs.json_laws.string_bytes_stand.Goals as goal

pub returns : goal.returns
returns c = λ bytes ascii. ap string (encodes-IsAscii bytes ascii)
