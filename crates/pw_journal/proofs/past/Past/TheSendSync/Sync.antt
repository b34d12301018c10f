-- And threads may share it.
use denote.RattleType.{RattleType}
use denote.Param.Send.{IsSend, IsSync, part_keyless}
use Rattle.pw_journal.specs.contracts.past.Past.{the_row}

keyless : (T : RattleType) → IsSend (the_row T)
keyless T = record { owned = λ d vs. ((λ vss. (tt, ((λ uss. (tt, tt)), tt))), tt); leaving = λ k f vs. tt }

pub sync : (T : RattleType) → IsSync T → IsSync (the_row T)
sync T y = record { shared = λ d b o κ q. part_keyless (the_row T) (keyless T) q d b o }
