use denote.RattleType.{RattleType}
use denote.Param.Send.{IsSync}
use Rattle.core.specs.declared.alloc.Allocator.{Ghosts}
use Rattle.pw_base.proofs.ThinCrosses.{Thin-sync}
use Rattle.pw_base.specs.contracts.thin.Thin.{the_row}

pub sync : (T A : RattleType) (g : Ghosts A.Denot) → IsSync T → IsSync (the_row T A g)
sync = Thin-sync
