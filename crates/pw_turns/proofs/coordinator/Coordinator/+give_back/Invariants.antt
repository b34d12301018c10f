use Rattle.std.proofs.Common.{vec_len}
use Rattle.pw_turns.proofs.coordinator.Coordinator.+give_back.Given as goal

abbrev pub decreases-give_back : goal.decreases-give_back
decreases-give_back g l = vec_len l.records.now
