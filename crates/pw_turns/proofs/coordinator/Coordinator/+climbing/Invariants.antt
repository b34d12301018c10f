use Rattle.std.proofs.Common.{◌+◌, ◌*◌}
use Rattle.pw_turns.specs.HeldRecords.{rank}
use Rattle.pw_turns.proofs.coordinator.Coordinator.+climbing.Given as goal

abbrev pub decreases-climb : goal.decreases-climb
decreases-climb g l = 3 * rank l.place

abbrev pub decreases-climb_on : goal.decreases-climb_on
decreases-climb_on g l = 3 * rank l.place + 2

abbrev pub decreases-climb_further : goal.decreases-climb_further
decreases-climb_further g l = 3 * rank l.place + 1
