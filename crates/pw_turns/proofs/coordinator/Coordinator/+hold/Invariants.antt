use Rattle.pw_turns.specs.HeldRecords.{rank}
use Rattle.pw_turns.proofs.coordinator.Coordinator.+hold.Given as goal

abbrev pub decreases-hold : goal.decreases-hold
decreases-hold g l = rank l.place
