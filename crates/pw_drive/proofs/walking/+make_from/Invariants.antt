use Rattle.pw_turns.specs.HeldRecords.{rank}
use Rattle.pw_drive.proofs.walking.+make_from.Given as goal

abbrev pub decreases-make_from : goal.decreases-make_from
decreases-make_from g l = rank l.place.now
