use Rattle.std.proofs.Common.{length}
use Rattle.pw_words.proofs.order.+are_its_flags.Given as goal

abbrev pub decreases-are_its_flags : goal.decreases-are_its_flags
decreases-are_its_flags l = length l.flags.now
