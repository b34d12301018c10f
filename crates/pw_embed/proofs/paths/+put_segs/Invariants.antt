use Rattle.std.proofs.Common.{length}
use Rattle.pw_embed.proofs.paths.+put_segs.Given as goal

abbrev pub decreases-put_segs : goal.decreases-put_segs
decreases-put_segs l = length l.segs.now
