use Rattle.std.proofs.Common.{refl}
use Rattle.pw_handles.specs.Endless.{OfSplit}
use Rattle.pw_handles.proofs.endless.split.Goals as goal

pub returns-in-Endless : goal.returns-in-Endless
unfolding OfSplit
returns-in-Endless c = rw c.in-Endless.is (c.split.new.self, refl, c.split.ensures)
