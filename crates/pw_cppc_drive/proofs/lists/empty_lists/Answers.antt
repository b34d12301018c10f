use Rattle.std.proofs.Common.{◌∙◌}
use Rattle.pw_cppc_drive.proofs.Making.{one_empty}
use Rattle.pw_cppc_drive.proofs.lists.empty_lists.Goals as goal

pub loop-preserved : goal.loop-preserved
loop-preserved c = record {
  empty = one_empty c.loop.counter c.loop.lists.items _ c.new.result c.push_reserved.ensures.items c.new.ensures.items c.loop.invariant.empty;
  room = c.push_reserved.ensures.capacity ∙ c.loop.invariant.room;
}
