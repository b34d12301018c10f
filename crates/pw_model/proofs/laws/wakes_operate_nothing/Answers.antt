use Rattle.std.proofs.Common.{refl}
use Rattle.pw_model.specs.Operations.{accepted_ops, ops_of}
use Rattle.pw_model.proofs.laws.wakes_operate_nothing.Goals as goal

pub returns : goal.returns
unfolding ops_of accepted_ops
returns c = λ P S p. refl
