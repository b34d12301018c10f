use Rattle.pw_machine.proofs.EachKind.{each_kind_is_taken}
use Rattle.pw_machine.proofs.laws.each_kind_is_taken.Goals as goal

pub returns : goal.returns
returns c = each_kind_is_taken
