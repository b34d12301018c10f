use Rattle.pw_model.proofs.Composing.{integers_alone, outermost_register}
use Rattle.pw_model.proofs.entering.outermost_registers_are_entered.Goals as goal

pub returns-clause-register : goal.returns-clause-register
returns-clause-register c = λ P p states below r above lt e. outermost_register P p states below r above e lt

pub returns-clause-integers : goal.returns-clause-integers
returns-clause-integers c = λ P p states n above lt e. integers_alone P p states n above e lt
