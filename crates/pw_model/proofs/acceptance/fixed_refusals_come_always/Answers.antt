use Rattle.pw_model.proofs.Fixed.{comes_fixed, fixed_accepts, fixed_comes}
use Rattle.pw_model.proofs.acceptance.fixed_refusals_come_always.Goals as goal

pub returns-clause-comes : goal.returns-clause-comes
returns-clause-comes c = λ P q r has. (λ e S is. fixed_comes P q r e S, λ h. comes_fixed P q r has h)

pub returns-clause-accepted : goal.returns-clause-accepted
returns-clause-accepted c = λ P q has e. fixed_accepts P q has e
