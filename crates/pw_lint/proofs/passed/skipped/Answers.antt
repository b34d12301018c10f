use Rattle.std.proofs.Common.{refl}
use Rattle.pw_lint.proofs.passed.skipped.Goals as goal

pub returns-in-160 : goal.returns-in-160
returns-in-160 c = rw c.in-160.is refl

pub returns-in-161 : goal.returns-in-161
returns-in-161 c = rw c.in-161.is refl

pub returns-in-162 : goal.returns-in-162
returns-in-162 c = rw c.in-162.is refl

pub returns-in-23428 : goal.returns-in-23428
returns-in-23428 c = rw c.in-23428.is refl

pub returns-in-23429 : goal.returns-in-23429
returns-in-23429 c = rw c.in-23429.is refl
