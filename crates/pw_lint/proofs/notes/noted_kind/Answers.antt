use Rattle.std.proofs.Common.{refl}
use Rattle.pw_lint.proofs.notes.noted_kind.Goals as goal

pub returns-in-ByMethod : goal.returns-in-ByMethod
returns-in-ByMethod c = rw c.in-ByMethod.is refl

pub returns-in-ByAlias : goal.returns-in-ByAlias
returns-in-ByAlias c = rw c.in-ByAlias.is refl

pub returns-in-Empty : goal.returns-in-Empty
returns-in-Empty c = rw c.in-Empty.is refl

pub returns-in-Ignored : goal.returns-in-Ignored
returns-in-Ignored c = rw c.in-Ignored.is refl

pub returns-in-NoSuchState : goal.returns-in-NoSuchState
returns-in-NoSuchState c = rw c.in-NoSuchState.is refl
