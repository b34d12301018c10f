use Rattle.pw_script.proofs.Askable.{lines_asked}
use Rattle.pw_script.proofs.laws.lines_can_be_asked.Goals as goal

pub returns : goal.returns
returns g c = λ M before n texts lines are.
    lines_asked M _ _ _ _ _ c.requires.perf c.requires.throttle before n texts lines are
