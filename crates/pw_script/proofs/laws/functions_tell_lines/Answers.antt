use Rattle.pw_script.proofs.Askable.{lines_by}
use Rattle.pw_script.proofs.laws.functions_tell_lines.Goals as goal

pub returns : goal.returns
returns g c = λ M choose perf throttle before n texts lines chosen perf_as throttle_as are.
    lines_by M _ _ _ choose perf throttle chosen perf_as throttle_as before n texts lines are
