use Rattle.pw_cppc.proofs.Staying.{minima_below}
use Rattle.pw_cppc.proofs.state_laws.minima_stay_below_maxima.Goals as goal

pub returns : goal.returns
returns c = λ P H d p lt fit member. minima_below P H d p lt fit member
