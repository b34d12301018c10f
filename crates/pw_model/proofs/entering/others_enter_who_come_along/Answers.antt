use Rattle.pw_model.proofs.Drawn.{along_by, along_from}
use Rattle.pw_model.proofs.entering.others_enter_who_come_along.Goals as goal

pub returns : goal.returns
returns c = λ P S p s t q x other. (λ h. along_from P S p s t q other x h, λ h. along_by P S p s t q other x h.0 h.1)
