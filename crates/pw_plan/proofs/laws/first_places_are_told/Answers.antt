use Rattle.pw_plan.proofs.Firsts.{domain_place, group_place, unfit_place}
use Rattle.pw_plan.proofs.laws.first_places_are_told.Goals as goal

pub returns-clause-domain : goal.returns-clause-domain
returns-clause-domain c = λ P kind p. domain_place P kind p

pub returns-clause-unfit : goal.returns-clause-unfit
returns-clause-unfit c = λ P p. unfit_place P p

pub returns-clause-group : goal.returns-clause-group
returns-clause-group c = λ P p. group_place P p
