use Rattle.pw_model.proofs.Routes.{chains_fit, has_route}
use Rattle.pw_model.proofs.record_laws.requests_have_routes.Goals as goal

pub returns-clause-routes : goal.returns-clause-routes
returns-clause-routes c = λ P q has. has_route P q has

pub returns-clause-chains : goal.returns-clause-chains
returns-clause-chains c = λ P. chains_fit P
