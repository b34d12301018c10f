use Rattle.pw_model.proofs.Opening.{opening_asks, opening_runs, scale_limits, slowest_stands, stands_alone, stands_slowest}
use Rattle.pw_model.proofs.starting.starts_are_those_of_the_tables.Goals as goal

pub returns-clause-votes : goal.returns-clause-votes
returns-clause-votes c = λ P p. opening_runs P p

pub returns-clause-limits : goal.returns-clause-limits
returns-clause-limits c = λ P kind p scale lt e. scale_limits P kind p scale lt e

pub returns-clause-asks : goal.returns-clause-asks
returns-clause-asks c = λ P kind p. opening_asks P kind p

pub returns-clause-software : goal.returns-clause-software
returns-clause-software c = λ P d p q t software member. (λ le. stands_slowest P d p q t software member le, λ h. slowest_stands P d p q t software member h)

pub returns-clause-hardware : goal.returns-clause-hardware
returns-clause-hardware c = λ P d p hardware. stands_alone P d p p hardware
