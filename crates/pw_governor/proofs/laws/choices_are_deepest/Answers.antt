use Rattle.pw_governor.proofs.Lawfulness.{choice_lawful, choice_most}
use Rattle.pw_governor.proofs.laws.choices_are_deepest.Goals as goal

pub returns-clause-lawful : goal.returns-clause-lawful
returns-clause-lawful c = choice_lawful

pub returns-clause-deepest : goal.returns-clause-deepest
returns-clause-deepest c = choice_most
