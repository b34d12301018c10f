use Rattle.pw_cppc_drive.proofs.Coming.{by_workers, told}
use Rattle.pw_cppc_drive.proofs.text_laws.cppc_texts_are_of_workers.Goals as goal

pub returns : goal.returns
returns c = λ P asked opening es has. (told P asked opening es, by_workers P asked opening es has)
