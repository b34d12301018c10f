use Rattle.pw_history.proofs.Ends.{lawful-told}
use Rattle.pw_history.proofs.Narrow.{lawful-narrow, lawful-opening}
use Rattle.pw_cppc_drive.proofs.Told.{performance_fits, performance_laws, performance_numbers}
use Rattle.pw_cppc_drive.proofs.text_laws.cppc_texts_of_scripts_tell.Goals as goal

pub returns-clause-narrow : goal.returns-clause-narrow
returns-clause-narrow c = λ P L o H narrow lawful.
    (lawful-opening (performance_fits P) (performance_numbers P) L o H lawful, lawful-narrow (performance_fits P) (performance_numbers P) L narrow o H lawful)

pub returns-clause-told : goal.returns-clause-told
returns-clause-told c = λ P L M a b H G tell lines others lawful other e. lawful-told (performance_laws P tell) L M a b H G lines others lawful other e
