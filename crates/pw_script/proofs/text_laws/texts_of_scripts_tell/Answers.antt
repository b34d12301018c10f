use Rattle.pw_history.proofs.Ends.{lawful-told}
use Rattle.pw_history.proofs.Narrow.{lawful-narrow, lawful-opening}
use Rattle.pw_script.proofs.Told.{power_fits, power_laws, power_numbers}
use Rattle.pw_script.proofs.text_laws.texts_of_scripts_tell.Goals as goal

pub returns-clause-narrow : goal.returns-clause-narrow
returns-clause-narrow c = λ P L o H narrow lawful. (lawful-opening (power_fits P) (power_numbers P) L o H lawful, lawful-narrow (power_fits P) (power_numbers P) L narrow o H lawful)

pub returns-clause-told : goal.returns-clause-told
returns-clause-told c = λ P L M a b H G tell lines others lawful other e. lawful-told (power_laws P tell) L M a b H G lines others lawful other e
