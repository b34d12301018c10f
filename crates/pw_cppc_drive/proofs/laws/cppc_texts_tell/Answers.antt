use Rattle.pw_history.proofs.Determined.{text-tells}
use Rattle.pw_cppc_drive.proofs.Told.{performance_fits, performance_words_tell}
use Rattle.pw_cppc_drive.proofs.laws.cppc_texts_tell.Goals as goal

pub returns : goal.returns
returns c = λ P a b H G tell is_h is_g narrow_a narrow_b narrow_h narrow_g same.
    text-tells (performance_words_tell P tell) (performance_fits P) a b H G narrow_a narrow_b is_h is_g narrow_h narrow_g same
