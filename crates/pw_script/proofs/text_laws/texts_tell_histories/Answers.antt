use Rattle.pw_history.proofs.Determined.{text-tells}
use Rattle.pw_script.proofs.Told.{power_fits, power_words_tell}
use Rattle.pw_script.proofs.text_laws.texts_tell_histories.Goals as goal

pub returns : goal.returns
returns c = λ P a b H G tell well_h well_g narrow_a narrow_b narrow_h narrow_g e.
    text-tells (power_words_tell P tell) (power_fits P) a b H G narrow_a narrow_b well_h.entries well_g.entries narrow_h narrow_g e
