use Rattle.pw_history.proofs.Determined.{text-tells}
use Rattle.pw_script.proofs.Told.{power_fits, power_words_tell}
use Rattle.pw_script.proofs.text_values.text_tells_history.Goals as goal

pub returns : goal.returns
returns c = λ well_h well_g e.
    let P = c.args.plan.now in
    text-tells (power_words_tell P c.plans_have_segments.ensures) (power_fits P) c.args.a c.args.b c.args.these.now c.args.those.now c.fault_known.ensures c.fault_known-2.ensures
    well_h.entries well_g.entries c.entries_are_narrow.ensures c.entries_are_narrow-2.ensures e
