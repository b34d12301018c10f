use Rattle.std.proofs.Common.{refl, ◌∙◌}
use Rattle.pw_cppc.proofs.domains.why_unfit.Goals as goal

pub returns : goal.returns
returns c =
    c.unfit_by.ensures ∙ rw
    (c.share_coord.ensures, c.share_number.ensures, c.are_ranged.ensures, c.share_range.ensures, c.have_registers.ensures, c.parts_in.ensures, c.shown-leader.ensures) refl
