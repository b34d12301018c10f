use Rattle.std.proofs.Common.{[], refl, sym}
use Rattle.pw_embed.specs.Blocks.{AreSpelled, Refused}
use Rattle.pw_embed.specs.Faults.{no_fault}
use Rattle.pw_embed.proofs.Refusing.{refused}
use Rattle.pw_base.proofs.Facts.{if_err}
use Rattle.pw_embed.proofs.blocks.Blocks.cppc.Goals as goal

pub returns-in_default-clause-refused : goal.returns-in_default-clause-refused
unfolding Refused
returns-in_default-clause-refused c = (no_fault, no_fault, [], [], (refl, refl))

pub returns-in-Ok-placed-clause-refused : goal.returns-in-Ok-placed-clause-refused
returns-in-Ok-placed-clause-refused c =
    let blocks = c.as_slice-2.result.now in
    let spelled : AreSpelled c.args.self.now blocks =
    rw (c.as_slice-2.ensures.value, sym c.self.view_is) (rw c.as_slice.ensures.value at c.in-Ok.ensures.spelled) in
    if_err c.steered.result (λ s u. (u.0, u.1, u.2, u.3, refused _ blocks _ _ _ _ s spelled u.4))
    (c.steered.ensures.refused blocks c.in-Ok-placed.ensures.placed)

pub returns-clause-refused : goal.returns-clause-refused
returns-clause-refused c =
    let blocks = c.as_slice-2.result.now in
    let spelled : AreSpelled c.args.self.now blocks =
    rw (c.as_slice-2.ensures.value, sym c.self.view_is) (rw c.as_slice.ensures.value at c.in-Ok.ensures.spelled) in
    (_, _, _, _, refused _ blocks _ _ _ _ c.in-Err.status spelled c.in-Err.ensures.refused)
