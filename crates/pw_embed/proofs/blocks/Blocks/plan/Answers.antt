use Rattle.std.proofs.Common.{sym}
use Rattle.pw_embed.specs.Blocks.{AreSpelled}
use Rattle.pw_embed.proofs.Refusing.{refused}
use Rattle.pw_base.proofs.Facts.{if_err}
use Rattle.pw_embed.proofs.blocks.Blocks.plan.Goals as goal

pub returns-in-Ok-placed-clause-refused : goal.returns-in-Ok-placed-clause-refused
returns-in-Ok-placed-clause-refused c =
    let blocks = c.as_slice-2.result.now in
    let spelled : AreSpelled c.args.self.now blocks =
    rw (c.as_slice-2.ensures.value, sym c.self.view_is) (rw c.as_slice.ensures.value at c.in-Ok.ensures.spelled) in
    let same = c.in-Ok-placed.ensures.same in
    if_err c.planned.result (λ s r. refused _ blocks _ _ _ _ s spelled r)
    (rw (same.0, same.1) at (c.planned.ensures.refused blocks c.in-Ok-placed.ensures.placed))

pub returns-clause-refused : goal.returns-clause-refused
returns-clause-refused c =
    let blocks = c.as_slice-2.result.now in
    let spelled : AreSpelled c.args.self.now blocks =
    rw (c.as_slice-2.ensures.value, sym c.self.view_is) (rw c.as_slice.ensures.value at c.in-Ok.ensures.spelled) in
    refused _ blocks _ _ _ _ c.in-Err.status spelled c.in-Err.ensures.refused
