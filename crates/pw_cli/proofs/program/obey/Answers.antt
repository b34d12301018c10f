use Rattle.std.proofs.Common.{refl}
use Rattle.pw_load.proofs.Outcomes.{ended_as}
use Rattle.pw_cli.proofs.program.obey.Goals as goal

pub returns-in-OnBlocks-clause-obeyed : goal.returns-in-OnBlocks-clause-obeyed
returns-in-OnBlocks-clause-obeyed g c =
    rw (c.unsealed.ensures, c.in-OnBlocks.is) (ended_as (λ text line way. (way, refl, refl)) (rw c.as_slice.ensures.value at c.do_on_blocks-status.ensures.did))

pub returns-in-Audit-clause-obeyed : goal.returns-in-Audit-clause-obeyed
returns-in-Audit-clause-obeyed g c =
    rw (c.unsealed-in-Audit.ensures, c.in-Audit.is) (ended_as (λ text line way. (way, refl, refl))
    (rw c.as_slice-names-in-Audit.ensures.value at c.review_by-status.ensures.did))

pub returns-in-Cppc-clause-obeyed : goal.returns-in-Cppc-clause-obeyed
returns-in-Cppc-clause-obeyed g c =
    rw (c.unsealed-in-Cppc.ensures, c.in-Cppc.is) (ended_as (λ text line way. (way, refl)) (rw c.as_slice-names-in-Cppc.ensures.value at c.steer_by-status.ensures.steered))
