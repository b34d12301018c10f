use Rattle.std.proofs.Common.{◌≡◌, drop}
use Rattle.std.specs.Prelude.{find}
use Rattle.pw_plan.specs.inner.Memberships.{shows_unfit}
use Rattle.pw_plan.proofs.index.unfit_membership.Given as goal

abbrev pub invariant-loop-membership : goal.invariant-loop-membership
invariant-loop-membership l = find (shows_unfit l.domains) (drop l.membership-index l.memberships) ≡ find (shows_unfit l.domains) l.memberships
