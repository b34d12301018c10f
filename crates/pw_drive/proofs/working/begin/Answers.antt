use Rattle.std.proofs.Common.{subst, sym}
use Rattle.pw_drive.specs.inner.Workers.{IsReady}
use Rattle.pw_drive.proofs.working.begin.Goals as goal

pub there-requires : goal.there-requires
there-requires g c κs within =
    let ready = subst (λ v. IsReady v.1.now.table.shared.table_id v.1.now.plan v.3) (sym c.in-Err.ensures.err) c.requires in
    (within.0, (within.1.0, (within.1.1, ready)))
