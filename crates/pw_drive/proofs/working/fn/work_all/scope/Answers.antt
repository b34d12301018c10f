use Rattle.std.proofs.Common.{arith}
use Rattle.pw_rule.specs.Rule.{given_of}
use Rattle.pw_drive.proofs.Beginning.{as_many}
use Rattle.pw_drive.proofs.working.fn.work_all.scope.Goals as goal

pub end_all-requires : goal.end_all-requires
end_all-requires g c =
    let of = c.captures in
    let many = as_many g.R.Registers of.coordinator.now.table.shared.table_id (given_of g.R.Registers of.coordinator.now.table.shared.key) of.workers.items c.begin_all-begun.result.items
    c.begin_all-begun.ensures in
    let fits = c.requires.7 in
    record { none = c.requires.5; room = omega (arith, many, fits) }
