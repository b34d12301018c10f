use Rattle.std.proofs.Common.{All, sym, subst}
use Rattle.pw_cppc.specs.inner.Reading.{IsRead}
use Rattle.pw_cppc.proofs.Read.{processors_read}
use Rattle.pw_cppc.proofs.reading.cppc_parts.Goals as goal

pub parts_of-requires : goal.parts_of-requires
parts_of-requires c =
    let space = c.args.space.now in
    let plan = c.args.plan.now in
    let planned = c.requires.planned in
    let meant = c.tables_are_meant.ensures.processors space plan planned.0 c.placed-objects.ensures.distinct planned.1 in
    let read = subst (All (IsRead space)) (sym c.as_slice-cpu-items.ensures) (processors_read space plan.cpus meant) in
    rw c.cpu-item.is (read c.loop-cpu.cpu-index c.cpu-item.result c.loop-cpu-test.true)
