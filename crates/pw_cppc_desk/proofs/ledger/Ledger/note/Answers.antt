use Rattle.std.proofs.Common.{ap, arith}
use Rattle.pw_cppc_desk.specs.Ledgered.{Ledgered}
use Rattle.pw_cppc_desk.proofs.Entering.{is_stopped}
use Rattle.pw_cppc_desk.proofs.ledger.Ledger.note.Goals as goal

pub invariant_of-self : goal.invariant_of-self
invariant_of-self g c =
    let was = c.self.invariant in
    let is = ap (λ (w : Ledgered g.row.R.Denot). w.entries) c.self.view_is in
    let pushed = c.push_reserved.ensures in
    let room = c.requires.room in
    let place = is_stopped c.self.inside.entries.items c.args.seat c.args.request c.args.fault (rw is c.requires.faultless) in
    (was.0, was.1, grind arith, grind arith, rw (pushed.items, c.of.ensures) place)
