use Rattle.std.proofs.Common.{rules, ap, Some, arith}
use Rattle.pw_cppc_desk.proofs.Taking.{last_out, led_free, takes}
use Rattle.pw_cppc_desk.proofs.desk.CppcDesk.lock.Goals as goal

pub compare_exchange-found-requires : goal.compare_exchange-found-requires
compare_exchange-found-requires g c =
    let r = c.requires in let s = c.args.self.now in
    (search rules, omega (arith, s.words), takes g.R.Registers _ s.table.shared.key c.args.raw.now.id g.Q.Asked.given c.args.raw.now.me _ r.given (omega (arith, r.number.0)) r.idle)

pub exchange-requires : goal.exchange-requires
exchange-requires g c =
    let r = c.requires in
    let d = led_free g.R.Registers _ _ _ _ _ _ r.given c.compare_exchange-found.ensures.2 c.if-found-ne0.false in
    (search rules, (Some d.0, last_out g.R.Registers (Some d.0) _ _ (ap (λ m. m.1) d.1.is)))
