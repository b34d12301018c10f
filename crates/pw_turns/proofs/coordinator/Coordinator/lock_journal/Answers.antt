use Rattle.std.proofs.Common.{rules, ap, Some, arith}
use Rattle.pw_rule.specs.declared.content.Content.TheVariants.{Log}
use Rattle.pw_turns.proofs.Moves.{leads, led_free, last_out}
use Rattle.pw_turns.proofs.coordinator.Coordinator.lock_journal.Goals as goal

pub compare_exchange-found-requires : goal.compare_exchange-found-requires
compare_exchange-found-requires g c =
    let r = c.requires in let s = c.args.self.now in (
      search rules,
      omega (arith, s.words),
      leads g.R.Registers _ _ _ s.plan s.planned _ _ _ s.counts.records _ _ _ _ _ r.given r.promise s.counted.2 r.asked (omega arith)
          (omega (arith, r.number.0)) r.asks r.next,
    )

pub exchange-requires : goal.exchange-requires
exchange-requires g c =
    let r = c.requires in let s = c.args.self.now in
    let d = led_free g.R.Registers _ _ _ _ _ _ _ _ s.counts.records _ _ _ _ _ _ r.given r.promise r.asked s.counted.2 (omega arith)
    c.compare_exchange-found.ensures.2 c.if-found-ne0.false in
    (search rules, (Some (Log d.0), last_out s.counts.records _ (Some (Log d.0)) _ _ s.counted.2 (ap (λ m. m.1) d.1.is)))
