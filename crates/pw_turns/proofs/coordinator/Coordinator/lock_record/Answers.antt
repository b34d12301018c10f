use Rattle.std.proofs.Common.{rules, refl, ap, Some, arith}
use Rattle.pw_turns.proofs.Moves.{last_out, takes, took_free}
use Rattle.pw_turns.proofs.coordinator.Coordinator.lock_record.Goals as goal

pub compare_exchange-found-requires : goal.compare_exchange-found-requires
compare_exchange-found-requires g c =
    let r = c.requires in let s = c.args.self.now in (
      search rules,
      omega (arith, s.words, s.counted.2, r.turn),
      takes g.R.Registers _ _ _ s.plan s.planned _ _ _ _ _ c.args.turn _ _ r.given r.asked (omega arith) r.turn
          (omega (arith, r.number.0)) r.asks r.next,
    )

pub exchange-requires : goal.exchange-requires
exchange-requires g c =
    let r = c.requires in
    let d = took_free _ _ _ _ _ _ c.args.turn _ _ _ _ _ r.given r.asked (omega arith) c.compare_exchange-found.ensures.2 c.if-found-ne0.false in
    (search rules, (Some d.content, last_out c.args.turn _ (Some d.content) _ _ refl (ap (λ m. m.1) d.is)))
