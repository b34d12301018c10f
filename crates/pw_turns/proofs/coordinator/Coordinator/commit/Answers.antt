use Rattle.std.proofs.Common.{rules, arith}
use Rattle.pw_turns.proofs.Moves.{puts}
use Rattle.pw_turns.proofs.coordinator.Coordinator.commit.Goals as goal

pub store-requires : goal.store-requires
store-requires g c =
    let r = c.requires in let s = c.args.self.now in let x = c.exchange-empty.ensures in (
      search rules,
      omega (arith, s.words),
      puts g.R.Registers _ s.table.shared.key _ s.plan s.planned _ s.counts.records c.args.raw.now.me _ c.args.journal _ _ _ _ r.given s.counted.2 r.entry
          r.count (omega arith) (omega (arith, s.slots)) x.3 r.grown,
    )
