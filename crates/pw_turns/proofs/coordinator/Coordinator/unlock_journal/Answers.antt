use Rattle.std.proofs.Common.{rules, refl, arith, ap, sym, ◌∙◌}
use Rattle.atomic_table.specs.Table.{rest}
use Rattle.pw_model.specs.Records.{record_count}
use Rattle.pw_rule.proofs.Calls.{stay}
use Rattle.pw_turns.proofs.coordinator.Coordinator.unlock_journal.Goals as goal

pub store-requires : goal.store-requires
store-requires g c =
    let r = c.requires in let s = c.args.self.now in let x = c.exchange-empty.ensures in (
      search rules,
      omega (arith, s.words),
      stay g.R.Registers _ _ _ _ _ s.counts.records refl refl (s.counted.2 ∙ ap record_count (sym s.planned)) c.args.raw.now.me.0
          (rest c.args.raw.now.me.1) c.args.journal _ _ _ r.count (omega arith) (omega (arith, s.slots)) x.3 r.found,
    )
