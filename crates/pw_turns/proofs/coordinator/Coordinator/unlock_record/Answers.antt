use Rattle.std.proofs.Common.{rules, arith}
use Rattle.atomic_table.specs.Table.{rest}
use Rattle.pw_turns.specs.Steps.{content_part}
use Rattle.pw_rule.proofs.Calls.{free}
use Rattle.pw_turns.proofs.coordinator.Coordinator.unlock_record.Goals as goal

pub store-requires : goal.store-requires
store-requires g c =
    let r = c.requires in let s = c.args.self.now in let x = c.exchange-empty.ensures in (
      search rules,
      omega (arith, s.words, s.counted.2, r.turn),
      free g.R.Registers _ _ _ s.plan c.args.raw.now.me.0 (rest c.args.raw.now.me.1) c.args.turn _ (content_part c.args.content) c.args.content _
          s.planned (omega arith) (omega (arith, s.slots, s.counted.2, r.turn)) x.3 r.holds r.releasing.0 r.noted r.releasing.1,
    )
