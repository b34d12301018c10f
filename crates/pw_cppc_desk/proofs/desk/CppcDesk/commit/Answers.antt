use Rattle.std.proofs.Common.{rules, refl, arith}
use Rattle.atomic_table.specs.Table.{rest}
use Rattle.pw_cppc_desk.proofs.Calls.{grow}
use Rattle.pw_cppc_desk.proofs.desk.CppcDesk.commit.Goals as goal

pub store-requires : goal.store-requires
store-requires g c =
    let r = c.requires in let s = c.args.self.now in let x = c.exchange-empty.ensures in (
      search rules,
      omega (arith, s.words),
      grow g.R.Registers _ s.table.shared.key _ _ refl c.args.raw.now.me.0 (rest c.args.raw.now.me.1) c.args.ledger _ _ _ _ r.entry r.count (omega (arith, s.slots)) x.3 r.grown,
    )
