use Rattle.std.proofs.Common.{rules, sym, subst, ℕ}
use Rattle.atomic_table.specs.Table.{Splits}
use Rattle.pw_cppc_desk.specs.Tracks.{left_track, right_track}
use Rattle.pw_cppc_desk.specs.Rule.{Ruled}
use Rattle.pw_cppc_desk.proofs.Numbers.{splits}
use Rattle.pw_cppc_desk.proofs.desk.CppcDesk.split_seat.Goals as goal

pub split_seat-requires : goal.split_seat-requires
split_seat-requires g c =
    let r = c.requires in let x = c.args.raw.now.me.0 in
    let way = λ (n parts : ℕ). Splits (Ruled g.R.Registers c.args.self.now.table.shared.key) c.args.raw.now.id x (left_track n parts x) (right_track n parts x) in (
      search rules,
      search rules,
      subst (λ n. way n _) (sym r.share.0) (subst (λ k. way c.args._number k) (sym r.share.1) (splits g.R.Registers _ _ x _ _ r.idle.0 r.idle.1 r.spare r.parts.0 r.parts.1)),
    )
