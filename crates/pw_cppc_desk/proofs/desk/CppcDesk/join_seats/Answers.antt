use Rattle.std.proofs.Common.{rules}
use Rattle.pw_cppc_desk.proofs.Numbers.{joins}
use Rattle.pw_cppc_desk.proofs.desk.CppcDesk.join_seats.Goals as goal

pub join_seat-requires : goal.join_seat-requires
join_seat-requires g c = let r = c.requires in
    (search rules, r.other.0, r.other.1, search rules, joins g.R.Registers _ _ c.args.raw.now.me.0 _ c.args.other.me.0 r.idle.0 r.idle.1 r.none_told.0 r.none_told.1)
