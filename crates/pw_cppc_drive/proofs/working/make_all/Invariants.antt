use Rattle.std.proofs.Common.{◌≡◌, take}
use Rattle.pw_cppc_desk.specs.Owning.{Owns}
use Rattle.pw_cppc_desk.specs.Views.{view_in}
use Rattle.pw_books.specs.Workers.{HasAsked}
use Rattle.pw_cppc_drive.specs.Lawful.{telling}
use Rattle.pw_cppc_drive.proofs.working.make_all.Given as goal

abbrev pub invariant-loop-request : goal.invariant-loop-request
invariant-loop-request g l =
    let v = view_in l.seat.badge.views in
    record {
      owns : Owns l.desk.table.shared.table_id l.seat;
      parts : v.parts ≡ (view_in l.initial.seat.badge.views).parts;
      asked : HasAsked telling (take l.request-index l.requests) v.number v.book;
    }
