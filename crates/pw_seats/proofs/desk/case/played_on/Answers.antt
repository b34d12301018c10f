use Rattle.std.proofs.Common.{◌≡◌, ◌++◌, [], ◌∷◌, sum_by, ap, ◌∙◌, arith, rules}
use Rattle.std.proofs.lemmas.List.Elements.{All-cons, All-nil}
use Rattle.std.proofs.lemmas.List.Sums.{sum_by-cons}
use Rattle.pw_cppc_desk.specs.Owning.{Owns}
use Rattle.pw_seats.specs.DeskSeats.{parts_of}
use Rattle.pw_seats.proofs.desk.case.played_on.Goals as goal

pub play_all-told-requires-after_bounds : goal.play_all-told-requires-after_bounds
play_all-told-requires-after_bounds g c κs within =
    let id = c.args.desk.now.table.shared.table_id in
    let empty : c.in-Ok.seats.items ≡ [] = search rules in
    let items : c.push_reserved.new.self.items ≡ c.args.seat ∷ [] = c.push_reserved.ensures.items ∙ ap (λ xs. xs ++ c.args.seat ∷ []) empty in
    let total : sum_by parts_of (c.args.seat ∷ []) ≡ 65536 = omega (arith, sum_by-cons parts_of c.args.seat [], c.requires.alone) in
    rw items (All-cons (Owns id) c.args.seat [] c.requires.owns (All-nil (Owns id)), total)
