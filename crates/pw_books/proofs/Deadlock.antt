-- Where a seat finds the turn held, its holder can go on.
use Rattle.std.proofs.Common.{◌≡◌, inl, inr, ⊎_elim, ℕ, List, true, false}
use Rattle.pw_books.specs.Waits.{NoDeadlock}
use Rattle.pw_books.proofs.Lists.{is_true, either_is}
use Rattle.pw_books.specs.Machine.{holds, seat_number}
use Rattle.pw_books.proofs.Turns.{holder}
use Rattle.pw_books.proofs.Keeps.{law}

pub no_deadlock : {E : Type 0} (seat_of : E → ℕ) (Good : List E → Type 0) → NoDeadlock seat_of Good
no_deadlock seat_of Good steps end good e j v at may =
    let r = holder seat_number end.turn holds end.views (law seat_of Good steps end good e).holder may.1 in
    let h = is_true r.1.holds r.3 in
    record {
      place = r.0;
      view = r.1;
      there = r.2;
      holds_turn = h;
      goes_on = ⊎_elim (λ (out : r.1.out ≡ true). inl (h, out)) (λ (home : r.1.out ≡ false). inr (λ count. (h, home))) (either_is r.1.out);
    }
