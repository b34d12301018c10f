-- Workers' seats are joined to the first one, from the last to the first.
use Rattle.std.proofs.Common.{◌≡◌, List, [], ◌∷◌, ◌++◌, map, length, refl, ap, sym, ◌∙◌, arith, length-append, append-nil}
use Rattle.std.proofs.lemmas.List.{map-append}
use Rattle.pw_machine.specs.declared.view.View.{View}
use Rattle.pw_books.specs.Books.{Begins}
use Rattle.pw_books.proofs.Books.{begins_later}
use Rattle.pw_turns.specs.Looks.{IsJoin}
use Rattle.pw_books.specs.Workers.{joined_down}
use Rattle.pw_books.proofs.Gathering.{down_more, each_append}
use Rattle.pw_drive.specs.declared.working.Worker.{Worker}
use Rattle.pw_drive.specs.inner.Workers.{gathered, view_of}
use Rattle.pw_drive.specs.inner.Gathered.{IsGathered}

-- no more seats
pub gathered_end : (v : View) (ws : List Worker) → length ws ≡ 0 → IsGathered v ws v
gathered_end v [] none = record { seen = ([], sym (append-nil v.seen)); saw = tt; book = refl; parts = omega arith }
gathered_end v (w ∷ ws) none = absurd (omega (arith, none))

-- the last worker's seat is joined
pub gathered_last : (v u r : View) (ws : List Worker) (w : Worker) → IsJoin v (view_of w) u → (view_of w).parts ≡ 1 → IsGathered u ws r → IsGathered v (ws ++ w ∷ []) r
gathered_last v u r ws w j one g = record {
  seen = begins_later r.seen u.seen v.seen g.seen j.first;
  saw = each_append (λ x. Begins r.seen (view_of x).seen) ws (w ∷ []) g.saw (begins_later r.seen u.seen (view_of w).seen g.seen j.second, tt);
  book = g.book ∙ ap (λ b. joined_down b (map gathered ws)) j.book ∙ sym (down_more v.book (map gathered ws) (gathered w)) ∙ ap (joined_down v.book) (sym (map-append gathered ws (w ∷ [])));
  parts = let a = g.parts in let b = j.parts in let c = length-append ws (w ∷ []) in omega (arith, a, b, c, one);
}
