-- Lists of steps: the desk is opened, seats are split off, one a number, and one of them makes an entry.
use Rattle.std.proofs.Common.{◌≡◌, ℕ, zero, suc, ◌+◌, ◌<◌, ◌≤◌, List, [], ◌∷◌, ◌++◌, length, set, sym, refl, ap, ◌∙◌, subst, arith, length-append, length-set}
use Rattle.std.specs.Prelude.{None}
use mathlib.Core.Option.{some, some-injective}
use mathlib.Core.Logic.{dite}
use native.Mathlib.Decide.{ℕ_discrete}
use lib.ListN.{get_elem?}
use Rattle.pw_books.specs.declared.view.View.{View}
use Rattle.pw_books.specs.Machine.{Machine, Invariant}
use Rattle.pw_books.specs.Steps.{Kind, IsIdle, May, after, draw_number, drawn, entered, led, left_of, let_go, release_with_entry, release_without_entry, right_of, split_seat, take_turn}
use Rattle.pw_books.specs.Law.{Steps, first_view, opened}
use Rattle.pw_books.proofs.Lists.{at_longer, elem_below, set_else, set_here}
use Rattle.pw_books.proofs.Keeps.{opens, step_keeps}
use Rattle.pw_books.proofs.Told.{is_told}

pub at_end : {A : Type 0} (l : List A) (a : A) → get_elem? (l ++ a ∷ []) (length l) ≡ some a
at_end [] a = refl
at_end (x ∷ xs) a = at_end xs a

pub from_zero : (n : ℕ) → 0 ≤ n
from_zero n = omega arith

module _ {E : Type 0} (seat_of : E → ℕ) (Good : List E → Type 0) where
  -- # Paths

  abbrev pub Path : Machine E → Machine E → Type 0
  Path m end = (steps : List (ℕ × View E × Kind E)) × Steps seat_of Good m steps end

  pub joins : (m n end : Machine E) (a b : List (ℕ × View E × Kind E)) → Steps seat_of Good m a n → Steps seat_of Good n b end
      → Steps seat_of Good m (a ++ b) end
  joins m n end [] b e f = subst (λ x. Steps seat_of Good x b end) (sym e) f
  joins m n end (s ∷ ss) b e f = (e.0, e.1, joins (after seat_of m s.0 s.1 s.2) n end ss b e.2 f)

  abbrev pub then_path : (m n end : Machine E) → Path m n → Path n end → Path m end
  then_path m n end p q = (p.0 ++ q.0, joins m n end p.0 q.0 p.1 q.1)

  -- one step more
  abbrev pub then_step : (m n : Machine E) → Path m n → (j : ℕ) (v : View E) (k : Kind E) → get_elem? n.views j ≡ some v
      → May seat_of Good n j v k → Path m (after seat_of n j v k)
  then_step m n p j v k at may = then_path m n (after seat_of n j v k) p ((j, v, k) ∷ [], (at, may, refl))

  -- # Seats

  -- Of each number up to n the seat stands at its place, and all are idle.
  pub record Seat (m : Machine E) (k : ℕ) : Type 0 where
    pub view : View E
    pub there : get_elem? m.views k ≡ some view
    pub number : view.number ≡ k
    pub idle : IsIdle view
    pub told : view.told ≡ None

  pub record Seated (n : ℕ) (m : Machine E) : Type 0 where
    pub inv : Invariant seat_of Good m
    pub free : m.turn ≡ 0
    pub wide : length m.views ≡ suc n
    pub seats : (k : ℕ) → k ≤ n → Seat m k

  -- what the first seat has, once the numbers up to n have seats
  pub record Splits (n : ℕ) : Type 0 where
    pub end : Machine E
    pub path : Path opened end
    pub seated : Seated n end
    pub made : end.made ≡ suc n
    pub history : end.history ≡ []
    pub parts : (v : View E) → get_elem? end.views 0 ≡ some v → v.parts + n ≡ 65536

  abbrev pub open_view : View E
  open_view = let_go 0 first_view

  pub one_seat : Good [] → Splits 0
  one_seat good =
      let k = release_without_entry 0 in let may : May seat_of Good opened 0 first_view k = (refl, refl) in
      record {
        end = after seat_of opened 0 first_view k;
        path = then_step opened opened ([], refl) 0 first_view k refl may;
        seated = record {
          inv = step_keeps seat_of Good opened 0 first_view k (opens seat_of Good good) refl may;
          free = refl;
          wide = refl;
          seats = λ k le. record {
            view = open_view;
            there = ap (λ k. get_elem? (open_view ∷ []) k) (let z : k ≡ 0 = omega (arith, le) in z);
            number = omega (arith, le);
            idle = record { live = omega arith; unmarked = refl; no_turn = refl; no_slot = refl };
            told = refl;
          };
        };
        made = refl;
        history = refl;
        parts = λ v there. omega (arith, ap (λ (u : View E). u.parts) (some-injective open_view v there));
      }

  -- one more number is drawn
  module _ (n : ℕ) (low : n < 65535) (s : Splits n) where
    abbrev opener : Seat s.end 0
    opener = s.seated.seats 0 (from_zero n)

    abbrev first : View E
    first = opener.view

    first_at : get_elem? s.end.views 0 ≡ some first
    first_at = opener.there

    first_idle : IsIdle first
    first_idle = opener.idle

    pub may_draw : May seat_of Good s.end 0 first draw_number
    may_draw = (first_idle, omega (arith, low, s.made))

    abbrev pub drew : View E
    drew = drawn s.end.made first

    abbrev pub after_draw : Machine E
    after_draw = after seat_of s.end 0 first draw_number

    pub drew_at : get_elem? after_draw.views 0 ≡ some drew
    drew_at = set_here s.end.views 0 drew (elem_below s.end.views 0 first first_at)

    pub path_draw : Path opened after_draw
    path_draw = then_step opened s.end s.path 0 first draw_number first_at may_draw

    -- and split off
    abbrev pub cut : Kind E
    cut = split_seat s.end.made 1

    pub may_cut : May seat_of Good after_draw 0 drew cut
    may_cut =
        let a = first_idle in let count = s.parts first first_at in (
          record { live = a.live; unmarked = a.unmarked; no_turn = a.no_turn; no_slot = a.no_slot },
          opener.told,
          (is_told seat_of Good s.end s.seated.inv 0 first first_at).drawn_is_spare a.live,
          omega arith,
          omega (arith, count, low),
        )

    pub more_seats : Splits (suc n)
    more_seats =
        let m = s.end in let v = first in let a = first_idle in let count = s.parts first first_at in
        let left = left_of m.made 1 drew in let right = right_of m.made 1 drew in
        let i1 = step_keeps seat_of Good m 0 v draw_number s.seated.inv first_at may_draw in
        let vs : List (View E) = set (set m.views 0 drew) 0 left in
        let size : length vs ≡ suc n = length-set (set m.views 0 drew) 0 left ∙ (length-set m.views 0 drew ∙ s.seated.wide) in
        let here : get_elem? vs 0 ≡ some left = set_here (set m.views 0 drew) 0 left (omega (arith, size, length-set (set m.views 0 drew) 0 left)) in
        record {
          end = after seat_of after_draw 0 drew cut;
          path = then_step opened after_draw path_draw 0 drew cut drew_at may_cut;
          seated = record {
            inv = step_keeps seat_of Good after_draw 0 drew cut i1 drew_at may_cut;
            free = s.seated.free;
            wide = let longer = length-append vs (right ∷ []) in omega (arith, longer, size);
            seats = λ p le. dite (ℕ_discrete p (suc n))
                (λ e. record {
                  view = right;
                  there = ap (λ q. get_elem? (vs ++ right ∷ []) q) (e ∙ sym size) ∙ at_end vs right;
                  number = s.made ∙ sym e;
                  idle = record { live = omega arith; unmarked = refl; no_turn = refl; no_slot = refl };
                  told = refl;
                })
                (λ ne. dite (ℕ_discrete p 0)
                (λ z. record {
                  view = left;
                  there = ap (λ q. get_elem? (vs ++ right ∷ []) q) z ∙ at_longer vs (right ∷ []) 0 left here;
                  number = opener.number ∙ sym z;
                  idle = record { live = omega (arith, count, low); unmarked = a.unmarked; no_turn = a.no_turn; no_slot = a.no_slot };
                  told = opener.told;
                })
                (λ nz.
                let seat = s.seated.seats p (omega (arith, le, ne)) in
                record {
                  view = seat.view;
                  there = at_longer vs (right ∷ []) p seat.view (set_else (set m.views 0 drew) 0 p left nz ∙ (set_else m.views 0 p drew nz ∙ seat.there));
                  number =
                      seat.number;
                  idle = seat.idle;
                  told = seat.told;
                }));
          };
          made = omega (arith, s.made);
          history = s.history;
          parts = λ u there.
              let same : left ≡ u = some-injective left u (sym (at_longer vs (right ∷ []) 0 left here) ∙ there) in
              omega (arith, count, low, ap (λ (x : View E). x.parts) same);
        }

  pub splits : Good [] → (n : ℕ) → n ≤ 65535 → Splits n
  splits good zero le = one_seat good
  splits good (suc n) le = more_seats n (omega (arith, le)) (splits good n (omega (arith, le)))

  -- # An entry

  module _ (n : ℕ) (m : Machine E) (s : Seated n m) (j : ℕ) (le : j ≤ n) where
    abbrev pub seat : View E
    seat = (s.seats j le).view

    seat_at : get_elem? m.views j ≡ some seat
    seat_at = (s.seats j le).there

    seat_idle : IsIdle seat
    seat_idle = (s.seats j le).idle

    pub may_take : May seat_of Good m j seat (take_turn 0)
    may_take = (seat_idle, s.free)

    abbrev pub leader : View E
    leader = led m.history 0 seat

    abbrev pub taken : Machine E
    taken = after seat_of m j seat (take_turn 0)

    pub leader_at : get_elem? taken.views j ≡ some leader
    leader_at = set_here m.views j leader (elem_below m.views j seat seat_at)

    pub path_take : Path m taken
    path_take = then_step m m ([], refl) j seat (take_turn 0) seat_at may_take

    module _ (e : E) (is : seat_of e ≡ j) (good : Good (m.history ++ e ∷ [])) where
      pub may_enter : May seat_of Good taken j leader (release_with_entry e 0)
      may_enter = record { turn = refl; unmarked = seat_idle.unmarked; back = seat_idle.no_slot; seat = is ∙ sym (s.seats j le).number; good = good }

      abbrev pub entry_made : Machine E
      entry_made = after seat_of taken j leader (release_with_entry e 0)

      pub path_entry : Path m entry_made
      path_entry = then_step m taken path_take j leader (release_with_entry e 0) leader_at may_enter

      -- all are idle again
      pub seated_again : Seated n entry_made
      seated_again =
          let w = entered seat_of e 0 leader in let a = seat_idle in let k = release_with_entry e 0 in
          let vs : List (View E) = set m.views j leader in
          record {
            inv = step_keeps seat_of Good taken j leader k (step_keeps seat_of Good m j seat (take_turn 0) s.inv seat_at may_take) leader_at may_enter;
            free = refl;
            wide = length-set vs j w ∙ (length-set m.views j leader ∙ s.wide);
            seats = λ p low. dite (ℕ_discrete p j)
                (λ same. record {
                  view = w;
                  there = ap (λ q. get_elem? (set vs j w) q) same ∙ set_here vs j w (elem_below vs j leader leader_at);
                  number = (s.seats j le).number ∙ sym same;
                  idle = record { live = a.live; unmarked = a.unmarked; no_turn = refl; no_slot = a.no_slot };
                  told = (s.seats j le).told;
                })
                (λ ne.
                let other = s.seats p low in
                record { view = other.view; there = set_else vs j p w ne ∙ (set_else m.views j p leader ne ∙ other.there); number = other.number; idle = other.idle; told = other.told });
          }
