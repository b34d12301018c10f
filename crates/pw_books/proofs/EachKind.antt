-- A list of steps for each kind.
use Rattle.std.proofs.Common.{◌≡◌, ◌≢◌, inl, ℕ, ◌<◌, ◌≤◌, List, [], ◌∷◌, ◌++◌, sym, refl, ◌∙◌, subst, arith}
use mathlib.Core.Option.{some}
use mathlib.Core.Logic.{dite}
use native.Mathlib.Decide.{ℕ_discrete}
use lib.ListN.{get_elem?}
use Rattle.pw_books.specs.declared.view.View.{View}
use Rattle.pw_books.specs.Machine.{Machine}
use Rattle.pw_books.specs.Steps.{Kind, find_held, slot_out, slot_back, release_with_entry, release_without_entry, take_turn, draw_number, drawn, in_hand, join_seats, looked, miss_draw, read_made, IsIdle, May, after}
use Rattle.pw_books.specs.Law.{first_view, opened}
use Rattle.pw_books.specs.Kinds.{EachKindIsTaken, IsTaken, kind_number}
use Rattle.pw_books.proofs.Lists.{elem_below, set_else, set_here}
use Rattle.pw_books.proofs.Seating.{Path, Splits, after_draw, cut, drew, drew_at, joins, leader, leader_at, may_cut, may_enter, may_take, one_seat, path_draw, path_take, seat, splits, taken, then_path, then_step}

module _ {E : Type 0} (seat_of : E → ℕ) (Good : List E → Type 0) where
  ends_with : (m : Machine E) → Path seat_of Good opened m → (j : ℕ) (v : View E) (k : Kind E) → get_elem? m.views j ≡ some v
      → May seat_of Good m j v k → IsTaken seat_of Good (kind_number k)
  ends_with m p j v k at may = record {
    before = p.0;
    place = j;
    view = v;
    kind = k;
    end = after seat_of m j v k;
    allowed = joins seat_of Good opened m (after seat_of m j v k) p.0 ((j, v, k) ∷ []) p.1 (at, may, refl);
    is = refl;
  }

  lets_go : IsTaken seat_of Good 6
  lets_go = ends_with opened ([], refl) 0 first_view (release_without_entry 0) refl (refl, refl)

  takes_out : IsTaken seat_of Good 3
  takes_out = ends_with opened ([], refl) 0 first_view slot_out refl (refl, refl)

  puts_back : IsTaken seat_of Good 4
  puts_back = ends_with (after seat_of opened 0 first_view slot_out) (then_step seat_of Good opened opened ([], refl) 0 first_view slot_out refl (refl, refl))
      0 (in_hand first_view) slot_back refl (refl, refl)

  splits_off : Good [] → IsTaken seat_of Good 9
  splits_off good =
      let low : 0 < 65535 = omega arith in let s = one_seat seat_of Good good in
      ends_with (after_draw seat_of Good 0 low s) (path_draw seat_of Good 0 low s) 0 (drew seat_of Good 0 low s) (cut seat_of Good 0 low s)
      (drew_at seat_of Good 0 low s) (may_cut seat_of Good 0 low s)

  -- once there are two seats
  module _ (s : Splits seat_of Good 1) where
    abbrev m : Machine E
    m = s.end

    first : 0 ≤ 1
    first = omega arith

    second : 1 ≤ 1
    second = omega arith

    abbrev a : View E
    a = seat seat_of Good 1 m s.seated 0 first

    abbrev b : View E
    b = seat seat_of Good 1 m s.seated 1 second

    at_a : get_elem? m.views 0 ≡ some a
    at_a = (s.seated.seats 0 first).there

    at_b : get_elem? m.views 1 ≡ some b
    at_b = (s.seated.seats 1 second).there

    idle_a : IsIdle a
    idle_a = (s.seated.seats 0 first).idle

    idle_b : IsIdle b
    idle_b = (s.seated.seats 1 second).idle

    apart : ◌≢◌ {A = ℕ} 1 0
    apart e = omega (arith, e)

    draws : IsTaken seat_of Good 7
    draws = ends_with m s.path 0 a draw_number at_a (idle_a, omega (arith, s.made))

    misses : IsTaken seat_of Good 8
    misses =
        let w : View E = looked m.made a in
        let m1 = after seat_of m 0 a read_made in
        let b1 : get_elem? m1.views 1 ≡ some b = set_else m.views 0 1 w apart ∙ at_b in
        let other : View E = drawn m.made b in
        let may : May seat_of Good m1 1 b draw_number = (idle_b, omega (arith, s.made)) in
        let m2 = after seat_of m1 1 b draw_number in
        let w2 : get_elem? m2.views 0 ≡ some w = set_else m1.views 1 0 other (λ e. omega (arith, e)) ∙ set_here m.views 0 w (elem_below m.views 0 a at_a) in
        ends_with m2 (then_step seat_of Good opened m1 (then_step seat_of Good opened m s.path 0 a read_made at_a idle_a) 1 b draw_number b1 may) 0 w miss_draw w2
        (record { live = idle_a.live; unmarked = idle_a.unmarked; no_turn = idle_a.no_turn; no_slot = idle_a.no_slot }, inl (m.made, refl, omega arith))

    joins_seats : IsTaken seat_of Good 10
    joins_seats = ends_with m s.path 0 a (join_seats 1 b) at_a (apart, at_b, idle_a, idle_b, (s.seated.seats 0 first).told, (s.seated.seats 1 second).told)

    reads : IsTaken seat_of Good 11
    reads = ends_with m s.path 0 a read_made at_a idle_a

    takes : IsTaken seat_of Good 1
    takes = ends_with m s.path 0 a (take_turn 0) at_a (may_take seat_of Good 1 m s.seated 0 first)

    abbrev led_by : Machine E
    led_by = taken seat_of Good 1 m s.seated 0 first

    path_led : Path seat_of Good opened led_by
    path_led = then_path seat_of Good opened m led_by s.path (path_take seat_of Good 1 m s.seated 0 first)

    finds : IsTaken seat_of Good 2
    finds = ends_with led_by path_led 1 b find_held (set_else m.views 0 1 (leader seat_of Good 1 m s.seated 0 first) apart ∙ at_b) (idle_b, λ e. omega (arith, e))

    enters : (e : E) → seat_of e ≡ 0 → Good (e ∷ []) → IsTaken seat_of Good 5
    enters e is good = ends_with led_by path_led 0 (leader seat_of Good 1 m s.seated 0 first) (release_with_entry e 0) (leader_at seat_of Good 1 m s.seated 0 first)
        (may_enter seat_of Good 1 m s.seated 0 first e is (subst (λ h. Good (h ++ e ∷ [])) (sym s.history) good))

  or_last : (A : ℕ → Type 0) (n k : ℕ) → A k → (n ≢ k → A n) → A n
  or_last A x k here later = dite (ℕ_discrete x k) (λ e. subst A (sym e) here) later

  pub each_kind_is_taken : EachKindIsTaken seat_of Good
  each_kind_is_taken good e is may n from to =
      let s = splits seat_of Good good 1 (omega arith) in
      let I = IsTaken seat_of Good in
      or_last I n 1 (takes s) (λ n1.
      or_last I n 2 (finds s) (λ n2.
      or_last I n 3 takes_out (λ n3.
      or_last I n 4 puts_back (λ n4.
      or_last I n 5 (enters s e is may) (λ n5.
      or_last I n 6 lets_go (λ n6.
      or_last I n 7 (draws s) (λ n7.
      or_last I n 8 (misses s) (λ n8.
      or_last I n 9 (splits_off good) (λ n9.
      or_last I n 10 (joins_seats s) (λ n10.
      or_last I n 11 (reads s) (λ n11.
      absurd (omega (arith, from, to, n1, n2, n3, n4, n5, n6, n7, n8, n9, n10, n11)))))))))))))
