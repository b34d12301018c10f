-- The coordinator is opened, and seats are split off, one a number.
use Rattle.std.proofs.Common.{◌≡◌, ◌≢◌, inr, ⊎_elim, ℕ, zero, suc, ◌+◌, ◌<◌, ◌≤◌, List, [], ◌∷◌, ◌++◌, None, length, set, sym, refl, ap, ◌∙◌, arith, append_assoc, length-append, length-set}
use mathlib.Core.Option.{some, some-injective}
use mathlib.Core.Logic.{dite}
use native.Mathlib.Decide.{ℕ_discrete}
use lib.ListN.{get_elem?}
use Rattle.pw_model.specs.Records.{Part, record_count}
use Rattle.pw_machine.specs.declared.view.View.{View}
use Rattle.pw_machine.specs.Machine.{Given, Machine, Invariant}
use Rattle.pw_machine.specs.Steps.{Kind, IsIdle, May, after, drawn, draw_number, left_of, left_with, let_go, release_without_entry, right_of, split_seat}
use Rattle.pw_machine.specs.Law.{all_held, first_view, opened}
use Rattle.pw_books.proofs.Lists.{elem_below, at_set, at_snoc, at_longer, set_else, set_here}
use Rattle.pw_machine.proofs.Keeps.{opens, step_keeps}
use Rattle.pw_machine.proofs.Told.{drawn_is_spare}
use Rattle.pw_machine.proofs.Paths.{Leads, Path, Quiet, leads_on, once, one_step, path_keeps, then_path}
use Rattle.pw_machine.proofs.Cycles.{releases}
use Rattle.pw_books.proofs.Seating.{at_end}

-- # Opening

-- the first view once all turns are back
abbrev pub open_view : Given → List Part → View
open_view given values = let_go given.count (left_with [] (first_view values))

pub record Opened (given : Given) (values : List Part) : Type 0 where
  pub last : Machine
  pub before : Leads (opened given values) last 0 (left_with [] (first_view values))
  pub end : Machine
  pub is : end ≡ after last 0 (left_with [] (first_view values)) (release_without_entry given.count)
  pub may : May last 0 (left_with [] (first_view values)) (release_without_entry given.count)
  pub leads : Leads (opened given values) end 0 (open_view given values)
  pub history : end.history ≡ []

pub first_is : (values : List Part) → first_view values ≡ left_with (all_held 0 values) (first_view values)
first_is [] = refl
first_is (x ∷ xs) = refl

module _ (given : Given) (values : List Part) (sized : length values ≡ record_count given.plan) where
  pub opening : Opened given values
  opening =
      let m = opened given values in
      let r = releases (length (all_held 0 values)) (all_held 0 values) (first_view values) (omega arith) (inr refl) refl m (opens given values sized) 0 (ap (λ (v : View). some v) (first_is values))
      in
      let v = left_with [] (first_view values) in
      let k = release_without_entry given.count in
      let may : May r.end 0 v k = (refl, refl, inr (refl, refl, let same : r.end.given.count ≡ given.count = ap (λ (g : Given). g.count) r.leads.given in omega (arith, same))) in
      let l = once r.end 0 v (open_view given values) k r.leads.there may refl refl in
      record { last = r.end; before = r.leads; end = after r.end 0 v k; is = refl; may = may; leads = leads_on m r.end (after r.end 0 v k) 0 v (open_view given values) r.leads l; history = r.history }

-- # Seats

-- Of the numbers up to n each has a seat, at its place, and all are idle.
pub record Seat (m : Machine) (k : ℕ) : Type 0 where
  pub view : View
  pub there : get_elem? m.views k ≡ some view
  pub number : view.number ≡ k
  pub idle : IsIdle view
  pub told : view.told ≡ None

pub record Seated (n : ℕ) (m : Machine) : Type 0 where
  pub inv : Invariant m
  pub wide : length m.views ≡ suc n
  pub seats : (k : ℕ) → k ≤ n → Seat m k

-- where all seats are idle none holds a turn
pub seated_quiet : (n : ℕ) (m : Machine) (j : ℕ) → Seated n m → Quiet m j
seated_quiet n m j s k u ne there =
    let low = elem_below m.views k u there in
    let seat = s.seats k (omega (arith, low, s.wide)) in
    let same : seat.view ≡ u = some-injective seat.view u (sym seat.there ∙ there) in
    (ap (λ (v : View). v.held) (sym same) ∙ seat.idle.held, ap (λ (v : View). v.leads) (sym same) ∙ seat.idle.no_journal)

-- one seat went on and is idle again
pub seated_still : (n : ℕ) (m end : Machine) (j : ℕ) (w : View) → Seated n m → Leads m end j w → w.number ≡ j → IsIdle w → w.told ≡ None
    → Seated n end
seated_still n m end j w s l number idle told = record {
  inv = path_keeps m l.path.0 end s.inv l.path.1;
  wide = l.wide ∙ s.wide;
  seats = λ k le. dite (ℕ_discrete k j)
      (λ e. record { view = w; there = ap (λ k. get_elem? end.views k) e ∙ l.there; number = number ∙ sym e; idle = idle; told = told })
      (λ ne. let seat = s.seats k le in record { view = seat.view; there = l.others k ne ∙ seat.there; number = seat.number; idle = seat.idle; told = seat.told });
}

-- the last of the steps splits this number off
pub record SplitLast (steps : List (ℕ × View × Kind)) (n : ℕ) : Type 0 where
  pub before : List (ℕ × View × Kind)
  pub view : View
  pub is : steps ≡ before ++ (0, view, split_seat n 1) ∷ []

-- what the first seat has, once the numbers up to n have seats
pub record Splits (given : Given) (values : List Part) (n : ℕ) : Type 0 where
  pub end : Machine
  pub path : Path (opened given values) end
  pub seated : Seated n end
  pub given_same : end.given ≡ given
  pub made : end.made ≡ suc n
  pub history : end.history ≡ []
  pub parts : (v : View) → get_elem? end.views 0 ≡ some v → v.parts + n ≡ 65536
  pub meets : (k : ℕ) (v : View) → get_elem? end.views k ≡ some v → v.meets ≡ 0
  pub part_else : (k : ℕ) (v : View) → 0 < k → get_elem? end.views k ≡ some v → v.parts ≡ 1
  pub split_last : (k : ℕ) → n ≡ suc k → SplitLast path.0 n

module _ (given : Given) (values : List Part) (sized : length values ≡ record_count given.plan) where
  only_first : (o : Opened given values) (k : ℕ) (u : View) → get_elem? o.end.views k ≡ some u → (k ≡ 0) × (open_view given values ≡ u)
  only_first o k u there =
      let low = elem_below o.end.views k u there in
      let first : k ≡ 0 = omega (arith, low, o.leads.wide) in
      (first, some-injective (open_view given values) u (sym o.leads.there ∙ (ap (λ k. get_elem? o.end.views k) (sym first) ∙ there)))

  one_seat : Splits given values 0
  one_seat =
      let o = opening given values sized in
      record {
        end = o.end;
        path = o.leads.path;
        seated = record {
          inv = path_keeps (opened given values) o.leads.path.0 o.end (opens given values sized) o.leads.path.1;
          wide = o.leads.wide;
          seats = λ k le. record {
            view = open_view given values;
            there = ap (λ k. get_elem? o.end.views k) (let z : k ≡ 0 = omega (arith, le) in z) ∙ o.leads.there;
            number = omega (arith, le);
            idle = record { live = omega arith; unmarked = refl; request = refl; held = refl; no_journal = refl; no_slot = refl };
            told = refl;
          };
        };
        given_same = o.leads.given;
        made = o.leads.made;
        history = o.history;
        parts = λ v there. let e = (only_first o 0 v there).1 in omega (arith, ap (λ (u : View). u.parts) e);
        meets = λ k v there. sym (ap (λ (u : View). u.meets) (only_first o k v there).1);
        part_else = λ k v more there. absurd (let z = (only_first o k v there).0 in omega (arith, z, more));
        split_last = λ k e. absurd (omega (arith, e));
      }

  -- one more number is drawn and split off
  more_seats : (n : ℕ) → n < 65535 → Splits given values n → Splits given values (suc n)
  more_seats n low s =
      let m = s.end in
      let i = s.seated.inv in
      let first = s.seated.seats 0 (omega arith) in
      let v = first.view in
      let a = first.idle in
      let count = s.parts v first.there in
      let drew = drawn m.made v in
      let may : May m 0 v draw_number = (a, omega (arith, low, s.made)) in
      let m1 = after m 0 v draw_number in
      let i1 = step_keeps m 0 v draw_number i first.there may in
      let there1 : get_elem? m1.views 0 ≡ some drew = set_here m.views 0 drew (elem_below m.views 0 v first.there) in
      let k = split_seat m.made 1 in
      let idle1 : IsIdle drew = record { live = a.live; unmarked = a.unmarked; request = a.request; held = a.held; no_journal = a.no_journal; no_slot = a.no_slot } in
      let may1 : May m1 0 drew k = (idle1, first.told, drawn_is_spare m i 0 v first.there a.live, omega arith, omega (arith, count, low)) in
      let left = left_of m.made 1 drew in
      let right = right_of m.made 1 drew in
      let m2 = after m1 0 drew k in
      let vs : List View = set (set m.views 0 drew) 0 left in
      let size : length vs ≡ suc n = length-set (set m.views 0 drew) 0 left ∙ (length-set m.views 0 drew ∙ s.seated.wide) in
      let here : get_elem? vs 0 ≡ some left = set_here (set m.views 0 drew) 0 left (omega (arith, size, length-set (set m.views 0 drew) 0 left)) in
      record {
        end = m2;
        path = then_path (opened given values) m m2 s.path (then_path m m1 m2 (one_step m 0 v draw_number first.there may) (one_step m1 0 drew k there1 may1));
        seated = record {
          inv = step_keeps m1 0 drew k i1 there1 may1;
          wide = let longer = length-append vs (right ∷ []) in omega (arith, longer, size);
          seats = λ p le. dite (ℕ_discrete p (suc n))
              (λ e. record {
                view = right;
                there = ap (λ q. get_elem? (vs ++ right ∷ []) q) (e ∙ sym size) ∙ at_end vs right;
                number = s.made ∙ sym e;
                idle = record { live = omega arith; unmarked = refl; request = refl; held = refl; no_journal = refl; no_slot = refl };
                told = refl;
              })
              (λ ne. dite (ℕ_discrete p 0)
              (λ z. record {
                view = left;
                there = ap (λ q. get_elem? (vs ++ right ∷ []) q) z ∙ at_longer vs (right ∷ []) 0 left here;
                number = first.number ∙ sym z;
                idle = record { live = omega (arith, count, low); unmarked = a.unmarked; request = a.request; held = a.held; no_journal = a.no_journal; no_slot = a.no_slot };
                told = first.told;
              })
              (λ nz.
              let seat = s.seated.seats p (omega (arith, le, ne)) in
              record {
                view = seat.view;
                there = at_longer vs (right ∷ []) p seat.view (set_else (set m.views 0 drew) 0 p left nz ∙ (set_else m.views 0 p drew nz ∙ seat.there));
                number = seat.number;
                idle = seat.idle;
                told = seat.told;
              }));
        };
        given_same = s.given_same;
        made = omega (arith, s.made);
        history = s.history;
        parts = λ u there.
            let same : left ≡ u = some-injective left u (sym (at_longer vs (right ∷ []) 0 left here) ∙ there) in
            omega (arith, count, low, ap (λ (x : View). x.parts) same);
        meets = λ p u there. ⊎_elim
            (λ (b : get_elem? vs p ≡ some u). ⊎_elim
            (λ (t : (p ≡ 0) × (left ≡ u)). sym (ap (λ (x : View). x.meets) t.1) ∙ s.meets 0 v first.there)
            (λ (t : (p ≢ 0) × (get_elem? (set m.views 0 drew) p ≡ some u)). s.meets p u (sym (set_else m.views 0 p drew t.0) ∙ t.1))
            (at_set (set m.views 0 drew) 0 p left u b))
            (λ (e : right ≡ u). sym (ap (λ (x : View). x.meets) e))
            (at_snoc vs right u p there);
        part_else = λ p u more there. ⊎_elim
            (λ (b : get_elem? vs p ≡ some u). ⊎_elim
            (λ (t : (p ≡ 0) × (left ≡ u)). absurd (omega (arith, more, t.0)))
            (λ (t : (p ≢ 0) × (get_elem? (set m.views 0 drew) p ≡ some u)). s.part_else p u more (sym (set_else m.views 0 p drew t.0) ∙ t.1))
            (at_set (set m.views 0 drew) 0 p left u b))
            (λ (e : right ≡ u). sym (ap (λ (x : View). x.parts) e))
            (at_snoc vs right u p there);
        split_last = λ p e. record {
          before = s.path.0 ++ (0, v, draw_number) ∷ [];
          view = drew;
          is = ap (λ x. s.path.0 ++ (0, v, draw_number) ∷ (0, drew, split_seat x 1) ∷ []) s.made ∙ sym (append_assoc s.path.0 ((0, v, draw_number) ∷ []) ((0, drew, split_seat (suc n) 1) ∷ []));
        };
      }

  pub splits : (n : ℕ) → n ≤ 65535 → Splits given values n
  splits zero le = one_seat
  splits (suc n) le = more_seats n (omega (arith, le)) (splits n (omega (arith, le)))
