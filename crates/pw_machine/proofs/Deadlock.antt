-- Where a seat finds a turn held, a seat that holds a turn can go on: from holder to holder the turns rise, to the journal.
use Rattle.std.proofs.Common.{◌≡◌, ◌≢◌, ◌⊎◌, inl, inr, ⊎_elim, ℕ, zero, suc, ◌+◌, ◌<◌, ◌≤◌, List, [], ◌∷◌, ◌++◌, true, false, Option, Some, None, length, get_or, sym, refl, ap, ◌∙◌, arith, append-nil, append_assoc}
use mathlib.Core.Option.{some}
use mathlib.Core.Logic.{dite}
use native.Mathlib.Decide.{ℕ_discrete}
use lib.ListN.{get_elem?}
use Rattle.pw_model.specs.Records.{Part}
use Rattle.pw_plan.specs.declared.request.Request.{Request}
use Rattle.pw_machine.specs.Turns.{count_turn, StartsWith}
use Rattle.pw_model.specs.Records.{record_count}
use Rattle.pw_machine.specs.Turns.{part_at, way}
use Rattle.pw_machine.proofs.Plans.{height, tallest}
use Rattle.pw_machine.proofs.Plans.{ends_route, height_below, on_route, way_rises, way_within}
use Rattle.pw_machine.specs.declared.view.Held.{Held}
use Rattle.pw_machine.specs.declared.view.View.{View}
use Rattle.pw_machine.specs.Machine.{Machine, now, held_as, turns_of, count_held, holds, leads, Invariant, seat_number}
use Rattle.pw_machine.specs.Steps.{Kind, take_record, find_record_held, record_back, release_record, take_journal, find_journal_held, journal_back, release_without_entry, Asks, IsNext, HoldsAs, May}
use Rattle.pw_machine.specs.Waits.{Waits, CanGoOn, NoDeadlock}
use Rattle.pw_books.proofs.Lists.{one, none-of, is_true, turn_below, either_is}
use Rattle.pw_books.proofs.Turns.{holder}
use Rattle.pw_machine.proofs.Turns.{count-turns}
use Rattle.pw_machine.proofs.Facts.{live_held}
use Rattle.pw_machine.proofs.Requests.{next_in}
use Rattle.pw_machine.proofs.Keeps.{law}

some_held : (t : ℕ) (hs : List Held) → 0 < count_held t hs → 0 < length hs
some_held t [] h = absurd (omega (arith, h))
some_held t (x ∷ xs) h = omega arith

-- what is held was noted
held_noted : (t : ℕ) (hs : List Held) → 0 < count_held t hs → (x : Part) × HoldsAs t x hs
held_noted t [] h = absurd (omega (arith, h))
held_noted t (x ∷ xs) h = dite (ℕ_discrete x.turn t)
    (λ e. (x.noted, inl (ap (λ t. held_as t x.noted) e)))
    (λ ne. let r = held_noted t xs (omega (arith, h, none-of x.turn t ne)) in (r.0, inr r.1))

either_out : (t : ℕ) (xs : List ℕ) → (0 < count_turn t xs) ⊎ (count_turn t xs ≡ 0)
either_out t xs = dite (ℕ_discrete (count_turn t xs) 0) (λ z. inr z) (λ ne. inl (omega arith))

either_request : (r : Option Request) → (r ≡ None) ⊎ ((q : Request) × (r ≡ Some q))
either_request None = inl refl
either_request (Some q) = inr (q, refl)

module _ (m : Machine) (i : Invariant m) where
  -- a seat may release the record t, or first put its value back
  frees : (k : ℕ) (u : View) → get_elem? m.views k ≡ some u → (t : ℕ) → 0 < count_held t u.held
      → ((x : Part) × May m k u (release_record t x)) ⊎ (0 < count_turn t u.out) → CanGoOn m
  frees k u there t more may = ⊎_elim
      (λ (r : (x : Part) × May m k u (release_record t x)). record {
        place = k;
        view = u;
        kind = release_record t r.0;
        there = there;
        holds_turn = inl (some_held t u.held more);
        goes_on = tt;
        may =
            r.1;
      })
      (λ (out : 0 < count_turn t u.out). record { place = k; view = u; kind = record_back t; there = there; holds_turn = inl (some_held t u.held more); goes_on = tt; may = (more, out) })
      may

  -- while open runs, each record can be released
  marked_frees : (k : ℕ) (u : View) → get_elem? m.views k ≡ some u → u.mark ≡ true → (t : ℕ) → 0 < count_held t u.held → CanGoOn m
  marked_frees k u there mark t more = frees k u there t more (⊎_elim (λ (e : 0 < count_turn t u.out). inr e)
      (λ (e : count_turn t u.out ≡ 0). inl (part_at m.given.plan t (now m), (inr (mark, more, refl), e))) (either_out t u.out))

  -- who holds the journal can release it, or what it has to release before
  leader_goes : (k : ℕ) (u : View) → get_elem? m.views k ≡ some u → u.leads ≡ true → CanGoOn m
  leader_goes k u there h = ⊎_elim
      (λ (out : 0 < count_turn (record_count m.given.plan) u.out). record { place = k; view = u; kind = journal_back; there = there; holds_turn = inr h; goes_on = tt; may = (h, out) })
      (λ (home : count_turn (record_count m.given.plan) u.out ≡ 0). ⊎_elim
      (λ (mark : u.mark ≡ true). opening u.held refl mark home)
      (λ (none : u.mark ≡ false). record { place = k; view = u; kind = release_without_entry m.count; there = there; holds_turn = inr h; goes_on = tt; may = (h, home, inl (none, refl)) })
      (either_is u.mark))
      (either_out (record_count m.given.plan) u.out)
    where
      opening : (hs : List Held) → u.held ≡ hs → u.mark ≡ true → count_turn (record_count m.given.plan) u.out ≡ 0 → CanGoOn m
      opening [] e mark home = record { place = k; view = u; kind = release_without_entry m.given.count; there = there; holds_turn = inr h; goes_on = tt; may = (h, home, inr (mark, e, omega arith)) }
      opening (x ∷ xs) e mark home = marked_frees k u there mark x.turn (omega (arith, ap (count_held x.turn) e, one x.turn x.turn refl))

  journal_goes : m.journal ≢ 0 → CanGoOn m
  journal_goes ne = let r = holder seat_number m.journal leads m.views i.turns.leader ne in leader_goes r.0 r.1 r.2 (is_true r.1.leads r.3)

  -- the holder of the record t can go on, or who holds a turn that comes after it
  record_goes : (fuel t : ℕ) → t < record_count m.given.plan → tallest m.given.plan ≤ height m.given.plan t + fuel → get_or m.turns t 0 ≢ 0
      → CanGoOn m
  record_goes zero t low near ne = absurd (omega (arith, near, height_below m.given.plan t))
  record_goes (suc fuel) t low near ne = let r = holder seat_number (get_or m.turns t 0) (holds t) m.views (i.turns.holders t low) ne in holds_it r.0 r.1 r.2 r.3
      (λ t2 low2 up ne2. record_goes fuel t2 low2 (omega (arith, near, up)) ne2)
    where
      holds_it : (k : ℕ) (u : View) → get_elem? m.views k ≡ some u → 0 < count_held t u.held
          → ((t2 : ℕ) → t2 < record_count m.given.plan → height m.given.plan t < height m.given.plan t2 → get_or m.turns t2 0 ≢ 0 → CanGoOn m) → CanGoOn m
      holds_it k u there more next = ⊎_elim
          (λ (mark : u.mark ≡ true). marked_frees k u there mark t more)
          (λ (unmarked : u.mark ≡ false). ⊎_elim
          (λ (h : u.leads ≡ true). leader_goes k u there h)
          (λ (h : u.leads ≡ false). ⊎_elim
          (λ (rel : u.releasing ≡ true). frees k u there t more (⊎_elim (λ (e : 0 < count_turn t u.out). inr e) (λ (e : count_turn t u.out ≡ 0). let x = held_noted t u.held more
          in inl (x.0, (inl (rel, x.1), e))) (either_out t u.out)))
          (λ (before : u.releasing ≡ false). ⊎_elim
          (λ (none : u.request ≡ None). absurd (omega (arith, more, ap (count_held t) (((i.fits k u there).serves unmarked).rests none).0)))
          (λ (q : (q : Request) × (u.request ≡ Some q)). let g = (i.fits k u there).serves unmarked in
          asks q.0 record { of_plan = g.of_plan q.0 q.1; live = live_held m i k u there t more; unmarked = unmarked; before = before; no_journal = h; request = inr q.1 } (g.before q.0 q.1 before).0
          (g.before q.0 q.1 before).1)
          (either_request u.request))
          (either_is u.releasing))
          (either_is u.leads))
          (either_is u.mark)
        where
          asks : (q : Request) → Asks m.given.plan u q → (rest : List ℕ) → way m.given.plan (now m) q ≡ turns_of u.held ++ rest → CanGoOn m
          asks q a [] e = let all : turns_of u.held ≡ way m.given.plan (now m) q = sym (e ∙ append-nil (turns_of u.held)) in let last : IsNext m u q (record_count m.given.plan) =
              ends_route m.given.plan (now m) q (turns_of u.held) all in
              dite (ℕ_discrete m.journal 0)
              (λ free. record { place = k; view = u; kind = take_journal q; there = there; holds_turn = inl (some_held t u.held more); goes_on = tt; may = (a, last, free) })
              (λ taken. journal_goes taken)
          asks q a (t2 ∷ rest) e =
              let next_one : StartsWith (way m.given.plan (now m) q) (turns_of u.held ++ t2 ∷ []) = (rest, e ∙ sym (append_assoc (turns_of u.held) (t2 ∷ []) rest)) in
              let comes : IsNext m u q t2 = on_route m.given.plan (now m) q (turns_of u.held ++ t2 ∷ []) next_one in
              let low2 : t2 < record_count m.given.plan = way_within m.given.plan (now m) q t2 a.of_plan (next_in (way m.given.plan (now m) q) (turns_of u.held) t2 next_one) in
              dite (ℕ_discrete (get_or m.turns t2 0) 0)
              (λ free. record {
                place = k;
                view = u;
                kind = take_record t2 q (part_at m.given.plan t2 (now m));
                there = there;
                holds_turn = inl (some_held t u.held more);
                goes_on = tt;
                may =
                    (a, comes, free, i.values.free t2 low2 free);
              })
              (λ taken. next t2 low2 (way_rises m.given.plan (now m) q (turns_of u.held) t2 a.of_plan next_one t (omega (arith, count-turns t u.held, more))) taken)

  -- where a step would wait, another seat can go on
  pub goes_on_else : (j : ℕ) (v : View) (k : Kind) → get_elem? m.views j ≡ some v → May m j v k → Waits k → CanGoOn m
  goes_on_else j v (find_record_held t q gives_up) at may w =
      record_goes (tallest m.given.plan) t (omega (arith, turn_below m.turns t may.2, i.turns.wide)) (omega arith) may.2
  goes_on_else j v (find_journal_held q gives_up) at may w = journal_goes may.2
  goes_on_else j v k at may w = absurd w

pub no_deadlock : NoDeadlock
no_deadlock given values steps end sized e = goes_on_else end (law given values steps end sized e)
