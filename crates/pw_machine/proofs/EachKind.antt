-- A list of steps for each kind.
use Rattle.std.proofs.Common.{◌≡◌, ◌≢◌, inl, inr, ℕ, ◌+◌, ◌<◌, ◌≤◌, List, [], ◌∷◌, false, not, nat_lt, Option, Some, None, length, sym, refl, ap, ◌∙◌, subst, arith}
use mathlib.Core.Option.{some}
use mathlib.Core.Logic.{dite}
use native.Mathlib.Decide.{ℕ_discrete}
use lib.ListN.{get_elem?}
use Rattle.acpi_values.specs.Idle.{rows_of}
use Rattle.pw_plan.specs.declared.plan.Plan.{Plan}
use Rattle.pw_plan.specs.declared.request.Request.{Request}
use Rattle.pw_plan.specs.declared.request.Request.TheVariants.{Idle}
use Rattle.pw_plan.specs.Places.{cpu_at, row_at}
use Rattle.pw_plan.specs.Requests.{Has, cpu_of}
use Rattle.pw_model.specs.declared.entry.HistoryEntry.{HistoryEntry}
use Rattle.pw_model.specs.declared.reply.Reply.{Reply}
use Rattle.pw_model.specs.declared.state.State.{State}
use Rattle.pw_model.specs.States.{opening}
use Rattle.pw_model.specs.Answers.{after as state_after, if_accepted}
use Rattle.pw_model.specs.Containers.{ancestors}
use Rattle.pw_model.specs.History.{Faultless, entry_of}
use Rattle.pw_model.specs.Refusals.{fixed_refusal, is_absent, refuse_if, unfit_refusal, ◌or_else◌}
use Rattle.pw_model.specs.declared.reply.Reply.TheVariants.{Disabled, NoState, NoTable, TooSlow}
use Rattle.pw_model.proofs.Joining.{request_of-entry}
use Rattle.pw_model.specs.Records.{Part, footprint, record_count, records_among, runs_in_both, through}
use Rattle.pw_model.specs.Routes.{numbers}
use Rattle.pw_machine.specs.declared.view.View.{View}
use Rattle.pw_machine.specs.Turns.{StartsWith, count_turn, part_at, way}
use Rattle.pw_machine.specs.Machine.{Given, Machine, Invariant, count_held, now, turns_of}
use Rattle.pw_machine.specs.Steps.{Kind, Asks, IsIdle, May, after, draw_number, drawn, find_journal_held, find_record_held, in_hand, join_seats, journal_back, journal_out, led, left_with, looked, miss_draw, read_made, record_back, record_out, release_record, release_with_entry, release_without_entry, split_seat, take_journal, take_record, taken}
use Rattle.pw_machine.specs.Law.{Steps, first_view, opened}
use Rattle.pw_machine.specs.Kinds.{EachKindIsTaken, IsTaken, kind_number}
use Rattle.pw_books.proofs.Lists.{elem_below, one, set_else, set_here}
use Rattle.pw_machine.proofs.Plans.{ends_route, way_within}
use Rattle.pw_machine.proofs.Requests.{next_in}
use Rattle.pw_machine.proofs.Turns.{count-snoc}
use Rattle.pw_machine.proofs.Keeps.{held_all, step_keeps}
use Rattle.pw_machine.proofs.Paths.{Path, joins, journal_free, one_step, then_path}
use Rattle.pw_machine.proofs.Cycles.{enter_asks}
use Rattle.pw_machine.proofs.Seating.{Splits, opening as opening_steps, seated_quiet, splits}
use Rattle.pw_machine.proofs.Histories.{idle_asks}
use Rattle.pw_machine.proofs.Meeting.{begins_in, entry_seat, first_named, first_take, first_waits, follows_in, has_in, none_one, one_one, one_zero, zero_one}

-- # A request that takes no record

refused : (P : Plan) (p : ℕ) → (x : Reply) × (fixed_refusal P (Idle p 0 0) ≡ Some x)
refused P p = step (refuse_if (is_absent (cpu_at P p).idle.kind) NoTable) (unfit_refusal P p) (NoState (length (rows_of (cpu_at P p).idle)))
    (refuse_if (not (row_at (cpu_at P p).idle 0).enabled) Disabled or_else refuse_if (nat_lt 0 (row_at (cpu_at P p).idle 0).latency) (TooSlow (row_at (cpu_at P p).idle 0).latency))
  where
    step : (a b : Option Reply) (c : Reply) (rest : Option Reply) → (x : Reply) × ((a or_else (b or_else (Some c or_else rest))) ≡ Some x)
    step (Some r) b c rest = (r, refl)
    step None (Some r) c rest = (r, refl)
    step None None c rest = (c, refl)

pub way_refused : (P : Plan) (S : State) (p : ℕ) → way P S (Idle p 0 0) ≡ []
unfolding way footprint
way_refused P S p =
    ap (λ r. numbers P (if_accepted r (λ reply. []) (records_among P (λ p. through (runs_in_both P S (state_after P S (Idle p 0 0))) (ancestors P p)) (Idle p 0 0)))) (refused P p).1

-- # Lists of steps that end with a kind

module _ (given : Given) (values : List Part) (sized : length values ≡ record_count given.plan) where
  ends_with : (m : Machine) → Path (opened given values) m → (j : ℕ) (v : View) (k : Kind) → get_elem? m.views j ≡ some v → May m j v k
      → IsTaken given values (kind_number k)
  ends_with m p j v k at may = record {
    before = p.0;
    place = j;
    view = v;
    kind = k;
    end = after m j v k;
    allowed = joins (opened given values) m (after m j v k) p.0 ((j, v, k) ∷ []) p.1 (at, may, refl);
    is = refl;
  }

  on : (m : Machine) → Path (opened given values) m → (j : ℕ) (v : View) (k : Kind) → get_elem? m.views j ≡ some v → May m j v k
      → Path (opened given values) (after m j v k)
  on m p j v k at may = then_path (opened given values) m (after m j v k) p (one_step m j v k at may)

  -- while the coordinator is opened
  releases_record : (t : ℕ) → t < record_count given.plan → IsTaken given values 5
  releases_record t low = ends_with (opened given values) ([], refl) 0 (first_view values) (release_record t (part_at given.plan t (now (opened given values)))) refl
      (inr (refl, omega (arith, held_all 0 t values (omega arith) (omega (arith, low, sized))), refl), refl)

  lets_go : IsTaken given values 11
  lets_go = let o = opening_steps given values sized in ends_with o.last o.before.path 0 (left_with [] (first_view values)) (release_without_entry given.count) o.before.there o.may

  -- once there are two seats
  module _ (s : Splits given values 1) where
    abbrev m : Machine
    m = s.end

    abbrev a : View
    a = (s.seated.seats 0 none_one).view

    abbrev b : View
    b = (s.seated.seats 1 one_one).view

    at_a : get_elem? m.views 0 ≡ some a
    at_a = (s.seated.seats 0 none_one).there

    at_b : get_elem? m.views 1 ≡ some b
    at_b = (s.seated.seats 1 one_one).there

    idle_a : IsIdle a
    idle_a = (s.seated.seats 0 none_one).idle

    idle_b : IsIdle b
    idle_b = (s.seated.seats 1 one_one).idle

    draws : IsTaken given values 12
    draws = ends_with m s.path 0 a draw_number at_a (idle_a, omega (arith, s.made))

    misses : IsTaken given values 13
    misses =
        let w : View = looked m.made a in
        let m1 = after m 0 a read_made in
        let b1 : get_elem? m1.views 1 ≡ some b = set_else m.views 0 1 w one_zero ∙ at_b in
        let drew : View = drawn m.made b in
        let m2 = after m1 1 b draw_number in
        let w2 : get_elem? m2.views 0 ≡ some w = set_else m1.views 1 0 drew zero_one ∙ set_here m.views 0 w (elem_below m.views 0 a at_a) in
        ends_with m2 (on m1 (on m s.path 0 a read_made at_a idle_a) 1 b draw_number b1 (idle_b, omega (arith, s.made))) 0 w miss_draw w2 (
          record { live = idle_a.live; unmarked = idle_a.unmarked; request = idle_a.request; held = idle_a.held; no_journal = idle_a.no_journal; no_slot = idle_a.no_slot },
          inl (m.made, refl, omega arith),
        )

    splits_off : IsTaken given values 14
    splits_off =
        let cut = s.split_last 0 refl in
        record { before = cut.before; place = 0; view = cut.view; kind = split_seat 1 1; end = m; allowed = subst (λ l. Steps (opened given values) l m) cut.is s.path.1; is = refl }

    joins_seats : IsTaken given values 15
    joins_seats = ends_with m s.path 0 a (join_seats 1 b) at_a (one_zero, at_b, idle_a, idle_b, (s.seated.seats 0 none_one).told, (s.seated.seats 1 one_one).told)

    reads : IsTaken given values 16
    reads = ends_with m s.path 0 a read_made at_a idle_a

    -- where a request takes a record first
    module _ (q : Request) (t : ℕ) (has : Has given.plan q) (begins : StartsWith (way given.plan (opening given.plan) q) (t ∷ [])) where
      asks_a : Asks m.given.plan a q
      asks_a = idle_asks m s.seated.inv 0 a at_a idle_a q (has_in given m s.given_same q has)

      first_a : StartsWith (way m.given.plan (now m) q) (t ∷ [])
      first_a = begins_in given m s.given_same s.seated.inv q t has begins

      abbrev part : Part
      part = part_at m.given.plan t (now m)

      abbrev own : View
      own = taken t q part a

      abbrev m1 : Machine
      m1 = after m 0 a (take_record t q part)

      may_take : May m 0 a (take_record t q part)
      may_take = first_take m s.seated.inv 0 a at_a q asks_a idle_a.held t first_a (seated_quiet 1 m 0 s.seated)

      inv_one : Invariant m1
      inv_one = step_keeps m 0 a (take_record t q part) s.seated.inv at_a may_take

      own_at : get_elem? m1.views 0 ≡ some own
      own_at = set_here m.views 0 own (elem_below m.views 0 a at_a)

      holds_it : 0 < count_held t own.held
      holds_it = omega (arith, count-snoc t a.held t part, one t t refl)

      takes : IsTaken given values 1
      takes = ends_with m s.path 0 a (take_record t q part) at_a may_take

      finds : IsTaken given values 2
      finds =
          let b1 : get_elem? m1.views 1 ≡ some b = set_else m.views 0 1 own one_zero ∙ at_b in
          let asks_b = idle_asks m1 inv_one 1 b b1 idle_b q (has_in given m1 s.given_same q has) in
          let named = first_named m s.seated.inv 0 a at_a q asks_a idle_a.held t first_a part in
          ends_with m1 (on m s.path 0 a (take_record t q part) at_a may_take) 1 b (find_record_held t q false) b1
          (first_waits m1 inv_one 1 b b1 q asks_b idle_b.held t (begins_in given m1 s.given_same inv_one q t has begins) (λ e. omega (arith, e, named)))

      takes_out : IsTaken given values 3
      takes_out = ends_with m1 (on m s.path 0 a (take_record t q part) at_a may_take) 0 own (record_out t) own_at (holds_it, ap (count_turn t) idle_a.no_slot)

      puts_back : IsTaken given values 4
      puts_back =
          let w : View = in_hand t own in
          let may : May m1 0 own (record_out t) = (holds_it, ap (count_turn t) idle_a.no_slot) in
          ends_with (after m1 0 own (record_out t)) (on m1 (on m s.path 0 a (take_record t q part) at_a may_take) 0 own (record_out t) own_at may) 0 w (record_back t)
          (set_here m1.views 0 w (elem_below m1.views 0 own own_at))
          (holds_it, omega (arith, one t t refl))

      record_low : t < record_count given.plan
      record_low = subst (λ (g : Given). t < record_count g.plan) s.given_same (way_within m.given.plan (now m) q t (has_in given m s.given_same q has)
          (next_in (way m.given.plan (now m) q) [] t first_a))

    -- where a request takes no record, and then the journal
    module _ (p : ℕ) (has : Has given.plan (Idle p 0 0)) (room : 1 ≤ given.capacity) where
      abbrev z : Request
      z = Idle p 0 0

      asks_z : Asks m.given.plan a z
      asks_z = idle_asks m s.seated.inv 0 a at_a idle_a z (has_in given m s.given_same z has)

      none_held : (v : View) → v.held ≡ [] → turns_of v.held ≡ way m.given.plan (now m) z
      none_held v e = ap turns_of e ∙ sym (way_refused m.given.plan (now m) p)

      may_lead : May m 0 a (take_journal z)
      may_lead = (asks_z, ends_route m.given.plan (now m) z (turns_of a.held) (none_held a idle_a.held), journal_free m s.seated.inv 0 a at_a (seated_quiet 1 m 0 s.seated) idle_a.no_journal)

      abbrev leader : View
      leader = led m.history m.count z a

      abbrev n : Machine
      n = after m 0 a (take_journal z)

      leader_at : get_elem? n.views 0 ≡ some leader
      leader_at = set_here m.views 0 leader (elem_below m.views 0 a at_a)

      inv_n : Invariant n
      inv_n = step_keeps m 0 a (take_journal z) s.seated.inv at_a may_lead

      path_n : Path (opened given values) n
      path_n = on m s.path 0 a (take_journal z) at_a may_lead

      takes_journal : IsTaken given values 6
      takes_journal = ends_with m s.path 0 a (take_journal z) at_a may_lead

      finds_journal : IsTaken given values 7
      finds_journal =
          let b1 : get_elem? n.views 1 ≡ some b = set_else m.views 0 1 leader one_zero ∙ at_b in
          let asks_b = idle_asks n inv_n 1 b b1 idle_b z (has_in given n s.given_same z has) in
          ends_with n path_n 1 b (find_journal_held z false) b1 (asks_b, ends_route m.given.plan (now m) z (turns_of b.held) (none_held b idle_b.held), λ e. omega (arith, e))

      takes_journal_out : IsTaken given values 8
      takes_journal_out = ends_with n path_n 0 leader journal_out leader_at (refl, ap (count_turn (record_count m.given.plan)) idle_a.no_slot)

      puts_journal_back : IsTaken given values 9
      puts_journal_back =
          let w : View = in_hand (record_count m.given.plan) leader in
          let may : May n 0 leader journal_out = (refl, ap (count_turn (record_count m.given.plan)) idle_a.no_slot) in
          ends_with (after n 0 leader journal_out) (on n path_n 0 leader journal_out leader_at may) 0 w journal_back (set_here n.views 0 w (elem_below n.views 0 leader leader_at))
          (refl, omega (arith, one (record_count m.given.plan) (record_count m.given.plan) refl))

      enters_it : IsTaken given values 10
      enters_it = ends_with n path_n 0 leader (release_with_entry (entry_of 0 z) (m.count + 1)) leader_at
          (enter_asks m a z (entry_of 0 z) idle_a.no_slot (request_of-entry 0 z) (entry_seat 0 z ∙ sym (s.seated.seats 0 none_one).number)
          (follows_in given m s.given_same 0 z has (subst Faultless (sym s.history) tt))
          (omega (arith, room, ap (length {A = HistoryEntry}) s.history, ap (λ (g : Given). g.capacity) s.given_same)) n refl refl)

or_last : (A : ℕ → Type 0) (n k : ℕ) → A k → (n ≢ k → A n) → A n
or_last A x k here later = dite (ℕ_discrete x k) (λ e. subst A (sym e) here) later

pub each_kind_is_taken : EachKindIsTaken
each_kind_is_taken given values q t sized has begins room n from to =
    let s = splits given values sized 1 (omega arith) in
    let I = IsTaken given values in
    or_last I n 1 (takes given values sized s q t has begins) (λ n1.
    or_last I n 2 (finds given values sized s q t has begins) (λ n2.
    or_last I n 3 (takes_out given values sized s q t has begins) (λ n3.
    or_last I n 4 (puts_back given values sized s q t has begins) (λ n4.
    or_last I n 5 (releases_record given values sized t (record_low given values sized s q t has begins)) (λ n5.
    or_last I n 6 (takes_journal given values sized s (cpu_of q) has room) (λ n6.
    or_last I n 7 (finds_journal given values sized s (cpu_of q) has room) (λ n7.
    or_last I n 8 (takes_journal_out given values sized s (cpu_of q) has room) (λ n8.
    or_last I n 9 (puts_journal_back given values sized s (cpu_of q) has room) (λ n9.
    or_last I n 10 (enters_it given values sized s (cpu_of q) has room) (λ n10.
    or_last I n 11 (lets_go given values sized) (λ n11.
    or_last I n 12 (draws given values sized s) (λ n12.
    or_last I n 13 (misses given values sized s) (λ n13.
    or_last I n 14 (splits_off given values sized s) (λ n14.
    or_last I n 15 (joins_seats given values sized s) (λ n15.
    or_last I n 16 (reads given values sized s) (λ n16.
    absurd (omega (arith, from, to, n1, n2, n3, n4, n5, n6, n7, n8, n9, n10, n11, n12, n13, n14, n15, n16))))))))))))))))))
