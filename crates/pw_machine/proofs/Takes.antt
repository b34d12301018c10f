-- The steps that take a turn, find it held, move a slot's value, or release a turn without an entry.
use Rattle.std.proofs.Common.{◌≡◌, inl, inr, ⊎_elim, ℕ, suc, ◌+◌, ◌-◌, ◌<◌, ◌≤◌, List, [], ◌∷◌, ◌++◌, Bool, true, false, Option, Some, None, get_or, set, cond, eqb, sym, refl, ap, ◌∙◌, subst, arith, append-nil, length-set, get_or-set_same, get_or-set_other}
use mathlib.Core.Option.{some, some-injective}
use mathlib.Core.Logic.{dite}
use native.Mathlib.Decide.{ℕ_discrete}
use lib.ListN.{get_elem?}
use Rattle.pw_base.specs.Outside.{Rose}
use Rattle.pw_plan.specs.declared.request.Request.{Request}
use Rattle.pw_model.specs.Records.{Part}
use Rattle.acpi_values.specs.declared.operation.Op.{Op}
use Rattle.pw_machine.specs.Turns.{count_turn, StartsWith}
use Rattle.pw_plan.specs.Requests.{Has}
use Rattle.pw_model.specs.Operations.{opening_ops}
use Rattle.pw_model.specs.History.{history_ops, fault_at}
use Rattle.pw_model.specs.Records.{record_count}
use Rattle.pw_machine.specs.Turns.{part_at, way}
use Rattle.pw_machine.proofs.Plans.{ops_nil, next_record, next_journal}
use Rattle.pw_machine.specs.declared.view.Held.{Held}
use Rattle.pw_machine.specs.declared.view.View.{View}
use Rattle.pw_books.specs.Books.{count_in}
use Rattle.pw_machine.specs.Machine.{Machine, now, HasTurn, turns_of, count_held, holds, leads, marks, IsNoted, ServesRequest, Fits, HasRegisters, Invariant, seat_of, seat_number}
use Rattle.pw_books.specs.Sums.{total, bit, once_below}
use Rattle.pw_machine.specs.Steps.{take_record, find_record_held, record_out, record_back, release_record, take_journal, find_journal_held, journal_out, journal_back, release_without_entry, request_left, sign_left, without_record, in_hand, in_place, without_turn, taken, met_with, goes_on, freed, led, let_go, Asks, Leaves, HoldsAs, May, after}
use Rattle.pw_books.proofs.Lists.{elem_below, turn_below, set_here, set_else, total-set, one, none-of, bit_one, off, either_is}
use Rattle.pw_books.proofs.Books.{reads_all}
use Rattle.pw_books.proofs.Turns.{none_has, one_has, stays, gains, loses}
use Rattle.pw_machine.proofs.Turns.{turned, turns-snoc, count-snoc, noted-snoc, noted_without, count_without, holds_count, noted_is}
use Rattle.pw_machine.proofs.Facts.{live_held, live_leads}
use Rattle.pw_machine.proofs.Changes.{changed, moved, turns_stay}
use Rattle.pw_machine.proofs.Requests.{no_some, front_of, all_of, serves_asking, serves_leading, serves_releasing}
use Rattle.pw_books.proofs.Changes.{at_most_more}

no_request_left : (hs : List Held) (request : Option Request) → request ≡ None → request_left hs request ≡ None
no_request_left [] request e = refl
no_request_left (h ∷ hs) request e = e

no_sign_left : (hs : List Held) (releasing : Bool) → releasing ≡ false → sign_left hs releasing ≡ false
no_sign_left [] releasing e = refl
no_sign_left (h ∷ hs) releasing e = e

-- the registers are as they were, and so are the marks
pub registers_stay : (m : Machine) → Invariant m → (j : ℕ) (v w : View) → get_elem? m.views j ≡ some v → w.mark ≡ v.mark
    → total marks (set m.views j w) ≡ 0 → HasRegisters m.given m.history m.ops m.count
registers_stay m i j v w at same none = i.registers (omega (arith, total-set marks m.views j v w at, none, ap bit same))

fewer : (t r : ℕ) (xs : List ℕ) → count_turn r (without_turn t xs) ≤ count_turn r xs
fewer t r [] = omega arith
fewer t r (x ∷ xs) = step (eqb x t) (fewer t r xs)
  where
    step : (b : Bool) → count_turn r (without_turn t xs) ≤ count_turn r xs
        → count_turn r (cond b (without_turn t xs) (x ∷ without_turn t xs)) ≤ bit (eqb x r) + count_turn r xs
    step true le = omega (arith, le)
    step false le = omega (arith, le)

module _ (m : Machine) (i : Invariant m) (j : ℕ) (v : View) (at : get_elem? m.views j ≡ some v) where
  -- # A view changes, and no turn

  -- the turns that a view has stay, and its number, its parts and its mark, which it doesn't have
  pub unturned : (w : View) (made : ℕ) → 0 < v.parts → w.mark ≡ false → v.mark ≡ false → w.parts ≡ v.parts → w.number ≡ v.number
      → w.held ≡ v.held → w.leads ≡ v.leads
      → ((n : ℕ) → count_in n w.book + once_below n m.made ≡ count_in n v.book + once_below n made) → m.made ≤ made → made ≤ 65536
      → Fits m.given.plan m.history made m.count w
      → Invariant record m { made = made; views = set m.views j w }
  unturned w made live unmarked unmarked-v parts number held leads-w books more most fits = changed m i j v w at made m.turns m.journal m.values m.ops m.count record {
    live = live;
    parts = parts;
    books = books;
    more = more;
    most = most;
    has_turns = turns_stay m.given.plan m.turns m.journal m.views i.turns j v w at number held leads-w;
    opens = λ e. off w.mark unmarked e;
    has_values = i.values;
    registers = λ none. registers_stay m i j v w at (unmarked ∙ sym unmarked-v) none;
    risen = omega arith;
    others = λ u _ k _ _. refl;
    fits = fits;
  }

  -- # Taking

  pub keeps_take : (t : ℕ) (q : Request) (x : Part) → May m j v (take_record t q x) → Invariant (after m j v (take_record t q x))
  keeps_take t q x may =
      let a = may.0 in let f = i.fits j v at in let w = taken t q x v in let g = f.serves a.unmarked in
      let low : t < record_count m.given.plan = omega (arith, elem_below m.values t x may.3, i.values.sized) in
      let next = next_record m.given.plan (now m) q (turns_of v.held) t low may.1 in
      let none-yet : count_held t v.held ≡ 0 = none_has seat_number (get_or m.turns t 0) (holds t) m.views (i.turns.holders t low) may.2 j v at in
      let is : x ≡ part_at m.given.plan t (now m) = some-injective x (part_at m.given.plan t (now m)) (sym may.3 ∙ i.values.free t low may.2) in
      changed m i j v w at m.made (set m.turns t (suc v.number)) m.journal m.values m.ops m.count record {
        live = a.live;
        parts = refl;
        books = λ n. refl;
        more = omega arith;
        most = i.numbers.most;
        has_turns = record {
          wide = length-set m.turns t (suc v.number) ∙ i.turns.wide;
          holders = λ r below. turned m.turns m.views j v w t (suc v.number) (omega (arith, low, i.turns.wide)) at refl (λ r h. i.turns.holders r (omega (arith, h, i.turns.wide)))
              (λ r ne. omega (arith, count-snoc r v.held t x, none-of t r (λ e. ne (sym e))))
              (gains seat_number (get_or m.turns t 0) (holds t) m.views (i.turns.holders t low) j v w at refl may.2 (omega (arith, count-snoc t v.held t x, one t t refl)))
              r (omega (arith, below, i.turns.wide));
          leader = stays seat_number m.journal leads m.views i.turns.leader j v w at refl refl;
        };
        opens = λ e. off v.mark a.unmarked e;
        has_values = record {
          sized = i.values.sized;
          free = λ r below free. dite (ℕ_discrete r t)
              (λ e. absurd (omega (arith, free, ap (λ r. get_or (set m.turns t (suc v.number)) r 0) e, get_or-set_same m.turns t (suc v.number) 0 (omega (arith, low, i.turns.wide)))))
              (λ ne. i.values.free r below (sym (get_or-set_other m.turns t r (suc v.number) 0 ne) ∙ free));
        };
        registers = λ none. registers_stay m i j v w at refl none;
        risen = omega arith;
        others = λ u _ k _ _. refl;
        fits = record {
          reads = f.reads;
          own = f.own;
          serves = λ _. subst (λ b. ServesRequest m.given.plan (now m) w.held v.leads (Some q) b) (sym a.before) (subst (λ b. ServesRequest m.given.plan (now m) w.held b (Some q) false)
              (sym a.no_journal)
              (serves_asking m.given.plan (now m) w.held q a.of_plan (subst (StartsWith (way m.given.plan (now m) q)) (sym (turns-snoc v.held t x)) next)
              (noted-snoc m.given.plan (now m) v.held t x g.noted is)));
          holds_records = λ r more. dite (ℕ_discrete t r) (λ e. omega (arith, low, e)) (λ ne. f.holds_records r (omega (arith, more, count-snoc r v.held t x, none-of t r ne)));
          slots = λ r more. ⊎_elim (λ (h : 0 < count_held r v.held). inl (omega (arith, h, count-snoc r v.held t x))) (λ (h : (r ≡ record_count m.given.plan) × (v.leads ≡ true)). inr h)
              (f.slots r more);
          leader = λ e. off v.leads a.no_journal e;
          found = λ e. off v.leads a.no_journal e;
          notes = f.notes;
          spent = λ z. absurd (omega (arith, z, a.live));
        };
      }

  pub keeps_lead : (q : Request) → May m j v (take_journal q) → Invariant (after m j v (take_journal q))
  keeps_lead q may =
      let a = may.0 in let f = i.fits j v at in let w = led m.history m.count q v in let g = f.serves a.unmarked in
      changed m i j v w at m.made m.turns (suc v.number) m.values m.ops m.count record {
        live = a.live;
        parts = refl;
        books = λ n. refl;
        more = omega arith;
        most = i.numbers.most;
        has_turns = record {
          wide = i.turns.wide;
          holders = λ t low. stays seat_number (get_or m.turns t 0) (holds t) m.views (i.turns.holders t low) j v w at refl refl;
          leader = gains seat_number m.journal leads m.views i.turns.leader j v w at refl may.2 refl;
        };
        opens = λ e. off v.mark a.unmarked e;
        has_values = i.values;
        registers = λ none. registers_stay m i j v w at refl none;
        risen = omega arith;
        others = λ u _ k _ _. refl;
        fits = record {
          reads = reads_all seat_of m.history v.told v.book f.reads.begins_too f.reads.lists;
          own = f.own;
          serves = λ _. subst (λ b. ServesRequest m.given.plan (now m) v.held true (Some q) b) (sym a.before) (serves_leading m.given.plan (now m) v.held q a.of_plan
              (next_journal m.given.plan (now m) q (turns_of v.held) a.of_plan may.1) g.noted);
          holds_records = f.holds_records;
          slots = λ r more. ⊎_elim (λ (h : 0 < count_held r v.held). inl h) (λ (h : (r ≡ record_count m.given.plan) × (v.leads ≡ true)). inr (h.0, refl)) (f.slots r more);
          leader = λ _. refl;
          found = λ _ _. refl;
          notes = record { at_take = omega arith; at_release = f.notes.at_release; at_read = f.notes.at_read };
          spent = λ z. absurd (omega (arith, z, a.live));
        };
      }

  -- # Finding a turn held

  found_held : (t h : ℕ) (q : Request) (gives_up : Bool) → Asks m.given.plan v q → StartsWith (way m.given.plan (now m) q) (turns_of v.held)
      → Invariant record m { views = set m.views j (goes_on gives_up (met_with t h q v)) }
  found_held t h q true a begins =
      let f = i.fits j v at in let w = goes_on true (met_with t h q v) in let g = f.serves a.unmarked in
      unturned w m.made a.live a.unmarked a.unmarked refl refl refl refl (λ n. refl) (omega arith) i.numbers.most record {
        reads = f.reads;
        own = f.own;
        serves = λ _. subst (λ b. ServesRequest m.given.plan (now m) v.held b (request_left v.held (Some q)) (sign_left v.held true)) (sym a.no_journal)
            (serves_releasing m.given.plan (now m) v.held (Some q) (λ r e. let same : q ≡ r = cc in subst (Has m.given.plan) same a.of_plan) (λ e. no_some q e) g.noted);
        holds_records = f.holds_records;
        slots = f.slots;
        leader = f.leader;
        found = f.found;
        notes = f.notes;
        spent = λ z. absurd (omega (arith, z, a.live));
      }
  found_held t h q false a begins =
      let f = i.fits j v at in let w = met_with t h q v in let g = f.serves a.unmarked in
      unturned w m.made a.live a.unmarked a.unmarked refl refl refl refl (λ n. refl) (omega arith) i.numbers.most record {
        reads = f.reads;
        own = f.own;
        serves = λ _. subst (λ b. ServesRequest m.given.plan (now m) v.held v.leads (Some q) b) (sym a.before) (subst (λ b. ServesRequest m.given.plan (now m) v.held b (Some q) false)
            (sym a.no_journal) (serves_asking m.given.plan (now m) v.held q a.of_plan begins g.noted));
        holds_records = f.holds_records;
        slots = f.slots;
        leader = f.leader;
        found = f.found;
        notes = f.notes;
        spent = λ z. absurd (omega (arith, z, a.live));
      }

  pub keeps_find_record : (t : ℕ) (q : Request) (gives_up : Bool) → May m j v (find_record_held t q gives_up)
      → Invariant (after m j v (find_record_held t q gives_up))
  keeps_find_record t q gives_up may = found_held t (get_or m.turns t 0 - 1) q gives_up may.0 (front_of (way m.given.plan (now m) q) (turns_of v.held) t
      (next_record m.given.plan (now m) q (turns_of v.held) t (omega (arith, turn_below m.turns t may.2, i.turns.wide)) may.1))

  pub keeps_find_journal : (q : Request) (gives_up : Bool) → May m j v (find_journal_held q gives_up)
      → Invariant (after m j v (find_journal_held q gives_up))
  keeps_find_journal q gives_up may = found_held (record_count m.given.plan) (m.journal - 1) q gives_up may.0 (all_of (way m.given.plan (now m) q) (turns_of v.held)
      (next_journal m.given.plan (now m) q (turns_of v.held) may.0.of_plan may.1))

  -- # Slots

  slotted : (out : List ℕ) → 0 < v.parts → ((t : ℕ) → 0 < count_turn t out → HasTurn m.given.plan t v)
      → Invariant record m { views = set m.views j (record v { out = out }) }
  slotted out live slots = let f = i.fits j v at in let w : View = record v { out = out } in changed m i j v w at m.made m.turns m.journal m.values m.ops m.count record {
    live = live;
    parts = refl;
    books = λ n. refl;
    more = omega arith;
    most = i.numbers.most;
    has_turns = turns_stay m.given.plan m.turns m.journal m.views i.turns j v w at refl refl refl;
    opens = λ e. let o = i.opens j v at e in record {
      place = o.place;
      number = o.number;
      all = o.all;
      journal = o.journal;
      no_request = o.no_request;
      not_releasing = o.not_releasing;
      empty = o.empty;
      given_count = o.given_count;
    };
    has_values = i.values;
    registers = λ none. registers_stay m i j v w at refl none;
    risen = omega arith;
    others = λ u _ k _ _. refl;
    fits = record {
      reads = f.reads;
      own = f.own;
      serves = f.serves;
      holds_records = f.holds_records;
      slots = slots;
      leader = f.leader;
      found = f.found;
      notes = f.notes;
      spent = λ
          z. absurd (omega (arith, z, live));
    };
  }

  -- one more slot's value in hand, and one fewer
  takes_out : (t : ℕ) → 0 < v.parts → HasTurn m.given.plan t v → Invariant record m { views = set m.views j (in_hand t v) }
  takes_out t live has = slotted (t ∷ v.out) live (λ r more. dite (ℕ_discrete t r) (λ e. subst (λ t. HasTurn m.given.plan t v) e has)
      (λ ne. (i.fits j v at).slots r (omega (arith, more, none-of t r ne))))

  puts_back : (t : ℕ) → 0 < v.parts → Invariant record m { views = set m.views j (in_place t v) }
  puts_back t live = slotted (without_turn t v.out) live (λ r more. (i.fits j v at).slots r (omega (arith, more, fewer t r v.out)))

  pub keeps_record_out : (t : ℕ) → May m j v (record_out t) → Invariant (after m j v (record_out t))
  keeps_record_out t may = takes_out t (live_held m i j v at t may.0) (inl may.0)

  pub keeps_record_back : (t : ℕ) → May m j v (record_back t) → Invariant (after m j v (record_back t))
  keeps_record_back t may = puts_back t (live_held m i j v at t may.0)

  pub keeps_journal_out : May m j v journal_out → Invariant (after m j v journal_out)
  keeps_journal_out may = takes_out (record_count m.given.plan) (live_leads m i j v at may.0) (inr (refl, may.0))

  pub keeps_journal_back : May m j v journal_back → Invariant (after m j v journal_back)
  keeps_journal_back may = puts_back (record_count m.given.plan) (live_leads m i j v at may.0)

  -- # Releasing

  -- the value that stays is the state's part
  left_value : (t : ℕ) (x : Part) → Leaves m v t x → (0 < count_held t v.held) × (x ≡ part_at m.given.plan t (now m))
  left_value t x l = ⊎_elim
      (λ (r : (v.releasing ≡ true) × HoldsAs t x v.held). (
        holds_count t x v.held r.1,
        noted_is m.given.plan (now m) t x v.held ((i.fits j v at).serves (⊎_elim (λ (e : v.mark ≡ true). off v.releasing (i.opens j v at e).not_releasing r.0)
            (λ (e : v.mark ≡ false). e) (either_is v.mark))).noted r.1,
      ))
      (λ (r : (v.mark ≡ true) × (0 < count_held t v.held) × (x ≡ part_at m.given.plan t (now m))). (r.1, r.2)) l

  pub keeps_release : (t : ℕ) (x : Part) → May m j v (release_record t x) → Invariant (after m j v (release_record t x))
  keeps_release t x may =
      let f = i.fits j v at in let hs = without_record t v.held in let w = freed t v in
      let l = left_value t x may.0 in let low = f.holds_records t l.0 in let live = live_held m i j v at t l.0 in
      changed m i j v w at m.made (set m.turns t 0) m.journal (set m.values t x) m.ops m.count record {
        live = live;
        parts = refl;
        books = λ n. refl;
        more = omega arith;
        most = i.numbers.most;
        has_turns = record {
          wide = length-set m.turns t 0 ∙ i.turns.wide;
          holders = λ r below. turned m.turns m.views j v w t 0 (omega (arith, low, i.turns.wide)) at refl (λ r h. i.turns.holders r (omega (arith, h, i.turns.wide)))
              (λ r ne. (count_without t r v.held).1 (λ e. ne (sym e)))
              (loses seat_number (get_or m.turns t 0) (holds t) m.views (i.turns.holders t low) j v w at l.0 ((count_without t t v.held).0 refl))
              r (omega (arith, below, i.turns.wide));
          leader = stays seat_number m.journal leads m.views i.turns.leader j v w at refl refl;
        };
        opens = λ e. let o = i.opens j v at e in record {
          place = o.place;
          number = o.number;
          all = o.all;
          journal = o.journal;
          no_request = no_request_left hs v.request o.no_request;
          not_releasing =
              no_sign_left hs v.releasing o.not_releasing;
          empty = o.empty;
          given_count = o.given_count;
        };
        has_values = record {
          sized = length-set m.values t x ∙ i.values.sized;
          free = λ r below free. dite (ℕ_discrete r t)
              (λ e. subst (λ r. get_elem? (set m.values t x) r ≡ some (part_at m.given.plan r (now m))) (sym e) (set_here m.values t x (omega (arith, low, i.values.sized)) ∙ ap some l.1))
              (λ ne. set_else m.values t r x ne ∙ i.values.free r below (sym (get_or-set_other m.turns t r 0 0 ne) ∙ free));
        };
        registers = λ none. registers_stay m i j v w at refl none;
        risen = omega arith;
        others = λ u _ k _ _. refl;
        fits = record {
          reads = f.reads;
          own = f.own;
          serves = λ unmarked. let g = f.serves unmarked in ⊎_elim
              (λ (r : (v.releasing ≡ true) × HoldsAs t x v.held). subst (λ b. ServesRequest m.given.plan (now m) hs b (request_left hs v.request) (sign_left hs v.releasing)) (sym (g.back r.0)) (subst
              (λ b. ServesRequest m.given.plan (now m) hs false (request_left hs v.request) (sign_left hs b)) (sym r.0)
              (serves_releasing m.given.plan (now m) hs v.request g.of_plan (λ e. ap (without_record t) (g.rests e).0) (noted_without m.given.plan (now m) t v.held g.noted))))
              (λ (r : (v.mark ≡ true) × (0 < count_held t v.held) × (x ≡ part_at m.given.plan t (now m))). off v.mark unmarked r.0) may.0;
          holds_records = λ r more. dite (ℕ_discrete t r) (λ e. omega (arith, low, e)) (λ ne. f.holds_records r (omega (arith, more, (count_without t r v.held).1 ne)));
          slots = λ r more. ⊎_elim (λ (h : 0 < count_held r v.held). dite (ℕ_discrete t r) (λ e. absurd (omega (arith, more, may.1, ap (λ t. count_turn t v.out) e)))
              (λ ne. inl (omega (arith, h, (count_without t r v.held).1 ne)))) (λ (h : (r ≡ record_count m.given.plan) × (v.leads ≡ true)). inr h) (f.slots r more);
          leader = f.leader;
          found = f.found;
          notes = f.notes;
          spent = λ z. absurd (omega (arith, z, live));
        };
      }

  -- the journal's release, but for the registers
  gone : (count : ℕ) (ops : List Op) → v.leads ≡ true → count_turn (record_count m.given.plan) v.out ≡ 0 → m.count ≤ count
      → (total marks (set m.views j (let_go count v)) ≡ 0 → HasRegisters m.given m.history ops count)
      → ((q : Request) → v.request ≡ Some q → Has m.given.plan q) → (v.request ≡ None → v.held ≡ []) → IsNoted m.given.plan (now m) v.held
      → Invariant (moved m j (let_go count v) m.made m.turns 0 m.values ops count)
  gone count ops h back risen registers has rests noted =
      let f = i.fits j v at in let w = let_go count v in let live = live_leads m i j v at h in
      let has-it : 0 < bit v.leads = omega (arith, bit_one v.leads h) in
      changed m i j v w at m.made m.turns 0 m.values ops count record {
        live = live;
        parts = refl;
        books = λ n. refl;
        more = omega arith;
        most = i.numbers.most;
        has_turns = record {
          wide = i.turns.wide;
          holders = λ t low. stays seat_number (get_or m.turns t 0) (holds t) m.views (i.turns.holders t low) j v w at refl refl;
          leader = loses seat_number m.journal leads m.views i.turns.leader j v w at has-it refl;
        };
        opens = λ e. off false refl e;
        has_values = i.values;
        registers = registers;
        risen = risen;
        others = λ u e k ne there. absurd (omega (arith, bit_one u.leads e, one_has seat_number m.journal leads m.views i.turns.leader j k v u ne at there has-it));
        fits = record {
          reads = f.reads;
          own = f.own;
          serves = λ _. serves_releasing m.given.plan (now m) v.held v.request has rests noted;
          holds_records = f.holds_records;
          slots = λ r more. ⊎_elim (λ (h : 0 < count_held r v.held). inl h) (λ (h : (r ≡ record_count m.given.plan)
              × (v.leads ≡ true)). absurd (omega (arith, more, back, ap (λ t. count_turn t v.out) h.0))) (f.slots r more);
          leader = λ e. off false refl e;
          found = λ e. off false refl e;
          notes = record { at_take = at_most_more v.at_lock m.count count risen f.notes.at_take; at_release = omega arith; at_read = f.notes.at_read };
          spent = λ z. absurd (omega (arith, z, live));
        };
      }

  pub keeps_let_go : (count : ℕ) → May m j v (release_without_entry count) → Invariant (after m j v (release_without_entry count))
  keeps_let_go count may = ⊎_elim
      (λ (r : (v.mark ≡ false) × (count ≡ m.count)).
      let g = (i.fits j v at).serves r.0 in
      gone count (cond v.mark (m.given.ops ++ opening_ops m.given.plan) m.ops) may.0 may.1 (omega (arith, r.1))
      (λ none. let o = registers_stay m i j v (let_go count v) at (sym r.0) none in
      record {
        log = ap (λ b. cond b (m.given.ops ++ opening_ops m.given.plan) m.ops) r.0 ∙ o.log;
        least = omega (arith, o.least, r.1);
        fault = λ k e. subst (Rose m.given.count) (sym r.1)
            (o.fault k e);
      })
      g.of_plan (λ e. (g.rests e).0) g.noted)
      (λ (r : (v.mark ≡ true) × (v.held ≡ []) × (m.given.count ≤ count)).
      let o = i.opens j v at r.0 in
      gone count (cond v.mark (m.given.ops ++ opening_ops m.given.plan) m.ops) may.0 may.1 (omega (arith, r.2, o.given_count))
      (λ none. record {
        log = ap (λ b. cond b (m.given.ops ++ opening_ops m.given.plan) m.ops) r.0 ∙ sym (ap (λ l. m.given.ops ++ opening_ops m.given.plan ++ l) (ap (history_ops m.given.plan) o.empty
            ∙ ops_nil m.given.plan) ∙ append-nil (m.given.ops ++ opening_ops m.given.plan));
        least = r.2;
        fault = λ k e. let none : fault_at m.history ≡ None = ap fault_at o.empty in absurd (cc);
      })
      (λ q e. no_some q (sym e ∙ o.no_request)) (λ _. r.1) (subst (IsNoted m.given.plan (now m)) (sym r.1) tt)) may.2
