-- Two seats meet at a record, each once, and are joined.
use Rattle.std.proofs.Common.{◌≡◌, ◌≢◌, inl, inr, ⊎_elim, ℕ, suc, ◌+◌, ◌-◌, ◌<◌, ◌≤◌, List, [], ◌∷◌, ◌++◌, false, Some, None, length, get_or, set, sym, refl, ap, ◌∙◌, subst, arith, append_assoc, get_or-set_same}
use mathlib.Core.Option.{some, some-injective}
use mathlib.Core.Logic.{dite}
use native.Mathlib.Decide.{ℕ_discrete}
use lib.ListN.{get_elem?}
use Rattle.pw_plan.specs.declared.request.Request.{Request}
use Rattle.pw_plan.specs.declared.request.Request.TheVariants.{Idle}
use Rattle.pw_plan.specs.Requests.{Has}
use Rattle.pw_model.specs.declared.entry.HistoryEntry.{HistoryEntry}
use Rattle.pw_model.specs.History.{Faultless, MayFollow, entry_of, request_of}
use Rattle.pw_model.specs.States.{opening}
use Rattle.pw_model.proofs.Joining.{entry_is, request_of-entry}
use Rattle.pw_model.specs.Records.{Part, record_count}
use Rattle.pw_machine.specs.declared.view.Met.{Met}
use Rattle.pw_machine.specs.declared.view.View.{View}
use Rattle.pw_machine.specs.Turns.{StartsWith, part_at, way}
use Rattle.pw_machine.specs.Machine.{Given, Machine, Invariant, count_held, held_as, now, spent_view, turns_of}
use Rattle.pw_machine.specs.Steps.{Kind, Asks, IsIdle, May, after, find_record_held, join_seats, joined, looked, met_with, read_made, split_seat, take_record, taken}
use Rattle.pw_books.specs.Books.{longer}
use Rattle.pw_machine.specs.Law.{opened, Steps}
use Rattle.pw_machine.specs.Meetings.{TheyMeet, TwoSeatsMeet}
use Rattle.pw_books.proofs.Lists.{at_set, elem_below, set_else, set_here}
use Rattle.pw_machine.proofs.Plans.{first_stays, on_route, way_within}
use Rattle.pw_machine.proofs.Requests.{next_in}
use Rattle.pw_machine.proofs.Facts.{is_state}
use Rattle.pw_machine.proofs.Keeps.{step_keeps}
use Rattle.pw_books.proofs.Books.{longer_whole}
use Rattle.pw_machine.proofs.Paths.{Leads, Path, Quiet, joins, path_keeps, record_free}
use Rattle.pw_machine.proofs.Cycles.{cycles}
use Rattle.pw_machine.proofs.Seating.{Seated, Splits, seated_quiet, splits}
use Rattle.pw_machine.proofs.Histories.{idle_asks}
use Rattle.pw_model.proofs.Opening.{opening_fits}

-- # Requests and their entries

pub entry_seat : (n : ℕ) (q : Request) → (entry_of n q).seat ≡ n
entry_seat n (Idle p s t) = refl
entry_seat n q = refl

pub entry_fault : (n : ℕ) (q : Request) → (entry_of n q).fault ≡ 0
entry_fault n (Idle p s t) = refl
entry_fault n q = refl

module _ (given : Given) (m : Machine) (same : m.given ≡ given) where
  pub has_in : (q : Request) → Has given.plan q → Has m.given.plan q
  has_in q has = subst (λ (g : Given). Has g.plan q) (sym same) has

  pub begins_in : Invariant m → (q : Request) (t : ℕ) → Has given.plan q → StartsWith (way given.plan (opening given.plan) q) (t ∷ [])
      → StartsWith (way m.given.plan (now m) q) (t ∷ [])
  begins_in i q t has begins =
      first_stays m.given.plan (opening m.given.plan) (now m) q t (opening_fits m.given.plan) (is_state m i) (has_in q has) (subst (λ (g : Given). StartsWith (way g.plan (opening g.plan) q) (t ∷ []))
      (sym same) begins)

  pub follows_in : (n : ℕ) (q : Request) → Has given.plan q → Faultless m.history → MayFollow m.given.plan m.history (entry_of n q)
  follows_in n q has none = record { faultless = none; entry = entry_is m.given.plan n q (has_in q has); fits = inl (entry_fault n q) }

-- # The first turn

module _ (m : Machine) (i : Invariant m) (j : ℕ) (v : View) (at : get_elem? m.views j ≡ some v) (q : Request) (a : Asks m.given.plan v q) (nothing : v.held ≡ []) (t : ℕ)
    (begins : StartsWith (way m.given.plan (now m) q) (t ∷ [])) where
  first_low : t < record_count m.given.plan
  first_low = way_within m.given.plan (now m) q t a.of_plan (next_in (way m.given.plan (now m) q) [] t begins)

  comes_first : StartsWith (way m.given.plan (now m) q) (turns_of v.held ++ t ∷ [])
  comes_first = subst (λ hs. StartsWith (way m.given.plan (now m) q) (turns_of hs ++ t ∷ [])) (sym nothing) begins

  pub first_take : Quiet m j → May m j v (take_record t q (part_at m.given.plan t (now m)))
  first_take quiet =
      let free = record_free m i j v at quiet t first_low (ap (count_held t) nothing) in
      (a, on_route m.given.plan (now m) q (turns_of v.held ++ t ∷ []) comes_first, free, i.values.free t first_low free)

  pub first_waits : get_or m.turns t 0 ≢ 0 → May m j v (find_record_held t q false)
  first_waits held = (a, on_route m.given.plan (now m) q (turns_of v.held ++ t ∷ []) comes_first, held)

  -- once it took the first turn, the rest of its way is ahead
  pub first_rest : (x : Part) → way m.given.plan (now m) q ≡ turns_of (taken t q x v).held ++ begins.0
  first_rest x = begins.1 ∙ ap (λ hs. turns_of (hs ++ held_as t x ∷ []) ++ begins.0) (sym nothing)

  -- the turn then names the seat
  pub first_named : (x : Part) → get_or (after m j v (take_record t q x)).turns t 0 ≡ suc v.number
  first_named x = get_or-set_same m.turns t (suc v.number) 0 (omega (arith, first_low, i.turns.wide))

-- # Who holds nothing

-- no seat holds a turn
abbrev pub Still : Machine → Type 0
Still m = (k : ℕ) (u : View) → get_elem? m.views k ≡ some u → (u.held ≡ []) × (u.leads ≡ false)

pub quiet_of : (m : Machine) (j : ℕ) → Still m → Quiet m j
quiet_of m j still k u ne there = still k u there

-- a seat that holds nothing still holds nothing
pub quiet_set : (m n : Machine) (j k : ℕ) (w : View) → Quiet m j → w.held ≡ [] → w.leads ≡ false → n.views ≡ set m.views k w → Quiet n j
quiet_set m n j k w quiet held leads views p u ne there = ⊎_elim
    (λ (t : (p ≡ k) × (w ≡ u)). (ap (λ (x : View). x.held) (sym t.1) ∙ held, ap (λ (x : View). x.leads) (sym t.1) ∙ leads))
    (λ (t : (p ≢ k) × (get_elem? m.views p ≡ some u)). quiet p u ne t.1)
    (at_set m.views k p w u (ap (λ l. get_elem? l p) (sym views) ∙ there))

-- a seat takes a turn, and the others hold nothing
pub quiet_own : (m n : Machine) (j : ℕ) (w : View) → Quiet m j → n.views ≡ set m.views j w → Quiet n j
quiet_own m n j w quiet views p u ne there = quiet p u ne (sym (set_else m.views j p w ne) ∙ (ap (λ l. get_elem? l p) (sym views) ∙ there))

pub still_after : (m n : Machine) (j : ℕ) (w : View) → Quiet m j → Leads m n j w → w.held ≡ [] → w.leads ≡ false → Still n
still_after m n j w quiet l held leads k u there = dite (ℕ_discrete k j)
    (λ e. let same : w ≡ u = some-injective w u (sym l.there ∙ (ap (λ k. get_elem? n.views k) (sym e) ∙ there)) in (
      ap (λ (x : View). x.held) (sym same) ∙ held,
      ap (λ (x : View). x.leads) (sym same)
          ∙ leads,
    ))
    (λ ne. quiet k u ne (sym (l.others k ne) ∙ there))

-- # The whole example

pub zero_one : ◌≡◌ {A = ℕ} 0 1 → ⊥
zero_one e = omega (arith, e)

pub one_zero : ◌≡◌ {A = ℕ} 1 0 → ⊥
one_zero e = omega (arith, e)

none_two : 0 ≤ 2
none_two = omega arith

one_two : 1 ≤ 2
one_two = omega arith

two_two : 2 ≤ 2
two_two = omega arith

pub none_one : 0 ≤ 1
none_one = omega arith

pub one_one : 1 ≤ 1
one_one = omega arith

zero_below : 0 < 1
zero_below = omega arith

more_parts : (a b : ℕ) → 0 < a → 0 < a + b
more_parts a b h = omega arith

both_parts : (left v w a b : ℕ) → left ≡ v + w → v ≡ a → w ≡ b → a + 1 ≡ 65536 → b ≡ 1 → left ≡ 65536
both_parts left v w a b e f g h k = omega arith

has_room : (m : Machine) (given : Given) (history : List HistoryEntry) → m.history ≡ history → length history ≤ 2 → m.given ≡ given
    → 3 ≤ given.capacity → length m.history < m.given.capacity
has_room m given history e le same room = omega (arith, le, room, ap (length {A = HistoryEntry}) e, ap (λ (g : Given). g.capacity) same)

abbrev pair : ℕ → ℕ → Met
pair t holder = record { turn = t; holder = holder }

seated_still_all : (m : Machine) → Seated 1 m → Still m
seated_still_all m s k u there = seated_quiet 1 m (suc k) s k u (λ e. omega (arith, e)) there

-- # One seat takes the record, the other finds it held, and the first one ends its request

pub record Round (m : Machine) (j : ℕ) (v : View) (q : Request) (k : ℕ) (u : View) (r : Request) (t : ℕ) (e : HistoryEntry) : Type 0 where
  pub part : Part
  pub rest : List (ℕ × View × Kind)
  pub end : Machine
  pub allowed : Steps m ((j, v, take_record t q part) ∷ (k, u, find_record_held t r false) ∷ rest) end
  pub view : View
  pub there : get_elem? end.views j ≡ some view
  pub idle : IsIdle view
  pub number : view.number ≡ v.number
  pub parts : view.parts ≡ v.parts
  pub told : view.told ≡ v.told
  pub meets : view.meets ≡ v.meets
  pub met : view.met ≡ v.met
  pub other : get_elem? end.views k ≡ some (met_with t v.number r u)
  pub still : Still end
  pub given : end.given ≡ m.given
  pub history : end.history ≡ m.history ++ e ∷ []

module _ (m : Machine) (i : Invariant m) (still : Still m) (j k : ℕ) (ne : k ≢ j) (en : j ≢ k) (v u : View) (at : get_elem? m.views j ≡ some v) (there : get_elem? m.views k ≡ some u)
    (q r : Request) (t : ℕ) (a : Asks m.given.plan v q) (b : Asks m.given.plan u r) (nothing : v.held ≡ []) (nothing_too : u.held ≡ [])
    (begins : StartsWith (way m.given.plan (now m) q) (t ∷ [])) (begins_r : StartsWith (way m.given.plan (now m) r) (t ∷ [])) where
  abbrev round_part : Part
  round_part = part_at m.given.plan t (now m)

  abbrev round_take : Kind
  round_take = take_record t q round_part

  abbrev round_own : View
  round_own = taken t q round_part v

  abbrev round_one : Machine
  round_one = after m j v round_take

  may_take : May m j v round_take
  may_take = first_take m i j v at q a nothing t begins (quiet_of m j still)

  inv_one : Invariant round_one
  inv_one = step_keeps m j v round_take i at may_take

  own_one : get_elem? round_one.views j ≡ some round_own
  own_one = set_here m.views j round_own (elem_below m.views j v at)

  there_one : get_elem? round_one.views k ≡ some u
  there_one = set_else m.views j k round_own ne ∙ there

  named_here : get_or round_one.turns t 0 ≡ suc v.number
  named_here = first_named m i j v at q a nothing t begins round_part

  may_wait : May round_one k u (find_record_held t r false)
  may_wait = first_waits round_one inv_one k u there_one r b nothing_too t begins_r (λ e. omega (arith, e, named_here))

  abbrev round_two : Machine
  round_two = after round_one k u (find_record_held t r false)

  inv_two : Invariant round_two
  inv_two = step_keeps round_one k u (find_record_held t r false) inv_one there_one may_wait

  abbrev round_met : View
  round_met = met_with t (get_or round_one.turns t 0 - 1) r u

  met_is : round_met ≡ met_with t v.number r u
  met_is = ap (λ n. met_with t (n - 1) r u) named_here ∙ ap (λ n. met_with t n r u) (let e : suc v.number - 1 ≡ v.number = omega arith in e)

  met_two : get_elem? round_two.views k ≡ some round_met
  met_two = set_here round_one.views k round_met (elem_below round_one.views k u there_one)

  own_two : get_elem? round_two.views j ≡ some round_own
  own_two = set_else round_one.views k j round_met en ∙ own_one

  quiet_two : Quiet round_two j
  quiet_two = quiet_set round_one round_two j k round_met (quiet_own m round_one j round_own (quiet_of m j still) refl) nothing_too b.no_journal refl

  pub round : v.out ≡ [] → (e : HistoryEntry) → request_of e ≡ q → e.seat ≡ v.number → MayFollow m.given.plan m.history e
      → length m.history < m.given.capacity → Round m j v q k u r t e
  round out e asks seat follows room =
      let asks2 : Asks round_two.given.plan round_own q = record { of_plan = a.of_plan; live = a.live; unmarked = a.unmarked; before = a.before; no_journal = a.no_journal; request = inr refl } in
      let c = cycles round_two inv_two j round_own own_two quiet_two q asks2 begins.0 (first_rest m i j v at q a nothing t begins round_part) out e asks seat follows room in
      record {
        part = round_part;
        rest = c.leads.path.0;
        end = c.end;
        allowed = (at, may_take, (there_one, may_wait, c.leads.path.1));
        view = c.view;
        there = c.leads.there;
        idle = c.idle;
        number = c.number;
        parts = c.parts;
        told = c.told;
        meets = c.meets;
        met = c.met;
        other = c.leads.others k ne ∙ (met_two ∙ ap some met_is);
        still = still_after round_two c.end j c.view quiet_two c.leads c.idle.held c.idle.no_journal;
        given = c.leads.given;
        history = c.history;
      }

-- # The seat 0 makes one more request, and seat 1 is joined into it

pub record Ending (m : Machine) (v w : View) (e : HistoryEntry) : Type 0 where
  pub before : List (ℕ × View × Kind)
  pub first : View
  pub last : List (ℕ × View × Kind)
  pub end : Machine
  pub allowed : Steps m (before ++ ((0, first, join_seats 1 w) ∷ last)) end
  pub history : end.history ≡ m.history ++ e ∷ []
  pub met : first.met ≡ v.met
  pub meets : first.meets ≡ v.meets
  pub left : View
  pub there : get_elem? end.views 0 ≡ some left
  pub parts : left.parts ≡ v.parts + w.parts
  pub seen : left.seen ≡ end.history

joining : (m : Machine) → Invariant m → (v w : View) → get_elem? m.views 0 ≡ some v → get_elem? m.views 1 ≡ some w → IsIdle v → IsIdle w
    → v.told ≡ None → w.told ≡ None → v.seen ≡ m.history
    → (before : List (ℕ × View × Kind)) (n : Machine) → Steps n before m → (e : HistoryEntry) → m.history ≡ n.history ++ e ∷ [] → (u : View)
    → v.met ≡ u.met → v.meets ≡ u.meets → v.parts ≡ u.parts → Ending n u w e
joining m i v w at there a b told told_too seen before n steps e history u met meets parts =
    let k = join_seats 1 w in
    let may : May m 0 v k = (one_zero, there, a, b, told, told_too) in
    let m2 = after m 0 v k in
    let both : View = joined v w in
    let both2 : get_elem? m2.views 0 ≡ some both = set_else (set m.views 0 both) 1 0 spent_view zero_one ∙ set_here m.views 0 both (elem_below m.views 0 v at) in
    let idle : IsIdle both = record { live = more_parts v.parts w.parts a.live; unmarked = a.unmarked; request = a.request; held = a.held; no_journal = a.no_journal; no_slot = a.no_slot } in
    let m3 = after m2 0 both read_made in
    let left : View = looked m2.made both in
    let ends : Path m m3 = ((0, v, k) ∷ (0, both, read_made) ∷ [], (at, may, (both2, idle, refl))) in
    record {
      before = before;
      first = v;
      last = (0, both, read_made) ∷ [];
      end = m3;
      allowed = joins n m m3 before ends.0 steps ends.1;
      history = history;
      met = met;
      meets = meets;
      left = left;
      there = set_here m2.views 0 left (elem_below m2.views 0 both both2);
      parts = ap (λ p. p + w.parts) parts;
      seen = ap (λ l. longer w.seen l) seen ∙ longer_whole m.history w.seen (i.fits 1 w there).reads.begins;
    }

ending : (m : Machine) → Invariant m → Still m → (v w : View) → get_elem? m.views 0 ≡ some v → get_elem? m.views 1 ≡ some w → IsIdle w
    → v.told ≡ None → w.told ≡ None → (q : Request) → Asks m.given.plan v q → v.held ≡ [] → v.out ≡ []
    → (e : HistoryEntry) → request_of e ≡ q → e.seat ≡ v.number → MayFollow m.given.plan m.history e → length m.history < m.given.capacity
    → Ending m v w e
ending m i still v w at there b told told_too q a nothing out e asks seat follows room =
    let g = cycles m i 0 v at (quiet_of m 0 still) q a (way m.given.plan (now m) q) (ap (λ hs. turns_of hs ++ way m.given.plan (now m) q) (sym nothing)) out e asks seat follows room in
    joining g.end (path_keeps m g.leads.path.0 g.end i g.leads.path.1) g.view w g.leads.there (g.leads.others 1 one_zero ∙ there) g.idle b (g.told ∙ told) told_too (g.seen
    ∙ sym g.history) g.leads.path.0 m g.leads.path.1 e g.history v g.met g.meets g.parts

-- # The whole list

module _ (given : Given) (q r : Request) (t : ℕ) (has : Has given.plan q) (has_r : Has given.plan r)
    (begins : StartsWith (way given.plan (opening given.plan) q) (t ∷ [])) (begins_r : StartsWith (way given.plan (opening given.plan) r) (t ∷ [])) (room : 3 ≤ given.capacity) where
  first_round : (m : Machine) → (s : Seated 1 m) → m.given ≡ given → m.history ≡ []
      → Round m 0 ((s.seats 0 none_one).view) q 1 ((s.seats 1 one_one).view) r t (entry_of 0 q)
  first_round m s same none =
      let a = s.seats 0 none_one in let b = s.seats 1 one_one in
      round m s.inv (λ k u there. seated_still_all m s k u there) 0 1 one_zero zero_one a.view b.view a.there b.there q r t
      (idle_asks m s.inv 0 a.view a.there a.idle q (has_in given m same q has)) (idle_asks m s.inv 1 b.view b.there b.idle r (has_in given m same r has_r)) a.idle.held b.idle.held
      (begins_in given m same s.inv q t has begins) (begins_in given m same s.inv r t has_r begins_r) a.idle.no_slot (entry_of 0 q) (request_of-entry 0 q) (entry_seat 0 q ∙ sym a.number)
      (follows_in given m same 0 q has (subst Faultless (sym none) tt)) (has_room m given [] none none_two same room)

  -- the seat that waited is asked again, and the other one asks once more
  second_round : (m : Machine) → Invariant m → Still m → (v u : View) → get_elem? m.views 1 ≡ some v → get_elem? m.views 0 ≡ some u
      → m.given ≡ given → m.history ≡ entry_of 0 q ∷ [] → Asks m.given.plan v r → v.held ≡ [] → v.out ≡ [] → v.number ≡ 1
      → IsIdle u → Round m 1 v r 0 u q t (entry_of 1 r)
  second_round m i still v u at there same history a nothing out number idle =
      round m i still 1 0 zero_one one_zero v u at there r q t a (idle_asks m i 0 u there idle q (has_in given m same q has)) nothing idle.held
      (begins_in given m same i r t has_r begins_r) (begins_in given m same i q t has begins) out (entry_of 1 r) (request_of-entry 1 r) (entry_seat 1 r ∙ sym number)
      (follows_in given m same 1 r has_r (subst Faultless (sym history) (entry_fault 0 q, tt))) (has_room m given (entry_of 0 q ∷ []) history one_two same room)

  last_round : (m : Machine) → Invariant m → Still m → (v w : View) → get_elem? m.views 0 ≡ some v → get_elem? m.views 1 ≡ some w → IsIdle w
      → v.told ≡ None → w.told ≡ None → m.given ≡ given → m.history ≡ entry_of 0 q ∷ entry_of 1 r ∷ []
      → Asks m.given.plan v q → v.held ≡ [] → v.out ≡ [] → v.number ≡ 0 → Ending m v w (entry_of 0 q)
  last_round m i still v w at there b told told_too same history a nothing out number =
      ending m i still v w at there b told told_too q a nothing out (entry_of 0 q) (request_of-entry 0 q) (entry_seat 0 q ∙ sym number)
      (follows_in given m same 0 q has (subst Faultless (sym history) (entry_fault 0 q, (entry_fault 1 r, tt)))) (has_room m given (entry_of 0 q ∷ entry_of 1 r ∷ []) history two_two same room)

  -- # All of it, from the machine with two seats

  abbrev First : {values : List Part} → Splits given values 1 → Type 0
  First s = Round s.end 0 ((s.seated.seats 0 none_one).view) q 1 ((s.seated.seats 1 one_one).view) r t (entry_of 0 q)

  module _ (values : List Part) (s : Splits given values 1) (f : First s) where
    abbrev waiting : View
    waiting = met_with t (s.seated.seats 0 none_one).view.number r (s.seated.seats 1 one_one).view

    abbrev Second : Type 0
    Second = Round f.end 1 waiting r 0 f.view q t (entry_of 1 r)

    first_given : f.end.given ≡ given
    first_given = f.given ∙ s.given_same

    first_history : f.end.history ≡ entry_of 0 q ∷ []
    first_history = f.history ∙ ap (λ h. h ++ entry_of 0 q ∷ []) s.history

    first_inv : Invariant f.end
    first_inv = path_keeps s.end ((0, (s.seated.seats 0 none_one).view, take_record t q f.part) ∷ (1, (s.seated.seats 1 one_one).view, find_record_held t r false)
        ∷ f.rest) f.end s.seated.inv f.allowed

    waiting_asks : Asks f.end.given.plan waiting r
    waiting_asks =
        let b = s.seated.seats 1 one_one in
        let a = idle_asks s.end s.seated.inv 1 b.view b.there b.idle r (has_in given s.end s.given_same r has_r) in
        record { of_plan = has_in given f.end first_given r has_r; live = a.live; unmarked = a.unmarked; before = a.before; no_journal = a.no_journal; request = inr refl }

    go_second : Second
    go_second =
        let b = s.seated.seats 1 one_one in
        second_round f.end first_inv f.still waiting f.view f.other f.there first_given first_history waiting_asks b.idle.held b.idle.no_slot b.number f.idle

    module _ (g : Second) where
      abbrev waiting_again : View
      waiting_again = met_with t waiting.number q f.view

      abbrev Third : Type 0
      Third = Ending g.end waiting_again g.view (entry_of 0 q)

      second_given : g.end.given ≡ given
      second_given = g.given ∙ first_given

      second_history : g.end.history ≡ entry_of 0 q ∷ entry_of 1 r ∷ []
      second_history = g.history ∙ ap (λ h. h ++ entry_of 1 r ∷ []) first_history

      second_inv : Invariant g.end
      second_inv = path_keeps f.end ((1, waiting, take_record t r g.part) ∷ (0, f.view, find_record_held t q false) ∷ g.rest) g.end first_inv g.allowed

      again_asks : Asks g.end.given.plan waiting_again q
      again_asks =
          let a = idle_asks f.end first_inv 0 f.view f.there f.idle q (has_in given f.end first_given q has) in
          record { of_plan = has_in given g.end second_given q has; live = a.live; unmarked = a.unmarked; before = a.before; no_journal = a.no_journal; request = inr refl }

      go_third : Third
      go_third =
          let a = s.seated.seats 0 none_one in let b = s.seated.seats 1 one_one in
          last_round g.end second_inv g.still waiting_again g.view g.other g.there g.idle (f.told ∙ a.told) (g.told ∙ b.told) second_given second_history again_asks f.idle.held f.idle.no_slot
          (f.number ∙ a.number)

      module _ (h : Third) where
        abbrev asked : List (ℕ × View × Kind)
        asked = (0, (s.seated.seats 0 none_one).view, take_record t q f.part) ∷ []

        abbrev answered : List (ℕ × View × Kind)
        answered = f.rest ++ (1, waiting, take_record t r g.part) ∷ []

        abbrev ended : List (ℕ × View × Kind)
        ended = g.rest ++ h.before

        abbrev after_join : List (ℕ × View × Kind)
        after_join = (0, h.first, join_seats 1 g.view) ∷ h.last

        abbrev after_second : List (ℕ × View × Kind)
        after_second = (0, f.view, find_record_held t q false) ∷ (ended ++ after_join)

        abbrev after_split : List (ℕ × View × Kind)
        after_split = asked ++ ((1, (s.seated.seats 1 one_one).view, find_record_held t r false) ∷ (answered ++ after_second))

        -- the steps of the three parts, one after the other
        third_steps : Steps g.end (h.before ++ after_join) h.end
        third_steps = h.allowed

        second_steps : Steps f.end ((1, waiting, take_record t r g.part) ∷ (0, f.view, find_record_held t q false) ∷ (g.rest ++ (h.before ++ after_join))) h.end
        second_steps = joins f.end g.end h.end ((1, waiting, take_record t r g.part) ∷ (0, f.view, find_record_held t q false) ∷ g.rest) (h.before ++ after_join) g.allowed third_steps

        first_steps : Steps s.end
            ((0, (s.seated.seats 0 none_one).view, take_record t q f.part) ∷ (1, (s.seated.seats 1 one_one).view, find_record_held t r false)
            ∷ (f.rest ++ ((1, waiting, take_record t r g.part) ∷ (0, f.view, find_record_held t q false) ∷ (g.rest ++ (h.before ++ after_join))))) h.end
        first_steps = joins s.end f.end h.end ((0, (s.seated.seats 0 none_one).view, take_record t q f.part) ∷ (1, (s.seated.seats 1 one_one).view, find_record_held t r false) ∷ f.rest)
            ((1, waiting, take_record t r g.part) ∷ (0, f.view, find_record_held t q false) ∷ (g.rest ++ (h.before ++ after_join))) f.allowed second_steps

        ended_is : g.rest ++ (h.before ++ after_join) ≡ ended ++ after_join
        ended_is = sym (append_assoc g.rest h.before after_join)

        answered_is : f.rest ++ ((1, waiting, take_record t r g.part) ∷ after_second) ≡ answered ++ after_second
        answered_is = sym (append_assoc f.rest ((1, waiting, take_record t r g.part) ∷ []) after_second)

        split_steps : Steps s.end after_split h.end
        split_steps = subst (λ l. Steps s.end ((0, (s.seated.seats 0 none_one).view, take_record t q f.part) ∷ (1, (s.seated.seats 1 one_one).view, find_record_held t r false) ∷ l) h.end) answered_is
            (subst (λ l. Steps s.end ((0, (s.seated.seats 0 none_one).view, take_record t q f.part) ∷ (1, (s.seated.seats 1 one_one).view, find_record_held t r false)
            ∷ (f.rest ++ ((1, waiting, take_record t r g.part) ∷ (0, f.view, find_record_held t q false) ∷ l))) h.end) ended_is first_steps)

        go_all : TheyMeet given values q r t
        go_all =
            let a = s.seated.seats 0 none_one in let b = s.seated.seats 1 one_one in
            let cut = s.split_last 0 refl in
            record {
              before = cut.before;
              asking = asked;
              answering = answered;
              ending = ended;
              last = h.last;
              splits = cut.view;
              waits_second = b.view;
              waits_first = f.view;
              first = h.first;
              second = g.view;
              end = h.end;
              allowed = subst (λ l. Steps (opened given values) l h.end) (ap (λ l. l ++ after_split) cut.is ∙ append_assoc cut.before ((0, cut.view, split_seat 1 1) ∷ []) after_split)
                  (joins (opened given values) s.end h.end s.path.0 after_split s.path.1 split_steps);
              history = h.history ∙ ap (λ l. l ++ entry_of 0 q ∷ []) second_history;
              first_met = h.met ∙ ap (λ n. Some (pair t n)) b.number;
              first_meets = h.meets ∙ ap (λ n. n + 1) (f.meets ∙ s.meets 0 a.view a.there);
              second_met = g.met ∙ ap (λ n. Some (pair t n)) a.number;
              second_meets = g.meets ∙ ap (λ n. n + 1) (s.meets 1 b.view b.there);
              left = h.left;
              there = h.there;
              parts = both_parts h.left.parts waiting_again.parts g.view.parts a.view.parts b.view.parts h.parts f.parts g.parts (s.parts a.view a.there) (s.part_else 1 b.view zero_below b.there);
              seen = h.seen;
            }

pub two_seats_meet : TwoSeatsMeet
two_seats_meet given values q r t sized has has_r begins begins_r room =
    let s = splits given values sized 1 (omega arith) in
    let f = first_round given q r t has has_r begins begins_r room s.end s.seated s.given_same s.history in
    let g = go_second given q r t has has_r begins begins_r room values s f in
    go_all given q r t has has_r begins begins_r room values s f g (go_third given q r t has has_r begins begins_r room values s f g)
