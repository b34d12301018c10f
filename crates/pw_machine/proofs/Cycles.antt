-- The steps of one request, where nobody else holds a turn: its records, the journal, its entry, and all turns back.
use Rattle.std.proofs.Common.{◌≡◌, ◌⊎◌, inl, inr, ⊎_elim, ℕ, zero, suc, ◌+◌, ◌*◌, ◌<◌, ◌≤◌, ◌==◌, List, [], ◌∷◌, ◌++◌, Bool, true, false, Option, Some, None, length, get_or, cond, eq-eqb, sym, refl, ap, ◌∙◌, subst, arith, append-nil, append_assoc, length-append, get_or-set_other}
use mathlib.Core.Option.{some}
use lib.ListN.{get_elem?}
use Rattle.pw_plan.specs.declared.request.Request.{Request}
use Rattle.pw_plan.specs.Requests.{Has}
use Rattle.pw_model.specs.declared.entry.HistoryEntry.{HistoryEntry}
use Rattle.pw_model.specs.History.{MayFollow, replay, request_of}
use Rattle.pw_plan.specs.declared.plan.Plan.{Plan}
use Rattle.pw_model.specs.declared.state.State.{State}
use Rattle.pw_model.specs.Records.{Part, record_count}
use Rattle.pw_model.specs.Routes.{route}
use Rattle.pw_machine.specs.declared.view.Held.{Held}
use Rattle.pw_machine.specs.declared.view.View.{View}
use Rattle.pw_machine.specs.Turns.{StartsWith, count_turn, part_at, way}
use Rattle.pw_books.specs.Books.{grown}
use Rattle.pw_machine.specs.Machine.{Machine, Given, Invariant, held_as, now, turns_of, seat_of}
use Rattle.pw_machine.specs.Steps.{Asks, Enters, IsIdle, Leaves, May, after, entered, led, left_with, release_record, release_with_entry, renoted, take_journal, take_record, taken, without_record}
use Rattle.pw_books.proofs.Lists.{one}
use Rattle.pw_machine.proofs.Plans.{count_turn-append, ends_route, on_route, route_is, way_apart, way_within}
use Rattle.pw_machine.proofs.Turns.{count-turns, turns-snoc}
use Rattle.pw_machine.proofs.Requests.{next_in}
use Rattle.pw_machine.proofs.Keeps.{step_keeps}
use Rattle.pw_machine.proofs.Paths.{Leads, Quiet, at_once, journal_free, leads_on, once, path_keeps, record_free}

-- # Its records

pub record Gathered (m : Machine) (j : ℕ) (v : View) (q : Request) : Type 0 where
  pub end : Machine
  pub held : List Held
  pub request : Option Request
  pub leads : Leads m end j (record v { held = held; request = request })
  pub history : end.history ≡ m.history
  pub asked : (request ≡ None) ⊎ (request ≡ Some q)
  pub whole : turns_of held ≡ way end.given.plan (now end) q
  pub journal : end.journal ≡ m.journal
  -- one step a record
  pub few : length leads.path.0 + length v.held ≡ length held

pub gathers : (rest : List ℕ) (m : Machine) → Invariant m → (j : ℕ) (v : View) → get_elem? m.views j ≡ some v → (q : Request)
    → Asks m.given.plan v q → way m.given.plan (now m) q ≡ turns_of v.held ++ rest
    → ((t : ℕ) → 0 < count_turn t rest → get_or m.turns t 0 ≡ 0) → Gathered m j v q
gathers [] m i j v at q a e clear = record {
  end = m;
  held = v.held;
  request = v.request;
  leads = at_once m j v at;
  history = refl;
  asked = a.request;
  whole = sym (e ∙ append-nil (turns_of v.held));
  journal = refl;
  few = omega arith;
}
gathers (t ∷ rest) m i j v at q a e clear =
    let P = m.given.plan in
    let begins : StartsWith (way P (now m) q) (turns_of v.held ++ t ∷ []) = (rest, e ∙ sym (append_assoc (turns_of v.held) (t ∷ []) rest)) in
    let low = way_within P (now m) q t a.of_plan (next_in (way P (now m) q) (turns_of v.held) t begins) in
    let free = clear t (omega (arith, one t t refl)) in
    let x = part_at P t (now m) in
    let may : May m j v (take_record t q x) = (a, on_route P (now m) q (turns_of v.held ++ t ∷ []) begins, free, i.values.free t low free) in
    let n = after m j v (take_record t q x) in
    let w = taken t q x v in
    let l = once m j v w (take_record t q x) at may refl refl in
    let asks : Asks P w q = record { of_plan = a.of_plan; live = a.live; unmarked = a.unmarked; before = a.before; no_journal = a.no_journal; request = inr refl } in
    let later : way P (now m) q ≡ turns_of w.held ++ rest = begins.1 ∙ ap (λ l. l ++ rest) (sym (turns-snoc v.held t x)) in
    let still : (r : ℕ) → 0 < count_turn r rest → get_or n.turns r 0 ≡ 0 = λ r more.
    let apart = way_apart P (now m) q (turns_of v.held ++ t ∷ []) rest r a.of_plan begins.1 more in
    get_or-set_other m.turns t r (suc v.number) 0 (λ same. omega (arith, apart, count_turn-append r (turns_of v.held) (t ∷ []), one t r (sym same))) ∙ clear r (omega (arith, more)) in
    let g = gathers rest n (step_keeps m j v (take_record t q x) i at may) j w l.there q asks later still in
    record {
      end = g.end;
      held = g.held;
      request = g.request;
      leads = leads_on m n g.end j w (record w { held = g.held; request = g.request }) l g.leads;
      history = g.history;
      asked = g.asked;
      whole =
          g.whole;
      journal = g.journal;
      few = omega (arith, g.few, length-append v.held (held_as t x ∷ []));
    }

-- # Its entry

-- the view that made its entry, but for what it holds
abbrev pub written : List HistoryEntry → HistoryEntry → ℕ → Request → View → View
written history e count q v = record (led history count q v) { leads = false; seen = history ++ e ∷ []; book = grown seat_of v.book e; at_unlock = Some (count + 1); releasing = true }

pub record Entered (m : Machine) (j : ℕ) (v : View) (q : Request) (e : HistoryEntry) : Type 0 where
  pub end : Machine
  pub held : List Held
  pub leads : Leads m end j (left_with held (written m.history e m.count q v))
  pub history : end.history ≡ m.history ++ e ∷ []
  pub few : length leads.path.0 ≡ 2
  pub same : length held ≡ length v.held

renoted_length : (P : Plan) (S : State) (hs : List Held) → length (renoted P S hs) ≡ length hs
renoted_length P S [] = refl
renoted_length P S (h ∷ hs) = omega (arith, renoted_length P S hs)

pub enter_asks : (m : Machine) (v : View) (q : Request) (e : HistoryEntry) → v.out ≡ [] → request_of e ≡ q → e.seat ≡ v.number
    → MayFollow m.given.plan m.history e → length m.history < m.given.capacity → (n : Machine) → n.given ≡ m.given → n.history ≡ m.history
    → Enters n (led m.history m.count q v) e (m.count + 1)
enter_asks m v q e out asks seat follows room n given history = record {
  leads = refl;
  back = ap (count_turn (record_count n.given.plan)) out;
  seat = seat;
  request = ap Some (sym asks);
  room = omega (arith, room, ap (length {A = HistoryEntry}) history, ap (λ (g : Given). g.capacity) given);
  follows = subst (λ (g : Given). MayFollow g.plan n.history e) (sym given) (subst (λ h. MayFollow m.given.plan h e) (sym history) follows);
  first = m.count;
  noted = refl;
  kept = omega arith;
  fault = λ some below. omega arith;
}

pub enters : (m : Machine) → Invariant m → (j : ℕ) (v : View) → get_elem? m.views j ≡ some v → m.journal ≡ 0 → (q : Request)
    → Asks m.given.plan v q → turns_of v.held ≡ way m.given.plan (now m) q → v.out ≡ [] → (e : HistoryEntry)
    → request_of e ≡ q → e.seat ≡ v.number → MayFollow m.given.plan m.history e → length m.history < m.given.capacity → Entered m j v q e
enters m i j v at free q a whole out e asks seat follows room =
    let P = m.given.plan in
    let may : May m j v (take_journal q) = (a, ends_route P (now m) q (turns_of v.held) whole, free) in
    let n = after m j v (take_journal q) in
    let w = led m.history m.count q v in
    let l = once m j v w (take_journal q) at may refl refl in
    let k = release_with_entry e (m.count + 1) in
    let u = left_with (renoted P (replay P (m.history ++ e ∷ [])) v.held) (written m.history e m.count q v) in
    let seen : u ≡ entered P (replay P (m.history ++ e ∷ [])) e (m.count + 1) w = refl in
    let o = once n j w u k l.there (enter_asks m v q e out asks seat follows room n refl refl) refl refl in
    record {
      end = after n j w k;
      held = renoted P (replay P (m.history ++ e ∷ [])) v.held;
      leads = leads_on m n (after n j w k) j w u l o;
      history = refl;
      few = refl;
      same =
          renoted_length P (replay P (m.history ++ e ∷ [])) v.held;
    }

-- # All turns back

pub record Released (m : Machine) (j : ℕ) (held : List Held) (b : View) : Type 0 where
  pub end : Machine
  pub leads : Leads m end j (left_with [] b)
  pub history : end.history ≡ m.history
  pub count : end.count ≡ m.count
  pub few : length leads.path.0 ≤ length held

without_less : (t : ℕ) (hs : List Held) → length (without_record t hs) ≤ length hs
without_less t [] = omega arith
without_less t (h ∷ hs) = step (h.turn == t) (without_less t hs)
  where
    step : (b : Bool) → length (without_record t hs) ≤ length hs
        → length (cond b (without_record t hs) (h ∷ without_record t hs)) ≤ suc (length hs)
    step true le = omega (arith, le)
    step false le = omega (arith, le)

without_first : (h : Held) (hs : List Held) → length (without_record h.turn (h ∷ hs)) ≤ length hs
without_first h hs = omega (arith, ap (λ b. length (cond b (without_record h.turn hs) (h ∷ without_record h.turn hs))) (eq-eqb h.turn h.turn refl), without_less h.turn hs)

pub releases : (fuel : ℕ) (held : List Held) (b : View) → length held ≤ fuel → (b.releasing ≡ true) ⊎ (b.mark ≡ true) → b.out ≡ []
    → (m : Machine) → Invariant m → (j : ℕ) → get_elem? m.views j ≡ some (left_with held b) → Released m j held b
releases fuel [] b le how out m i j at = record { end = m; leads = at_once m j (left_with [] b) at; history = refl; count = refl; few = omega arith }
releases zero (h ∷ hs) b le how out m i j at = absurd (omega (arith, le))
releases (suc fuel) (h ∷ hs) b le how out m i j at = ⊎_elim
    (λ (on : b.releasing ≡ true). go h.noted (inl (on, inl refl)) (λ left less n i2 at2. releases fuel left b less how out n i2 j at2))
    (λ (mark : b.mark ≡ true). go (part_at m.given.plan h.turn (now m)) (inr (mark, omega (arith, one h.turn h.turn refl), refl)) (λ left less n i2 at2. releases fuel left b less how out n i2 j at2))
    how
  where
    go : (x : Part) → Leaves m (left_with (h ∷ hs) b) h.turn x
        → ((left : List Held) → length left ≤ fuel → (n : Machine) → Invariant n → get_elem? n.views j ≡ some (left_with left b) → Released n j left b) → Released m j (h ∷ hs) b
    go x leaves again =
        let v = left_with (h ∷ hs) b in
        let k = release_record h.turn x in
        let may : May m j v k = (leaves, ap (count_turn h.turn) out) in
        let w = left_with (without_record h.turn (h ∷ hs)) b in
        let n = after m j v k in
        let l = once m j v w k at may refl refl in
        let r = again (without_record h.turn (h ∷ hs)) (omega (arith, le, without_first h hs)) n (step_keeps m j v k i at may) l.there in
        record { end = r.end; leads = leads_on m n r.end j w (left_with [] b) l r.leads; history = r.history; count = r.count; few = omega (arith, r.few, without_first h hs) }

-- # The whole request

few_in_all : (g n r before held later on route all : ℕ) → all ≡ g + (n + r) → g + before ≡ held → n ≡ 2 → r ≤ later → later ≡ held
    → held ≡ on → route ≡ on + 1 → all ≤ 2 * route
few_in_all g n r before held later on route all a b c d e f h = omega arith

turns_length : (hs : List Held) → length (turns_of hs) ≡ length hs
turns_length [] = refl
turns_length (h ∷ hs) = omega (arith, turns_length hs)

held_in_all : (end m : Machine) (held : List Held) (q : Request) → end.given ≡ m.given → end.history ≡ m.history
    → turns_of held ≡ way end.given.plan (now end) q → length held ≡ length (way m.given.plan (now m) q)
held_in_all end m held q given history whole =
    sym (turns_length held) ∙ (ap (length {A = ℕ}) whole ∙ (ap (λ (g : Given). length (way g.plan (replay g.plan end.history) q)) given ∙ ap
    (λ h. length (way m.given.plan (replay m.given.plan h) q)) history))

route_length : (P : Plan) (S : State) (q r : Request) → r ≡ q → length (route P S r) ≡ length (way P S q) + 1
route_length P S q r e = ap (λ x. length (route P S x)) e ∙ (ap (length {A = ℕ}) (route_is P S q) ∙ length-append (way P S q) (record_count P ∷ []))

pub record Cycled (m : Machine) (j : ℕ) (v : View) (e : HistoryEntry) : Type 0 where
  pub end : Machine
  pub view : View
  pub leads : Leads m end j view
  pub history : end.history ≡ m.history ++ e ∷ []
  pub idle : IsIdle view
  pub number : view.number ≡ v.number
  pub parts : view.parts ≡ v.parts
  pub told : view.told ≡ v.told
  pub meets : view.meets ≡ v.meets
  pub met : view.met ≡ v.met
  pub seen : view.seen ≡ m.history ++ e ∷ []
  -- for each turn of the route a step to take it and one to release it
  pub few : length leads.path.0 ≤ 2 * length (route m.given.plan (now m) (request_of e))

pub answers : (m : Machine) → Invariant m → (j : ℕ) (v : View) → get_elem? m.views j ≡ some v → (q : Request) → Asks m.given.plan v q
    → (rest : List ℕ) → way m.given.plan (now m) q ≡ turns_of v.held ++ rest
    → ((t : ℕ) → 0 < count_turn t rest → get_or m.turns t 0 ≡ 0) → m.journal ≡ 0 → v.out ≡ [] → (e : HistoryEntry) → request_of e ≡ q
    → e.seat ≡ v.number → MayFollow m.given.plan m.history e → length m.history < m.given.capacity → Cycled m j v e
answers m i j v at q a rest is clear free out e asks seat follows room =
    let g = gathers rest m i j v at q a is clear in
    let u : View = record v { held = g.held; request = g.request } in
    let a2 : Asks g.end.given.plan u q = record {
      of_plan = subst (λ (x : Given). Has x.plan q) (sym g.leads.given) a.of_plan;
      live = a.live;
      unmarked = a.unmarked;
      before = a.before;
      no_journal =
          a.no_journal;
      request = g.asked;
    } in
    let follows2 = subst (λ (x : Given). MayFollow x.plan g.end.history e) (sym g.leads.given) (subst (λ h. MayFollow m.given.plan h e) (sym g.history) follows) in
    let room2 : length g.end.history < g.end.given.capacity = omega (arith, room, ap (length {A = HistoryEntry}) g.history, ap (λ (x : Given). x.capacity) g.leads.given) in
    let i2 = path_keeps m g.leads.path.0 g.end i g.leads.path.1 in
    let n = enters g.end i2 j u g.leads.there (g.journal ∙ free) q a2 g.whole out e asks seat follows2 room2 in
    let b = written g.end.history e g.end.count q u in
    let i3 = path_keeps g.end n.leads.path.0 n.end i2 n.leads.path.1 in
    let r = releases (length n.held) n.held b (omega arith) (inl refl) out n.end i3 j n.leads.there in
    record {
      end = r.end;
      view = left_with [] b;
      leads = leads_on m g.end r.end j u (left_with [] b) g.leads (leads_on g.end n.end r.end j (left_with n.held b) (left_with [] b) n.leads r.leads);
      history = r.history ∙ (n.history ∙ ap (λ h. h ++ e ∷ []) g.history);
      idle = record { live = a.live; unmarked = a.unmarked; request = refl; held = refl; no_journal = refl; no_slot = out };
      number = refl;
      parts = refl;
      told = refl;
      meets = refl;
      met = refl;
      seen = ap (λ h. h ++ e ∷ []) g.history;
      few = few_in_all (length g.leads.path.0) (length n.leads.path.0) (length r.leads.path.0) (length v.held) (length g.held) (length n.held) (length (way m.given.plan (now m) q))
          (length (route m.given.plan (now m) (request_of e)))
          _ (length-append g.leads.path.0 (n.leads.path.0 ++ r.leads.path.0) ∙ ap (λ x. length g.leads.path.0 + x) (length-append n.leads.path.0 r.leads.path.0)) g.few n.few r.few n.same
          (held_in_all g.end m g.held q g.leads.given g.history g.whole) (route_length m.given.plan (now m) q (request_of e) asks);
    }

-- nobody else holds a turn
pub cycles : (m : Machine) → Invariant m → (j : ℕ) (v : View) → get_elem? m.views j ≡ some v → Quiet m j → (q : Request)
    → Asks m.given.plan v q → (rest : List ℕ) → way m.given.plan (now m) q ≡ turns_of v.held ++ rest → v.out ≡ []
    → (e : HistoryEntry) → request_of e ≡ q → e.seat ≡ v.number → MayFollow m.given.plan m.history e → length m.history < m.given.capacity
    → Cycled m j v e
cycles m i j v at quiet q a rest is out e asks seat follows room = answers m i j v at q a rest is clear (journal_free m i j v at quiet a.no_journal) out e asks seat follows room
  where
    clear : (t : ℕ) → 0 < count_turn t rest → get_or m.turns t 0 ≡ 0
    clear t more =
        let P = m.given.plan in
        let there : 0 < count_turn t (way P (now m) q) = subst (λ l. 0 < count_turn t l) (sym is) (omega (arith, more, count_turn-append t (turns_of v.held) rest)) in
        record_free m i j v at quiet t (way_within P (now m) q t a.of_plan there) (omega (arith, way_apart P (now m) q (turns_of v.held) rest t a.of_plan is more, count-turns t v.held))
