-- The kinds of step of the turn machine: when a seat may take one, and what is so after it.
use Rattle.std.specs.Prelude.{◌≡◌, ◌≢◌, ◌⊎◌, ℕ, suc, ◌+◌, ◌-◌, ◌<◌, ◌≤◌, Bool, true, false, List, [], ◌∷◌, ◌++◌, length, Option, Some, None, ◌==◌, cond, slice_set, slice_index}
use mathlib.Core.Option.{some}
use lib.ListN.{get_elem?}
use Rattle.pw_base.specs.Outside.{Rose}
use Rattle.pw_plan.specs.declared.plan.Plan.{Plan}
use Rattle.pw_model.specs.declared.state.State.{State}
use Rattle.pw_plan.specs.declared.request.Request.{Request}
use Rattle.pw_model.specs.declared.entry.HistoryEntry.{HistoryEntry}
use Rattle.pw_model.specs.Records.{Part}
use Rattle.pw_machine.specs.Turns.{count_turn, StartsWith}
use Rattle.pw_plan.specs.Requests.{Has}
use Rattle.pw_model.specs.Operations.{opening_ops}
use Rattle.pw_model.specs.History.{MayFollow, request_of, entry_ops, replay}
use Rattle.pw_model.specs.Records.{record_count}
use Rattle.pw_model.specs.Routes.{route}
use Rattle.pw_machine.specs.Turns.{part_at}
use Rattle.pw_machine.specs.declared.view.Held.{Held}
use Rattle.pw_machine.specs.declared.view.View.{View}
use Rattle.pw_books.specs.Books.{calls_of, count_in, list_of, grown, without, furthest}
use Rattle.pw_machine.specs.Machine.{Machine, now, held_as, turns_of, count_held, spent_view, seat_of}

pub data Kind : Type 0 where
  take_record : ℕ → Request → Part → Kind
  find_record_held : ℕ → Request → Bool → Kind
  record_out : ℕ → Kind
  record_back : ℕ → Kind
  release_record : ℕ → Part → Kind
  take_journal : Request → Kind
  find_journal_held : Request → Bool → Kind
  journal_out : Kind
  journal_back : Kind
  release_with_entry : HistoryEntry → ℕ → Kind
  release_without_entry : ℕ → Kind
  draw_number : Kind
  miss_draw : Kind
  split_seat : ℕ → ℕ → Kind
  join_seats : ℕ → View → Kind
  read_made : Kind

-- # The view after a step

-- a view that has these records left: where there are none, its request goes, and its sign that it only releases
abbrev pub request_left : List Held → Option Request → Option Request
request_left [] request = None
request_left (h ∷ hs) request = request

abbrev pub sign_left : List Held → Bool → Bool
sign_left [] releasing = false
sign_left (h ∷ hs) releasing = releasing

abbrev pub left_with : List Held → View → View
left_with hs v = record v { held = hs; request = request_left hs v.request; releasing = sign_left hs v.releasing }

-- it only releases from now on
abbrev pub releasing : List Held → View → View
releasing hs v = left_with hs (record v { releasing = true })

abbrev pub taken : ℕ → Request → Part → View → View
taken t q part v = record v { held = v.held ++ held_as t part ∷ []; request = Some q }

abbrev pub met_with : ℕ → ℕ → Request → View → View
met_with t holder q v = record v { request = Some q; met = Some (record { turn = t; holder = holder }); meets = v.meets + 1 }

-- who found a turn held goes on, or gives up
abbrev pub goes_on : Bool → View → View
goes_on true v = releasing v.held v
goes_on false v = v

abbrev pub without_record : ℕ → List Held → List Held
without_record t [] = []
without_record t (h ∷ hs) = cond (h.turn == t) (without_record t hs) (h ∷ without_record t hs)

abbrev pub freed : ℕ → View → View
freed t v = left_with (without_record t v.held) v

abbrev pub led : List HistoryEntry → ℕ → Request → View → View
led history count q v = record v { leads = true; seen = history; at_lock = Some count; request = Some q }

abbrev pub renoted : Plan → State → List Held → List Held
renoted P S [] = []
renoted P S (h ∷ hs) = held_as h.turn (part_at P h.turn S) ∷ renoted P S hs

-- a slot's value comes into its hands, and back
abbrev pub in_hand : ℕ → View → View
in_hand t v = record v { out = t ∷ v.out }

abbrev pub without_turn : ℕ → List ℕ → List ℕ
without_turn t [] = []
without_turn t (x ∷ xs) = cond (x == t) (without_turn t xs) (x ∷ without_turn t xs)

abbrev pub in_place : ℕ → View → View
in_place t v = record v { out = without_turn t v.out }

-- it made its entry, which left this state
abbrev pub entered : Plan → State → HistoryEntry → ℕ → View → View
entered P S e count v =
    releasing (renoted P S v.held)
    (record v { leads = false; seen = v.seen ++ e ∷ []; book = grown seat_of v.book e; at_unlock = Some count })

abbrev pub let_go : ℕ → View → View
let_go count v = releasing v.held (record v { leads = false; at_unlock = Some count; mark = false })

abbrev pub drawn : ℕ → View → View
drawn n v = record v { book = calls_of n [] ∷ v.book; read = Some (n + 1) }

abbrev pub missed : ℕ → View → View
missed made v = record v { read = Some made }

abbrev pub left_of : ℕ → ℕ → View → View
left_of n parts v = record v { parts = v.parts - parts; book = without n v.book }

abbrev pub right_of : ℕ → ℕ → View → View
right_of n parts v = record spent_view { number = n; seen = v.seen; book = calls_of n [] ∷ []; parts = parts }

abbrev pub joined : View → View → View
joined v w = record v { told = Some w.seen; book = v.book ++ w.book; parts = v.parts + w.parts; read = None }

abbrev pub looked : ℕ → View → View
looked made v = record v { seen = furthest v.told v.seen; told = None; read = Some made }

-- # When a step may be taken

-- a live view may look for a turn: it makes this request, or begins it
pub record Asks (P : Plan) (v : View) (q : Request) : Type 0 where
  pub of_plan : Has P q
  pub live : 0 < v.parts
  pub unmarked : v.mark ≡ false
  pub before : v.releasing ≡ false
  pub no_journal : v.leads ≡ false
  pub request : (v.request ≡ None) ⊎ (v.request ≡ Some q)

-- the turn comes next on the request's route: after its records, in order, the journal's
abbrev pub IsNext : Machine → View → Request → ℕ → Type 0
IsNext m v q t = StartsWith (route m.given.plan (now m) q) (turns_of v.held ++ t ∷ [])

abbrev pub HoldsAs : ℕ → Part → List Held → Type 0
HoldsAs t part [] = ⊥
HoldsAs t part (h ∷ hs) = (h ≡ held_as t part) ⊎ HoldsAs t part hs

-- the value that stays in a released record: as it was noted, or while open runs the state's part
abbrev pub Leaves : Machine → View → ℕ → Part → Type 0
Leaves m v t part =
    ((v.releasing ≡ true) × HoldsAs t part v.held)
    ⊎ ((v.mark ≡ true) × (0 < count_held t v.held) × (part ≡ part_at m.given.plan t (now m)))

pub record Enters (m : Machine) (v : View) (e : HistoryEntry) (count : ℕ) : Type 0 where
  pub leads : v.leads ≡ true
  pub back : count_turn (record_count m.given.plan) v.out ≡ 0
  pub seat : e.seat ≡ v.number
  pub request : v.request ≡ Some (request_of e)
  pub room : length m.history < m.given.capacity
  -- no entry was a fault, and this one states a request of the plan
  pub follows : MayFollow m.given.plan m.history e
  -- the registers' count has not sunk since the journal was taken, and for a fault it rose
  pub first : ℕ
  pub noted : v.at_lock ≡ Some first
  pub kept : first ≤ count
  pub fault : e.fault ≢ 0 → Rose first count

-- the journal goes as it was found, or while open runs, last of all turns, with the operations of the opening done
abbrev pub LetsGo : Machine → View → ℕ → Type 0
LetsGo m v count = ((v.mark ≡ false) × (count ≡ m.count)) ⊎ ((v.mark ≡ true) × (v.held ≡ []) × (m.given.count ≤ count))

-- a live view without the mark, in no request, that holds no turn and no slot's value
pub record IsIdle (v : View) : Type 0 where
  pub live : 0 < v.parts
  pub unmarked : v.mark ≡ false
  pub request : v.request ≡ None
  pub held : v.held ≡ []
  pub no_journal : v.leads ≡ false
  pub no_slot : v.out ≡ []

-- the number isn't its own, and has no entry
pub record IsSpare (n : ℕ) (v : View) : Type 0 where
  pub in_book : count_in n v.book ≡ 1
  pub other : n ≢ v.number
  pub no_entry : list_of n v.book ≡ []

-- when the view v of the machine, at j, may take the step
abbrev pub May : Machine → ℕ → View → Kind → Type 0
May m j v (take_record t q part) = Asks m.given.plan v q × IsNext m v q t × (slice_index m.turns t ≡ 0) × (get_elem? m.values t ≡ some part)
May m j v (find_record_held t q gives_up) = Asks m.given.plan v q × IsNext m v q t × (slice_index m.turns t ≢ 0)
May m j v (record_out t) = (0 < count_held t v.held) × (count_turn t v.out ≡ 0)
May m j v (record_back t) = (0 < count_held t v.held) × (0 < count_turn t v.out)
May m j v (release_record t part) = Leaves m v t part × (count_turn t v.out ≡ 0)
May m j v (take_journal q) = Asks m.given.plan v q × IsNext m v q (record_count m.given.plan) × (m.journal ≡ 0)
May m j v (find_journal_held q gives_up) = Asks m.given.plan v q × IsNext m v q (record_count m.given.plan) × (m.journal ≢ 0)
May m j v journal_out = (v.leads ≡ true) × (count_turn (record_count m.given.plan) v.out ≡ 0)
May m j v journal_back = (v.leads ≡ true) × (0 < count_turn (record_count m.given.plan) v.out)
May m j v (release_with_entry e count) = Enters m v e count
May m j v (release_without_entry count) = (v.leads ≡ true) × (count_turn (record_count m.given.plan) v.out ≡ 0) × LetsGo m v count
May m j v draw_number = IsIdle v × (m.made < 65536)
May m j v miss_draw = IsIdle v × (((r : ℕ) × (v.read ≡ Some r) × (r < m.made)) ⊎ (m.made ≡ 65536))
May m j v (split_seat n parts) = IsIdle v × (v.told ≡ None) × IsSpare n v × (0 < parts) × (parts < v.parts)
May m j v (join_seats k w) = (k ≢ j) × (get_elem? m.views k ≡ some w) × IsIdle v × IsIdle w × (v.told ≡ None) × (w.told ≡ None)
May m j v read_made = IsIdle v

-- # The machine after a step

abbrev pub after : Machine → ℕ → View → Kind → Machine
after m j v (take_record t q part) = record m { turns = slice_set m.turns t (suc v.number); views = slice_set m.views j (taken t q part v) }
after m j v (find_record_held t q gives_up) =
    record m { views = slice_set m.views j (goes_on gives_up (met_with t (slice_index m.turns t - 1) q v)) }
after m j v (record_out t) = record m { views = slice_set m.views j (in_hand t v) }
after m j v (record_back t) = record m { views = slice_set m.views j (in_place t v) }
after m j v (release_record t part) = record m {
  turns = slice_set m.turns t 0;
  values = slice_set m.values t part;
  views = slice_set m.views j (freed t v);
}
after m j v (take_journal q) = record m { journal = suc v.number; views = slice_set m.views j (led m.history m.count q v) }
after m j v (find_journal_held q gives_up) =
    record m { views = slice_set m.views j (goes_on gives_up (met_with (record_count m.given.plan) (m.journal - 1) q v)) }
after m j v journal_out = record m { views = slice_set m.views j (in_hand (record_count m.given.plan) v) }
after m j v journal_back = record m { views = slice_set m.views j (in_place (record_count m.given.plan) v) }
after m j v (release_with_entry e count) =
    let H = m.history ++ e ∷ [] in
    record m {
      history = H;
      journal = 0;
      ops = m.ops ++ entry_ops m.given.plan (now m) e;
      count = count;
      views = slice_set m.views j (entered m.given.plan (replay m.given.plan H) e count v);
    }
after m j v (release_without_entry count) = record m {
  journal = 0;
  ops = cond v.mark (m.given.ops ++ opening_ops m.given.plan) m.ops;
  count = count;
  views = slice_set m.views j (let_go count v);
}
after m j v draw_number = record m { made = m.made + 1; views = slice_set m.views j (drawn m.made v) }
after m j v miss_draw = record m { views = slice_set m.views j (missed m.made v) }
after m j v (split_seat n parts) = record m { views = slice_set m.views j (left_of n parts v) ++ right_of n parts v ∷ [] }
after m j v (join_seats k w) = record m { views = slice_set (slice_set m.views j (joined v w)) k spent_view }
after m j v read_made = record m { views = slice_set m.views j (looked m.made v) }
