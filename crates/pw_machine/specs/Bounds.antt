-- A request whose turns nobody else holds ends in a bounded number of its own seat's steps.
use Rattle.std.specs.Prelude.{◌≡◌, ℕ, ◌*◌, ◌<◌, ◌≤◌, List, [], ◌∷◌, ◌++◌, length, slice_index}
use mathlib.Core.Option.{some}
use lib.ListN.{get_elem?}
use Rattle.std.specs.List.{AllByRecursion}
use Rattle.pw_plan.specs.declared.request.Request.{Request}
use Rattle.pw_model.specs.declared.entry.HistoryEntry.{HistoryEntry}
use Rattle.pw_model.specs.History.{MayFollow, request_of}
use Rattle.pw_model.specs.Routes.{route}
use Rattle.pw_machine.specs.declared.view.View.{View}
use Rattle.pw_machine.specs.Turns.{count_turn, way}
use Rattle.pw_machine.specs.Machine.{Machine, Invariant, count_held, now}
use Rattle.pw_machine.specs.Steps.{Asks, IsIdle, Kind}
use Rattle.pw_machine.specs.Law.{Steps}

-- each turn of the request's route that the seat doesn't hold is free
pub record IsClear (m : Machine) (v : View) (q : Request) : Type 0 where
  pub records : (t : ℕ) → 0 < count_turn t (way m.given.plan (now m) q) → count_held t v.held ≡ 0 → slice_index m.turns t ≡ 0
  pub journal : m.journal ≡ 0

-- the entry may be made by this seat for its request
pub record IsEntryOf (m : Machine) (v : View) (q : Request) (e : HistoryEntry) : Type 0 where
  pub request : request_of e ≡ q
  pub seat : e.seat ≡ v.number
  pub follows : MayFollow m.given.plan m.history e
  pub room : length m.history < m.given.capacity

-- The seat makes the entry and is idle again, in at most two steps for each turn of the route.
pub record EndsSoon (m : Machine) (j : ℕ) (q : Request) (e : HistoryEntry) : Type 0 where
  pub steps : List (ℕ × View × Kind)
  pub end : Machine
  pub allowed : Steps m steps end
  pub own : AllByRecursion (λ (s : ℕ × View × Kind). s.0 ≡ j) steps
  pub few : length steps ≤ 2 * length (route m.given.plan (now m) q)
  pub history : end.history ≡ m.history ++ e ∷ []
  pub view : View
  pub there : get_elem? end.views j ≡ some view
  pub idle : IsIdle view

abbrev pub RequestsEndSoon : Type 0
RequestsEndSoon = (m : Machine) → Invariant m → (j : ℕ) (v : View) → get_elem? m.views j ≡ some v → (q : Request) → Asks m.given.plan v q
    → v.out ≡ [] → IsClear m v q
    → (e : HistoryEntry) → IsEntryOf m v q e → EndsSoon m j q e
