-- Two seats that meet: each makes a request that waits once for the record that the other holds, and then they are joined.
use Rattle.std.specs.Prelude.{◌≡◌, ℕ, ◌≤◌, false, List, [], ◌∷◌, ◌++◌, length, Some}
use mathlib.Core.Option.{some}
use lib.ListN.{get_elem?}
use Rattle.pw_plan.specs.declared.request.Request.{Request}
use Rattle.pw_plan.specs.Requests.{Has}
use Rattle.pw_model.specs.History.{entry_of}
use Rattle.pw_model.specs.States.{opening}
use Rattle.pw_model.specs.Records.{Part, record_count}
use Rattle.pw_machine.specs.declared.view.View.{View}
use Rattle.pw_machine.specs.Turns.{StartsWith, way}
use Rattle.pw_machine.specs.Machine.{Given, Machine}
use Rattle.pw_machine.specs.Steps.{Kind, find_record_held, join_seats, split_seat}
use Rattle.pw_machine.specs.Law.{opened, Steps}

-- A list of allowed steps: seat 0 is opened and splits off seat 1, each finds the record of turn t held by the other once, and
-- seat 1 is joined into seat 0.
pub record TheyMeet (given : Given) (values : List Part) (q r : Request) (t : ℕ) : Type 0 where
  pub before : List (ℕ × View × Kind)
  pub asking : List (ℕ × View × Kind)
  pub answering : List (ℕ × View × Kind)
  pub ending : List (ℕ × View × Kind)
  pub last : List (ℕ × View × Kind)
  -- the seats as they split, as they wait, and as they are joined
  pub splits : View
  pub waits_second : View
  pub waits_first : View
  pub first : View
  pub second : View
  pub end : Machine
  pub allowed : Steps (opened given values)
      (before ++ ((0, splits, split_seat 1 1)
      ∷ (asking ++ ((1, waits_second, find_record_held t r false)
      ∷ (answering ++ ((0, waits_first, find_record_held t q false) ∷ (ending ++ ((0, first, join_seats 1 second) ∷ last))))))))
      end
  pub history : end.history ≡ entry_of 0 q ∷ entry_of 1 r ∷ entry_of 0 q ∷ []
  -- each has met the other, once
  pub first_met : first.met ≡ Some (record { turn = t; holder = 1 })
  pub first_meets : first.meets ≡ 1
  pub second_met : second.met ≡ Some (record { turn = t; holder = 0 })
  pub second_meets : second.meets ≡ 1
  -- the seat that is left has all parts, and has seen all
  pub left : View
  pub there : get_elem? end.views 0 ≡ some left
  pub parts : left.parts ≡ 65536
  pub seen : left.seen ≡ end.history

-- So it is in any plan with two requests that take the same record first, such as those of two processors in one container.
abbrev pub TwoSeatsMeet : Type 0
TwoSeatsMeet = (given : Given) (values : List Part) (q r : Request) (t : ℕ) → length values ≡ record_count given.plan → Has given.plan q
    → Has given.plan r
    → StartsWith (way given.plan (opening given.plan) q) (t ∷ []) → StartsWith (way given.plan (opening given.plan) r) (t ∷ [])
    → 3 ≤ given.capacity
    → TheyMeet given values q r t
