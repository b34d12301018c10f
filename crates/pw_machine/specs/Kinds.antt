-- Each of the sixteen kinds of step is taken in some list of allowed steps.
use Rattle.std.specs.Prelude.{◌≡◌, ℕ, ◌≤◌, List, [], ◌∷◌, ◌++◌, length}
use Rattle.pw_plan.specs.declared.request.Request.{Request}
use Rattle.pw_plan.specs.Requests.{Has}
use Rattle.pw_model.specs.States.{opening}
use Rattle.pw_model.specs.Records.{Part, record_count}
use Rattle.pw_machine.specs.declared.view.View.{View}
use Rattle.pw_machine.specs.Turns.{StartsWith, way}
use Rattle.pw_machine.specs.Machine.{Given, Machine}
use Rattle.pw_machine.specs.Steps.{Kind, take_record, find_record_held, record_out, record_back, release_record, take_journal, find_journal_held, journal_out, journal_back, release_with_entry, release_without_entry, draw_number, miss_draw, split_seat, join_seats, read_made}
use Rattle.pw_machine.specs.Law.{opened, Steps}

-- the place of a kind among the kinds, counted from 1
abbrev pub kind_number : Kind → ℕ
kind_number (take_record t q part) = 1
kind_number (find_record_held t q gives_up) = 2
kind_number (record_out t) = 3
kind_number (record_back t) = 4
kind_number (release_record t part) = 5
kind_number (take_journal q) = 6
kind_number (find_journal_held q gives_up) = 7
kind_number journal_out = 8
kind_number journal_back = 9
kind_number (release_with_entry e count) = 10
kind_number (release_without_entry count) = 11
kind_number draw_number = 12
kind_number miss_draw = 13
kind_number (split_seat n parts) = 14
kind_number (join_seats k w) = 15
kind_number read_made = 16

-- a list of allowed steps ends with one of this kind
pub record IsTaken (given : Given) (values : List Part) (n : ℕ) : Type 0 where
  pub before : List (ℕ × View × Kind)
  pub place : ℕ
  pub view : View
  pub kind : Kind
  pub end : Machine
  pub allowed : Steps (opened given values) (before ++ (place, view, kind) ∷ []) end
  pub is : kind_number kind ≡ n

-- So it is in any plan with a request that takes a record.
abbrev pub EachKindIsTaken : Type 0
EachKindIsTaken = (given : Given) (values : List Part) (q : Request) (t : ℕ) → length values ≡ record_count given.plan → Has given.plan q
    → StartsWith (way given.plan (opening given.plan) q) (t ∷ []) → 1 ≤ given.capacity → (n : ℕ) → 1 ≤ n → n ≤ 16 → IsTaken given values n
