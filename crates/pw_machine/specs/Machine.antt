-- The turn machine: its state and its invariant.
use Rattle.std.specs.Prelude.{◌≡◌, ◌⊎◌, ℕ, ◌+◌, ◌<◌, ◌≤◌, Bool, true, false, List, [], ◌∷◌, ◌++◌, length, Option, Some, None, ◌==◌, cond, slice_index}
use mathlib.Core.Option.{some}
use lib.ListN.{get_elem?}
use Rattle.pw_base.specs.Outside.{Rose}
use Rattle.pw_plan.specs.declared.plan.Plan.{Plan}
use Rattle.pw_model.specs.declared.state.State.{State}
use Rattle.pw_plan.specs.declared.request.Request.{Request}
use Rattle.pw_model.specs.declared.entry.HistoryEntry.{HistoryEntry}
use Rattle.acpi_values.specs.declared.operation.Op.{Op}
use Rattle.pw_model.specs.Records.{Part}
use Rattle.pw_machine.specs.Turns.{count_turn, StartsWith}
use Rattle.pw_plan.specs.Requests.{Has}
use Rattle.pw_model.specs.Operations.{opening_ops}
use Rattle.pw_model.specs.History.{replay, history_ops, Legal, fault_at}
use Rattle.pw_model.specs.Records.{record_count}
use Rattle.pw_machine.specs.Turns.{part_at, way}
use Rattle.pw_machine.specs.declared.view.Held.{Held}
use Rattle.pw_machine.specs.declared.view.View.{View}
use Rattle.pw_books.specs.Books.{Reads, count_in, entries_of}
use Rattle.pw_books.specs.Sums.{AtMost, Named as NamedBy, bit, once_below, total}

-- # State

-- what was given to open: it never changes
pub record Given : Type 0 where
  pub plan : Plan
  pub capacity : ℕ
  pub ops : List Op
  pub count : ℕ

-- a turn is 0 where it is free, else its holder's number and 1
pub record Machine : Type 0 where
  pub given : Given
  pub made : ℕ
  pub history : List HistoryEntry
  pub turns : List ℕ
  pub journal : ℕ
  pub values : List Part
  pub ops : List Op
  pub count : ℕ
  pub views : List View

-- the number of the seat that made an entry
abbrev pub seat_of : HistoryEntry → ℕ
seat_of e = e.seat

-- the state that the history leaves
abbrev pub now : Machine → State
now m = replay m.given.plan m.history

abbrev pub held_as : ℕ → Part → Held
held_as t part = record { turn = t; noted = part }

abbrev pub turns_of : List Held → List ℕ
turns_of [] = []
turns_of (h ∷ hs) = h.turn ∷ turns_of hs

abbrev pub count_held : ℕ → List Held → ℕ
count_held t [] = 0
count_held t (h ∷ hs) = cond (h.turn == t) 1 0 + count_held t hs

-- the view of a seat that was joined into another
abbrev pub spent_view : View
spent_view = record {
  number = 0;
  seen = [];
  told = None;
  book = [];
  held = [];
  leads = false;
  out = [];
  at_lock = None;
  at_unlock = None;
  request = None;
  releasing = false;
  met = None;
  meets = 0;
  parts = 0;
  mark = false;
  read = None;
}

-- # Turns and their holders

abbrev pub seat_number : View → ℕ
seat_number v = v.number

-- the turn names each seat that has it, which has it once
abbrev pub Named : ℕ → (View → ℕ) → List View → Type 0
Named = NamedBy seat_number

-- how often the view holds the record t, and the journal
abbrev pub holds : ℕ → View → ℕ
holds t v = count_held t v.held

abbrev pub leads : View → ℕ
leads v = bit v.leads

abbrev pub marks : View → ℕ
marks v = bit v.mark

-- # What is true of one view

-- each part that was noted is the state's
abbrev pub IsNoted : Plan → State → List Held → Type 0
IsNoted P S [] = Unit {0}
IsNoted P S (h ∷ hs) = (h.noted ≡ part_at P h.turn S) × IsNoted P S hs

-- What a seat holds is what its request wants of it, and was noted as it is.
pub record ServesRequest (P : Plan) (S : State) (held : List Held) (leads : Bool) (request : Option Request) (releasing : Bool)
    : Type 0 where
  pub of_plan : (q : Request) → request ≡ Some q → Has P q
  -- before its entry it holds the first records of the footprint, and the journal only with all of them
  pub before : (q : Request) → request ≡ Some q → releasing ≡ false → StartsWith (way P S q) (turns_of held)
  pub whole : (q : Request) → request ≡ Some q → leads ≡ true → turns_of held ≡ way P S q
  -- after its entry, or when it gives up, it doesn't hold the journal
  pub back : releasing ≡ true → leads ≡ false
  pub rests : request ≡ None → (held ≡ []) × (leads ≡ false) × (releasing ≡ false)
  pub noted : IsNoted P S held

-- No count of the registers that a seat noted, and no number of seats that it read, is above what there is.
pub record NotesWithin (made count : ℕ) (first second read : Option ℕ) : Type 0 where
  pub at_take : AtMost first count
  pub at_release : AtMost second count
  pub at_read : AtMost read made

-- the view has the record t, or the journal, whose turn is the one after the records'
abbrev pub HasTurn : Plan → ℕ → View → Type 0
HasTurn P t v = (0 < count_held t v.held) ⊎ ((t ≡ record_count P) × (v.leads ≡ true))

-- What a seat knows and holds. What its request wants of it isn't said while the coordinator is being opened.
pub record Fits (P : Plan) (history : List HistoryEntry) (made count : ℕ) (v : View) : Type 0 where
  pub reads : Reads seat_of history v.seen v.told v.book
  pub own : 0 < v.parts → count_in v.number v.book ≡ 1
  pub serves : v.mark ≡ false → ServesRequest P (replay P history) v.held v.leads v.request v.releasing
  pub holds_records : (t : ℕ) → 0 < count_held t v.held → t < record_count P
  -- a slot's value is in the hands of who has the turn
  pub slots : (t : ℕ) → 0 < count_turn t v.out → HasTurn P t v
  -- the journal's holder has seen the whole history, and noted the count that it found
  pub leader : v.leads ≡ true → v.seen ≡ history
  pub found : v.leads ≡ true → v.mark ≡ false → v.at_lock ≡ Some count
  pub notes : NotesWithin made count v.at_lock v.at_unlock v.read
  pub spent : v.parts ≡ 0 → v ≡ spent_view

-- # What is true of the machine

pub record HasHistory (given : Given) (history : List HistoryEntry) : Type 0 where
  pub legal : Legal given.plan history
  pub room : length history ≤ given.capacity

-- Each number made stands in one book, and no other number in any book or in the history.
pub record HasNumbers (made : ℕ) (history : List HistoryEntry) (views : List View) : Type 0 where
  pub books : (n : ℕ) → total (λ v. count_in n v.book) views ≡ once_below n made
  pub strangers : (n : ℕ) → made ≤ n → entries_of seat_of n history ≡ []
  pub most : made ≤ 65536

-- Each turn names its holder.
pub record HasTurns (P : Plan) (turns : List ℕ) (journal : ℕ) (views : List View) : Type 0 where
  pub wide : length turns ≡ record_count P
  pub holders : (t : ℕ) → t < record_count P → Named (slice_index turns t) (holds t) views
  pub leader : Named journal leads views

-- A view with the mark is the first one's, and no other is live. It has the journal's turn to the last.
pub record IsOpening (given : Given) (history : List HistoryEntry) (count : ℕ) (j : ℕ) (v : View) : Type 0 where
  pub place : j ≡ 0
  pub number : v.number ≡ 0
  pub all : v.parts ≡ 65536
  pub journal : v.leads ≡ true
  pub no_request : v.request ≡ None
  pub not_releasing : v.releasing ≡ false
  pub empty : history ≡ []
  pub given_count : count ≡ given.count

-- A free record has the state's part.
pub record HasValues (P : Plan) (S : State) (turns : List ℕ) (values : List Part) : Type 0 where
  pub sized : length values ≡ record_count P
  pub free : (t : ℕ) → t < record_count P → slice_index turns t ≡ 0 → get_elem? values t ≡ some (part_at P t S)

-- The registers' log and count, as they are or as the journal's holder found them.
pub record HasRegisters (given : Given) (history : List HistoryEntry) (ops : List Op) (count : ℕ) : Type 0 where
  pub log : ops ≡ given.ops ++ opening_ops given.plan ++ history_ops given.plan history
  pub least : given.count ≤ count
  pub fault : (k : ℕ) → fault_at history ≡ Some k → Rose given.count count

pub record Invariant (m : Machine) : Type 0 where
  pub history : HasHistory m.given m.history
  pub numbers : HasNumbers m.made m.history m.views
  pub turns : HasTurns m.given.plan m.turns m.journal m.views
  pub opens : (j : ℕ) (v : View) → get_elem? m.views j ≡ some v → v.mark ≡ true → IsOpening m.given m.history m.count j v
  pub values : HasValues m.given.plan (now m) m.turns m.values
  -- once no view has the mark
  pub registers : total marks m.views ≡ 0 → HasRegisters m.given m.history m.ops m.count
  pub parts : total (λ v. v.parts) m.views ≡ 65536
  pub fits : (j : ℕ) (v : View) → get_elem? m.views j ≡ some v → Fits m.given.plan m.history m.made m.count v
