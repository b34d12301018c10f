-- A request on its way over the records of a plan.
use Rattle.std.specs.Prelude.{◌≡◌, ◌<◌, List, true, is_some}
use Rattle.pw_plan.specs.declared.plan.Plan.{Plan}
use Rattle.pw_plan.specs.declared.request.Request.{Request}
use Rattle.pw_model.specs.declared.entry.HistoryEntry.{HistoryEntry}
use Rattle.pw_model.specs.declared.state.State.{State}
use Rattle.pw_model.specs.Answers.{after}
use Rattle.pw_model.specs.History.{fault_at, replay}
use Rattle.pw_model.specs.Records.{IsRecord, Part, Record, number_of, part_of}
use Rattle.pw_machine.specs.declared.view.Held.{Held}
use Rattle.pw_machine.specs.Machine.{IsNoted, turns_of}
use Rattle.pw_machine.specs.Turns.{StartsWith, count_turn, way}
use Rattle.pw_machine.specs.Walk.{Walk, walk}
use Rattle.pw_drive.specs.declared.records.Records.{Records}
use Rattle.pw_drive.specs.Keeping.{AreRecordsOf, part_in}

-- Begun in this state, the request stands there: the records behind it hold what it leaves them with, all others what they held.
pub record IsMidway (P : Plan) (S : State) (q : Request) (w : Walk) (F : Record → Part) : Type 0 where
  pub held : List Held
  pub at : walk P q held ≡ w
  pub noted : IsNoted P S held
  pub front : StartsWith (way P S q) (turns_of held)
  pub behind : (r : Record) → IsRecord P r → 0 < count_turn (number_of P r) (turns_of held) → part_of P (after P S q) r ≡ F r
  pub ahead : (r : Record) → IsRecord P r → count_turn (number_of P r) (turns_of held) ≡ 0 → part_of P S r ≡ F r

-- A register failed: the records hold what they held before, and the state of the history is as it was.
pub record Undone (P : Plan) (es fs : List HistoryEntry) (was now : Records) : Type 0 where
  pub of : AreRecordsOf P now
  pub parts : (r : Record) → IsRecord P r → part_in now r ≡ part_in was r
  pub state : replay P fs ≡ replay P es
  pub stopped : is_some (fault_at fs) ≡ true
