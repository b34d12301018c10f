-- A request that has begun.
use Rattle.std.specs.Prelude.{◌≡◌, ℕ, ◌<◌, ◌≤◌, ◌^◌, [], ◌∷◌, ◌++◌, true, Result, length, vec_capacity}
use Rattle.atomic_table.specs.Seated.{TableId}
use Rattle.pw_plan.specs.declared.plan.Plan.{Plan}
use Rattle.pw_model.specs.Answers.{answer}
use Rattle.pw_model.specs.History.{Faultless, Legal, replay}
use Rattle.pw_model.specs.Operations.{ops_of}
use Rattle.pw_model.specs.Records.{record_count}
use Rattle.pw_machine.specs.declared.view.View.{View}
use Rattle.pw_books.specs.Books.{Begins}
use Rattle.pw_regs.specs.declared.registers.Registers.{Ghosts as Registers}
use Rattle.pw_rule.specs.declared.setup.Setup.{Setup}
use Rattle.pw_rule.specs.Rule.{given_of, promise_of}
use Rattle.pw_rule.specs.Plays.{mine}
use Rattle.pw_turns.specs.Asked.{entry_as}
use Rattle.pw_turns.specs.Begun.{Reaches, fault_by, told_by}
use Rattle.pw_turns.specs.Finished.{Finished, try_of}
use Rattle.pw_turns.specs.Listed.{Lists}
use Rattle.pw_turns.specs.Owning.{Owns}
use Rattle.pw_turns.specs.Steps.{MetSince}
use Rattle.pw_turns.specs.Told.{Told}
use Rattle.pw_turns.specs.Views.{IsAtRest, is_met, view_in}
use Rattle.pw_turns.specs.Went.{Ended, own_in}
use Rattle.pw_turns.specs.declared.coordinator.Seat.{Seat}
use Rattle.pw_turns.specs.declared.requests.Try.{Try}
use Rattle.pw_turns.specs.declared.two_steps.Begun.{Begun}
use Rattle.pw_turns.specs.declared.two_steps.RecordRoom.{RecordRoom}
use Rattle.pw_turns.specs.declared.waited.Done.{Done}

-- The history to which the request is to be added is legal, begins with what the seat had seen and has no fault; the reply and the
-- operations are those of the request after it.
pub record BeginTells {R : Type 0} (P : Plan) (v : View) (b : Begun R) : Type 0 where
  pub legal : Legal P b.journal.entries
  pub begins : Begins b.journal.entries v.seen
  pub faultless : Faultless b.journal.entries
  pub reply : b.reply ≡ answer P (replay P b.journal.entries) b.request
  pub ops : b.ops.elements ≡ ops_of P (replay P b.journal.entries) b.request

module _ {R : Type 0} (by : Registers R) (key : Setup R) (id : TableId) where
  -- The request of a seat that had this view has all its turns, and the seat is as it was.
  pub record IsBegun (v : View) (b : Begun R) : Type 0 where
    pub table : b.raw.table_id ≡ id
    pub reaches : Reaches by (promise_of by key) (given_of by key) b.request b.number v b.reply b.ops.elements b.records.items b.journal
        (mine b.raw.me)
    pub seen : b.seen ≡ length b.journal.entries
    pub number : (b.number ≡ v.number) × (b.number < 65536)
    pub parts : (b.parts ≡ v.parts) × (0 < b.parts)
    pub met : is_met b.met v ≡ true
    pub rest : IsAtRest v
    pub ops : (256 ≤ b.ops.capacity) × (b.ops.capacity < 2 ^ 32)
    pub room : record_count key.plan ≤ vec_capacity b.records

  -- The request ended: it is told what the caller said, nothing came between the history and its entry, and it is as if it had been made
  -- at once.
  pub record Finishes (b : Begun R) (done : Result Unit ℕ) (s : Seat) (r : RecordRoom R) (t : Try) : Type 0 where
    pub owns : Owns id s
    pub room : record_count key.plan ≤ vec_capacity r.records
    pub is : t ≡ told_by b.reply done
    pub seen : (view_in s.badge.views).seen ≡ b.journal.entries ++ entry_as b.number b.request (fault_by done) ∷ []
    pub told : (v : View) → IsBegun v b → Told (given_of by key) v b.request t (view_in s.badge.views)
    pub finished : (v : View) → MetSince v (λ u. IsBegun u b)
        → (d : Done) × (t ≡ try_of d) × Finished (given_of by key) v b.request d (view_in s.badge.views)
    pub ended : Ended b.number b.request (fault_by done) b.raw.me.0.own (own_in s.badge.views)
    pub lists : Lists (given_of by key) b.number b.request t (view_in s.badge.views).seen s.ops.elements
