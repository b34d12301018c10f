-- Workers that began, and their end.
use Rattle.std.specs.Prelude.{◌≡◌, ◌∷◌, [], List}
use Rattle.atomic_table.specs.Seated.{TableId}
use Rattle.pw_machine.specs.Machine.{Given}
use Rattle.pw_regs.specs.declared.registers.Registers.{Ghosts as Registers}
use Rattle.pw_rule.specs.Rule.{given_of}
use Rattle.pw_drive.specs.declared.working.Worker.{Worker}
use Rattle.pw_drive.specs.declared.working.Begun.{Begun}
use Rattle.pw_drive.specs.declared.working.Ends.{Ends}
use Rattle.pw_drive.specs.declared.working.Begun.TheVariants.{Here, There}
use Rattle.pw_drive.specs.inner.Workers.{HasEnded}

-- a thread promises this worker, when it has made its requests
pub record IsPromised {R : Type 0} (by : Registers R) (id : TableId) (given : Given) (v : Worker) (p : Ends R) : Type 0 where
  pub table : p.coordinator.value.table.shared.table_id ≡ id
  pub gives : given_of by p.coordinator.value.table.shared.key ≡ given
  pub worker : p.worker.value ≡ v

-- the worker is this one when it has made its requests
abbrev pub WillEnd : {R : Type 0} (by : Registers R) → TableId → Given → Worker → Begun R → Type 0
WillEnd by id given v (There handle) = IsPromised by id given v handle.promise
WillEnd by id given v (Here w) = HasEnded id given v w

-- each of them is
abbrev pub AllWillEnd : {R : Type 0} (by : Registers R) → TableId → Given → List Worker → List (Begun R) → Type 0
AllWillEnd by id given [] [] = Unit {0}
AllWillEnd by id given [] (b ∷ bs) = ⊥
AllWillEnd by id given (v ∷ vs) [] = ⊥
AllWillEnd by id given (v ∷ vs) (b ∷ bs) = WillEnd by id given v b × AllWillEnd by id given vs bs
