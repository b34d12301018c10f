-- What a serial run of a script comes to on registers.
use Rattle.std.specs.Prelude.{◌≡◌, ◌≤◌, ◌++◌, ℕ, true, List, take, Option, Some, None, is_some}
use Rattle.acpi_values.specs.declared.operation.Op.{Op}
use Rattle.pw_base.specs.Outside.{Rose}
use Rattle.pw_plan.specs.declared.plan.Plan.{Plan}
use Rattle.pw_model.specs.declared.entry.HistoryEntry.{HistoryEntry}
use Rattle.pw_model.specs.History.{fault_at, history_ops}
use Rattle.pw_model.specs.Operations.{opening_ops}
use Rattle.pw_regs.specs.Seen.{Operated, RegistersSeen}

-- the operations of a run: where a fault ended the opening, those before it
abbrev pub run_ops : Plan → Option ℕ → List HistoryEntry → List Op
run_ops P (Some k) es = take k (opening_ops P)
run_ops P None es = opening_ops P ++ history_ops P es

-- where a register failed: how many operations of the opening, or of the last request, were done before
abbrev pub stopped_at : Option ℕ → List HistoryEntry → Option ℕ
stopped_at (Some k) es = Some k
stopped_at None es = fault_at es

-- What a run of these requests, with at most so many operations, does to registers.
pub record OperatesFor (P : Plan) (most : ℕ) (opening : Option ℕ) (es : List HistoryEntry) (old new : RegistersSeen) : Type 0 where
  pub same_told : new.told ≡ old.told
  pub count : old.faults ≤ new.faults
  pub log : Operated old new (run_ops P opening es)
  -- a fault comes only where the registers' count rose
  pub fault : is_some (stopped_at opening es) ≡ true → Rose old.faults new.faults
  -- and never where the registers promise room for all operations
  pub promised : most ≤ old.room → (stopped_at opening es ≡ None) × (new.faults ≡ old.faults)
