-- The entries that requests leave, and the operations that were done.
use Rattle.std.specs.Prelude.{ℕ, List, take, Result, Ok, Err}
use Rattle.acpi_values.specs.declared.operation.Op.{Op}
use Rattle.pw_cppc.specs.declared.request.CppcRequest.{CppcRequest}
use Rattle.pw_cppc.specs.declared.entry.CppcEntry.{CppcEntry}
use Rattle.pw_cppc.specs.History.{entry_of}

-- the entry of a request that a seat made: one more than how many of its operations were done before one failed, or 0
abbrev pub entry_as : ℕ → CppcRequest → ℕ → CppcEntry
entry_as seat q fault = record (entry_of seat q) { fault = fault }

-- the operations that were done of these: where one failed those before it
abbrev pub done_of : {X : Type 0} → Result X ℕ → List Op → List Op
done_of (Ok x) ops = ops
done_of (Err k) ops = take k ops
