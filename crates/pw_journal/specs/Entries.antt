-- The entries of a journal.
use Rattle.std.specs.Prelude.{◌==◌, ◌+◌, ℕ, Option, Some, None, List, [], ◌∷◌, if◌then◌else◌}
use Rattle.std.specs.Option.{option_map}
use Rattle.pw_plan.specs.declared.request.Request.{Request}
use Rattle.pw_model.specs.declared.entry.HistoryEntry.{HistoryEntry}
use Rattle.pw_model.specs.History.{entry_of}

-- The entry of a request that a seat made, of whose operations so many were done before one failed.
abbrev pub fault_entry : ℕ → Request → ℕ → HistoryEntry
fault_entry seat q done = record (entry_of seat q) { fault = done + 1 }

-- The place of the first entry that is a fault, counted from 1.
abbrev pub fault_place : List HistoryEntry → Option ℕ
fault_place [] = None
fault_place (e ∷ es) = if e.fault == 0 then option_map (λ n. n + 1) (fault_place es) else Some 1
