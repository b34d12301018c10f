-- What a load's tables are, and what its summary tells of the containers.
use Rattle.std.proofs.Common.{◌≡◌, ◌+◌, ℕ, List, refl, arith, length, drop, take}
use Rattle.std.proofs.lemmas.List.FromFn.{get_or-map-range_with_len, length-map-range_with_len}
use Rattle.pw_plan.specs.declared.plan.Plan.{Plan}
use Rattle.pw_model.specs.declared.entry.HistoryEntry.{HistoryEntry}
use Rattle.pw_model.specs.Containers.{container_vote}
use Rattle.pw_model.specs.History.{replay}
use Rattle.pw_generate.specs.Summary.{container_states, summary_lines, summary_text}
use Rattle.pw_generate.specs.Tables.{container_idle, cpu_idle, cpu_perf, machine_header}
use Rattle.pw_cli.specs.Promises.{HasLoadTables, TellsContainers}

pub load_tables : HasLoadTables
unfolding container_idle cpu_idle cpu_perf machine_header
load_tables = record { signature = refl; revision = refl; containers = refl; processors = refl; frequencies = refl }

pub tells_containers : (P : Plan) (es : List HistoryEntry) → TellsContainers P es (summary_text P es)
unfolding summary_text
tells_containers P es =
    let state : ℕ → ℕ = λ n. (container_vote P (replay P es) n).state in record {
      first = take 6 (summary_lines P es);
      states = container_states P (replay P es);
      rest = drop 7 (summary_lines P es);
      says = refl;
      all = length-map-range_with_len state 0 (length P.containers);
      are = λ n lt. get_or-map-range_with_len state 0 (length P.containers) n n 0 lt (omega arith);
    }
