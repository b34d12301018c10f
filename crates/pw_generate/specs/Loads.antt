-- The script that is generated: so many rounds, in each of which every processor asks for something.
use Rattle.std.specs.Prelude.{◌+◌, ◌*◌, ◌%◌, ℕ, List, [], ◌∷◌, map, slice_index_or}
use Rattle.std.specs.List.{flat_map, range_with_len}
use Rattle.pw_plan.specs.declared.request.Request.{Request}
use Rattle.pw_plan.specs.declared.request.Request.TheVariants.{Idle, Wake, Perf, PerfLimit}
use Rattle.pw_model.specs.States.{any_latency}
use Rattle.pw_script.specs.declared.script.Line.{Line}
use Rattle.pw_script.specs.declared.script.Script.{Script}
use Rattle.pw_generate.specs.declared.tables.TheConstants.{CPUS_EACH}

-- how many processors n containers have
abbrev pub cpu_count : ℕ → ℕ
cpu_count n = CPUS_EACH * n

-- what processor p may ask for in round r
abbrev pub choices : ℕ → ℕ → List Request
choices r p =
    Idle p (1 + (p + r) % 3) any_latency
    ∷ Wake p
    ∷ Perf p ((p + r) % 5)
    ∷ PerfLimit p ((p + r) % 4)
    ∷ Idle p 3 any_latency
    ∷ Perf p 3
    ∷ PerfLimit p 0
    ∷ Idle p 4 any_latency
    ∷ []

-- what it asks for
unfoldable pub load_request : ℕ → ℕ → Request
load_request r p = slice_index_or (choices r p) ((5 * p + 3 * r) % 8) (Wake p)

-- its line, of so many a round, counted from 1
abbrev pub load_line : ℕ → ℕ → ℕ → Line
load_line cpus r p = record { number = cpus * r + p + 1; request = load_request r p }

-- the lines of round r, processor by processor
abbrev pub round_lines : ℕ → ℕ → List Line
round_lines cpus r = map (load_line cpus r) (range_with_len 0 cpus)

-- the lines of as many rounds as there are processors, round by round
abbrev pub load_lines : ℕ → List Line
load_lines cpus = flat_map (round_lines cpus) (range_with_len 0 cpus)

-- the script for the machine of n containers
unfoldable pub machine_load : ℕ → Script
machine_load n = record { lines = load_lines (cpu_count n) }
