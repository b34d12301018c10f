-- Votes, asks and limits, and one of them changed.
use Rattle.std.specs.Prelude.{◌≡◌, ◌≤◌, ◌<◌, ◌-◌, ℕ, min, List, [], map, length, slice_index_or, slice_set, Option, Some, None}
use Rattle.acpi_values.specs.Idle.{rows_of}
use Rattle.pw_plan.specs.declared.domain.DomainKind.{DomainKind}
use Rattle.pw_plan.specs.declared.domain.DomainKind.TheVariants.{Perf, Throttle, Idle}
use Rattle.pw_plan.specs.declared.parts.Scale.{Scale}
use Rattle.pw_plan.specs.declared.plan.Plan.{Plan}
use Rattle.pw_plan.specs.Parts.{count_of, scale_of}
use Rattle.pw_plan.specs.Places.{cpu_at}
use Rattle.pw_model.specs.declared.state.Change.{Change}
use Rattle.pw_model.specs.declared.state.Change.TheVariants as changes
use Rattle.pw_model.specs.declared.state.ScaleKind.TheVariants as scales
use Rattle.pw_model.specs.declared.state.State.{State}
use Rattle.pw_model.specs.declared.state.Vote.{Vote}

-- the tolerance that bears any wake latency
unfoldable pub any_latency : ℕ
any_latency = 4294967295

-- the vote of who runs
abbrev pub running : Vote
running = record { state = 0; tolerance = any_latency }

-- the vote of who idles in a state and bears this wake latency
abbrev pub idling : ℕ → ℕ → Vote
idling state tolerance = record { state = state; tolerance = tolerance }

-- # What stands in a state

abbrev pub vote_of : State → ℕ → Vote
vote_of S p = slice_index_or S.votes p running

abbrev pub asks_of : DomainKind → State → List ℕ
asks_of Perf S = S.perf_asks
asks_of Throttle S = S.throttle_asks
asks_of Idle S = []

abbrev pub limits_of : DomainKind → State → List ℕ
limits_of Perf S = S.perf_limits
limits_of Throttle S = S.throttle_limits
limits_of Idle S = []

abbrev pub ask_of : DomainKind → State → ℕ → ℕ
ask_of kind S p = slice_index_or (asks_of kind S) p 0

abbrev pub limit_of : DomainKind → State → ℕ → ℕ
limit_of kind S p = slice_index_or (limits_of kind S) p 0

-- # The state at the start

-- a limit, which past the last state counts as the last one (ACPI 6.5, 8.4.5.3)
abbrev pub capped : Option Scale → ℕ → ℕ
capped scale n = min n (count_of scale - 1)

-- the limit that the tables give, 0 where there are none
abbrev pub opening_limit : Option Scale → ℕ
opening_limit None = 0
opening_limit (Some scale) = capped (Some scale) scale.limit

-- Everyone runs, the limits are those of the tables, and each asks for the fastest state that its limit allows.
unfoldable pub opening : Plan → State
opening P = record {
  votes = map (λ c. running) P.cpus;
  perf_asks = map (λ c. opening_limit c.perf) P.cpus;
  perf_limits = map (λ c. opening_limit c.perf) P.cpus;
  throttle_asks = map (λ c. opening_limit c.throttle) P.cpus;
  throttle_limits = map (λ c. opening_limit c.throttle) P.cpus;
}

-- # One entry changed

-- the state with one entry of one list changed
abbrev pub with_change : State → Change → State
with_change S changes.Nothing = S
with_change S (changes.Vote p v) = record S { votes = slice_set S.votes p v }
with_change S (changes.Ask scales.Perf p i) = record S { perf_asks = slice_set S.perf_asks p i }
with_change S (changes.Ask scales.Throttle p i) = record S { throttle_asks = slice_set S.throttle_asks p i }
with_change S (changes.Limit scales.Perf p n) = record S { perf_limits = slice_set S.perf_limits p n }
with_change S (changes.Limit scales.Throttle p n) = record S { throttle_limits = slice_set S.throttle_limits p n }

-- # Which states are of a plan

-- an index of the scale's states, 0 where there is no scale
abbrev pub IsIndex : Option Scale → ℕ → Type 0
IsIndex None i = i ≡ 0
IsIndex (Some scale) i = i < length scale.controls

-- who runs bears any latency
abbrev pub IsProper : Vote → Type 0
IsProper v = v.state ≡ 0 → v.tolerance ≡ any_latency

-- There is an entry for each processor in each list, each is of the processor's tables, and who runs bears any latency.
pub record IsState (P : Plan) (S : State) : Type 0 where
  pub votes : length S.votes ≡ length P.cpus
  pub perf_asks : length S.perf_asks ≡ length P.cpus
  pub perf_limits : length S.perf_limits ≡ length P.cpus
  pub throttle_asks : length S.throttle_asks ≡ length P.cpus
  pub throttle_limits : length S.throttle_limits ≡ length P.cpus
  pub vote : (p : ℕ) → p < length P.cpus → (vote_of S p).state ≤ length (rows_of (cpu_at P p).idle)
  pub proper : (p : ℕ) → p < length P.cpus → IsProper (vote_of S p)
  pub ask : (kind : DomainKind) (p : ℕ) → p < length P.cpus → IsIndex (scale_of kind (cpu_at P p)) (ask_of kind S p)
  pub limit : (kind : DomainKind) (p : ℕ) → p < length P.cpus → IsIndex (scale_of kind (cpu_at P p)) (limit_of kind S p)
