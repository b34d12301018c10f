-- Records, the parts of a state that they hold, and which of them a request takes.
use Rattle.std.specs.Prelude.{◌-◌, false}
use Rattle.std.specs.Prelude.{◌<◌, ◌==◌, ◌+◌, ◌&&◌, not, ℕ, Bool, List, [], ◌∷◌, map, length, if◌then◌else◌, nat_lt, count_by}
use Rattle.acpi_values.specs.declared.idle.IdleKind.{IdleKind}
use Rattle.acpi_values.specs.declared.idle.IdleKind.TheVariants.{Lpi, Cst, Absent}
use Rattle.pw_plan.specs.declared.domain.Domain.{Domain}
use Rattle.pw_plan.specs.declared.domain.DomainKind.TheVariants as kinds
use Rattle.pw_plan.specs.declared.plan.Plan.{Plan}
use Rattle.pw_plan.specs.declared.request.Request.{Request}
use Rattle.pw_plan.specs.declared.request.Request.TheVariants.{Idle, Wake, Perf, Throttle, PerfLimit, ThrottleLimit}
use Rattle.pw_plan.specs.Groups.{is_idle}
use Rattle.pw_plan.specs.Places.{cpu_at, domain_at, domain_of, group_at, group_of}
use Rattle.pw_model.specs.declared.state.State.{State}
use Rattle.pw_model.specs.declared.state.Vote.{Vote}
use Rattle.pw_model.specs.States.{ask_of, limit_of, vote_of}
use Rattle.pw_model.specs.Containers.{ancestors, child_votes, container_vote}
use Rattle.pw_model.specs.Refusals.{fixed_refusal}
use Rattle.pw_model.specs.Answers.{after, if_accepted}

-- # Records and parts

-- a container, a domain of performance or throttling, or a group, by its number
pub data Record : Type 0 where
  container : ℕ → Record
  domain : ℕ → Record
  group : ℕ → Record

-- the votes of a container's children; the asks and the limits of a domain's members; the states of a group's members' votes
pub data Part : Type 0 where
  votes : List Vote → Part
  levels : List ℕ → List ℕ → Part
  states : List ℕ → Part

abbrev pub state_of_vote : State → ℕ → ℕ
state_of_vote S p = (vote_of S p).state

-- the part of a state that a record holds
abbrev pub part_of : Plan → State → Record → Part
part_of P S (container n) = votes (child_votes P S n)
part_of P S (domain d) = levels (map (ask_of (domain_at P d).kind S) (domain_at P d).members)
    (map (limit_of (domain_at P d).kind S) (domain_at P d).members)
part_of P S (group g) = states (map (state_of_vote S) (group_at P g).members)

-- # Numbers of records: containers, then domains of performance and throttling, then groups

-- how many domains are of performance or throttling
abbrev pub scaled_count : Plan → ℕ
scaled_count P = count_by (λ (d : Domain). not (is_idle d.kind)) P.domains

abbrev pub IsRecord : Plan → Record → Type 0
IsRecord P (container n) = n < length P.containers
IsRecord P (domain d) = d < scaled_count P
IsRecord P (group g) = g < length P.groups

abbrev pub number_of : Plan → Record → ℕ
number_of P (container n) = n
number_of P (domain d) = length P.containers + d
number_of P (group g) = length P.containers + scaled_count P + g

-- the record of a number
abbrev pub record_at : Plan → ℕ → Record
record_at P t =
    if nat_lt t (length P.containers) then container t else
    if nat_lt t (length P.containers + scaled_count P) then domain (t - length P.containers) else
    group (t - (length P.containers + scaled_count P))

-- whether they are the same record
abbrev pub is_record : Record → Record → Bool
is_record (container m) (container n) = m == n
is_record (domain m) (domain n) = m == n
is_record (group m) (group n) = m == n
is_record (container m) (domain n) = false
is_record (container m) (group n) = false
is_record (domain m) (container n) = false
is_record (domain m) (group n) = false
is_record (group m) (container n) = false
is_record (group m) (domain n) = false

abbrev pub record_count : Plan → ℕ
record_count P = length P.containers + scaled_count P + length P.groups

-- # What a request takes

-- the group of a processor, where it has one
abbrev pub group_records : Plan → ℕ → List Record
group_records P p = if nat_lt (group_of P p) (length P.groups) then group (group_of P p) ∷ [] else []

-- what a vote takes, by the kind of the table
abbrev pub records_by : IdleKind → List Record → List Record → List Record
records_by Lpi containers groups = containers
records_by Cst containers groups = groups
records_by Absent containers groups = []

-- what a vote takes, of these containers
abbrev pub vote_records : Plan → ℕ → List ℕ → List Record
vote_records P p ns = records_by (cpu_at P p).idle.kind (map container ns) (group_records P p)

-- what a request takes, of these containers around its processor
abbrev pub records_among : Plan → (ℕ → List ℕ) → Request → List Record
records_among P around (Idle p s t) = vote_records P p (around p)
records_among P around (Wake p) = vote_records P p (around p)
records_among P around (Perf p i) = domain (domain_of P kinds.Perf p) ∷ []
records_among P around (Throttle p i) = domain (domain_of P kinds.Throttle p) ∷ []
records_among P around (PerfLimit p n) = domain (domain_of P kinds.Perf p) ∷ []
records_among P around (ThrottleLimit p n) = domain (domain_of P kinds.Throttle p) ∷ []

-- The records that the request can take in some state: none where it is refused in every state.
unfoldable pub reach : Plan → Request → List Record
reach P q = if_accepted (fixed_refusal P q) (λ reply. []) (records_among P (ancestors P) q)

-- the elements up to the first that the test passes, that one included
abbrev pub through : (ℕ → Bool) → List ℕ → List ℕ
through stop [] = []
through stop (n ∷ ns) = n ∷ (if stop n then [] else through stop ns)

-- whether a container runs in both states
abbrev pub runs_in_both : Plan → State → State → ℕ → Bool
runs_in_both P S T n = ((container_vote P S n).state == 0) && ((container_vote P T n).state == 0)

-- The records that the request takes in this state: of the containers those up to the first that runs before and after.
unfoldable pub footprint : Plan → State → Request → List Record
footprint P S q = if_accepted (fixed_refusal P q)
    (λ reply. []) (records_among P (λ p. through (runs_in_both P S (after P S q)) (ancestors P p)) q)
