-- What a request does, by the parts that its records hold.
use Rattle.std.specs.Prelude.{◌==◌, ◌&&◌, ◌||◌, not, ℕ, max, Bool, List, [], ◌∷◌, ◌++◌, map, filter, length, slice_index_or, slice_set, if◌then◌else◌, nat_le, nat_lt}
use Rattle.std.specs.List.{list_all, list_any, position_or_len}
use Rattle.acpi_values.specs.declared.dependency.Coord.{Coord}
use Rattle.acpi_values.specs.declared.idle.IdleKind.{IdleKind}
use Rattle.acpi_values.specs.declared.idle.IdleKind.TheVariants.{Lpi, Cst, Absent}
use Rattle.acpi_values.specs.declared.operation.Op.{Op}
use Rattle.acpi_values.specs.declared.operation.Op.TheVariants as op
use Rattle.pw_plan.specs.declared.domain.Child.{Child}
use Rattle.pw_plan.specs.declared.domain.Child.TheVariants.{Cpu, Container}
use Rattle.pw_plan.specs.declared.domain.Domain.{Domain}
use Rattle.pw_plan.specs.declared.domain.DomainKind.{DomainKind}
use Rattle.pw_plan.specs.declared.domain.DomainKind.TheVariants as kinds
use Rattle.pw_plan.specs.declared.plan.Plan.{Plan}
use Rattle.pw_plan.specs.declared.request.Request.{Request}
use Rattle.pw_plan.specs.declared.request.Request.TheVariants.{Idle, Wake, Perf, Throttle, PerfLimit, ThrottleLimit}
use Rattle.pw_plan.specs.Groups.{is_software}
use Rattle.pw_plan.specs.Parts.{scale_of}
use Rattle.pw_plan.specs.Places.{children_at, cpu_at, domain_at, domain_of, group_at, group_of}
use Rattle.pw_model.specs.declared.reply.Reply.{Reply}
use Rattle.pw_model.specs.declared.reply.Reply.TheVariants.{Entered, Running, Stands, AboveLimit}
use Rattle.pw_model.specs.declared.state.Vote.{Vote}
use Rattle.pw_model.specs.States.{running, idling, capped}
use Rattle.pw_model.specs.Containers.{ancestors, greatest, node_vote}
use Rattle.pw_model.specs.Domains.{governs, is_sw_all, stands_at, state_of}
use Rattle.pw_model.specs.Refusals.{fixed_refusal}
use Rattle.pw_model.specs.Answers.{chain_of, if_accepted}
use Rattle.pw_model.specs.Composites.{composite_of}
use Rattle.pw_model.specs.Operations.{own_entry, set_at, set_on}
use Rattle.pw_plan.specs.Orderly.{is_same}
use Rattle.pw_model.specs.Records.{Record, container, domain, group, Part, votes, levels, states}

-- # What a part holds

abbrev pub votes_in : Part → List Vote
votes_in (votes vs) = vs
votes_in (levels asks limits) = []
votes_in (states ss) = []

abbrev pub asks_in : Part → List ℕ
asks_in (votes vs) = []
asks_in (levels asks limits) = asks
asks_in (states ss) = []

abbrev pub limits_in : Part → List ℕ
limits_in (votes vs) = []
limits_in (levels asks limits) = limits
limits_in (states ss) = []

abbrev pub states_in : Part → List ℕ
states_in (votes vs) = []
states_in (levels asks limits) = []
states_in (states ss) = ss

-- # Containers

-- the place of a child among the children of container n
abbrev pub child_place : Plan → ℕ → Child → ℕ
child_place P n c = position_or_len (is_same c) (children_at P n)

-- the votes of container n's children where child c votes v
abbrev pub votes_with : Plan → ℕ → Child → Vote → List Vote → List Vote
votes_with P n c v vs = slice_set vs (child_place P n c) v

-- whether both run
abbrev pub both_run : Vote → Vote → Bool
both_run v w = (v.state == 0) && (w.state == 0)

-- a container with the new votes of its children
pub record Rung : Type 0 where
  pub node : ℕ
  pub votes : List Vote

-- the containers around child c, with what its vote v makes of their children's votes: up to the first that runs before and after
abbrev pub climb : Plan → (Record → Part) → Child → Vote → List ℕ → List Rung
climb P F c v [] = []
climb P F c v (n ∷ ns) =
    let old = votes_in (F (container n)) in
    let new = votes_with P n c v old in
    record { node = n; votes = new }
    ∷ (if both_run (node_vote P n old) (node_vote P n new) then [] else climb P F (Container n) (node_vote P n new) ns)

-- the states of these containers, as far as they are above 0
abbrev pub states_up : Plan → List Rung → List ℕ
states_up P [] = []
states_up P (r ∷ rs) =
    let s = (node_vote P r.node r.votes).state in
    if s == 0 then [] else s ∷ states_up P rs

-- # Domains

abbrev pub member_place : List ℕ → ℕ → ℕ
member_place ms p = position_or_len (λ q. q == p) ms

-- where the domain stands, or where hardware coordinates it its member at place k
abbrev pub standing_by : Coord → List ℕ → List ℕ → ℕ → ℕ
standing_by coord asks limits k = if is_software coord then stands_at asks limits else max (slice_index_or limits k 0)
    (slice_index_or asks k 0)

abbrev pub standing_in : Domain → Part → ℕ → ℕ
standing_in d x k = standing_by d.coord (asks_in x) (limits_in x) k

-- # Groups

-- the state of the vote of member q
abbrev pub state_by : List ℕ → List ℕ → ℕ → ℕ
state_by ms ss q = slice_index_or ss (member_place ms q) 0

abbrev pub gathered_by : List ℕ → List ℕ → Domain → Bool
gathered_by ms ss d = list_all (λ q. nat_le (state_of d) (state_by ms ss q)) d.members

abbrev pub enters_by : Plan → List ℕ → List ℕ → ℕ → ℕ → Bool
enters_by P ms ss p j = list_all (λ d. not (governs p j d) || gathered_by ms ss d) P.domains

-- the C state of member p of a group of these members, whose votes have these states
abbrev pub c_state_by : Plan → List ℕ → List ℕ → ℕ → ℕ
c_state_by P ms ss p = greatest (enters_by P ms ss p) (state_by ms ss p)

abbrev pub enter_c : Plan → ℕ → ℕ → Op
enter_c P p j = op.Enter p (composite_of P p (j ∷ []))

-- whether the C state of member q rose, to one that a SW_ALL domain of q is about
abbrev pub drawn_by : Plan → List ℕ → List ℕ → List ℕ → ℕ → Bool
drawn_by P ms old new q =
    nat_lt (c_state_by P ms old q) (c_state_by P ms new q)
    && list_any (λ (d : Domain). governs q (c_state_by P ms new q) d && is_sw_all d.coord) P.domains

-- what the other members enter that processor p draws along
abbrev pub drawn_ops : Plan → List ℕ → List ℕ → List ℕ → ℕ → List Op
drawn_ops P ms old new p = map (λ q. enter_c P q (c_state_by P ms new q)) (filter (λ q. not (q == p) && drawn_by P ms old new q) ms)

-- # What a request does: the records that it takes, with their parts after it, its answer and its operations

pub record Taken : Type 0 where
  pub place : Record
  pub part : Part

pub record Effect : Type 0 where
  pub takes : List Taken
  pub reply : Reply
  pub ops : List Op

abbrev pub rung_taken : Rung → Taken
rung_taken r = record { place = container r.node; part = votes r.votes }

-- the states of a group's members where processor p votes state s
abbrev pub states_with : List ℕ → ℕ → ℕ → List ℕ → List ℕ
states_with ms p s ss = slice_set ss (member_place ms p) s

-- what a vote takes of the group, where the processor has one
abbrev pub group_takes : Plan → (Record → Part) → ℕ → ℕ → List Taken
group_takes P F p s =
    let g = group_of P p in
    if nat_lt g (length P.groups) then record {
      place = group g;
      part =
          states (states_with (group_at P g).members p s (states_in (F (group g))));
    } ∷ [] else []

abbrev pub takes_by : IdleKind → List Taken → List Taken → List Taken
takes_by Lpi containers groups = containers
takes_by Cst containers groups = groups
takes_by Absent containers groups = []

-- the containers that a vote of processor p takes
abbrev pub rungs : Plan → (Record → Part) → ℕ → Vote → List Rung
rungs P F p v = climb P F (Cpu p) v (ancestors P p)

abbrev pub vote_takes : Plan → (Record → Part) → ℕ → Vote → List Taken
vote_takes P F p v = takes_by (cpu_at P p).idle.kind (map rung_taken (rungs P F p v)) (group_takes P F p v.state)

-- the C state of processor p that votes state s: its vote where it is in no group
abbrev pub c_state_with : Plan → (Record → Part) → ℕ → ℕ → ℕ
c_state_with P F p s =
    let g = group_of P p in
    if nat_lt g (length P.groups) then c_state_by P (group_at P g).members
    (states_with (group_at P g).members p s (states_in (F (group g)))) p else s

abbrev pub drawn_with : Plan → (Record → Part) → ℕ → ℕ → List Op
drawn_with P F p s =
    let g = group_of P p in
    if nat_lt g (length P.groups) then drawn_ops P (group_at P g).members (states_in (F (group g)))
    (states_with (group_at P g).members p s (states_in (F (group g)))) p else []

abbrev pub states_after : IdleKind → Plan → (Record → Part) → ℕ → Vote → List ℕ
states_after Lpi P F p v = v.state ∷ states_up P (rungs P F p v)
states_after Cst P F p v = c_state_with P F p v.state ∷ []
states_after Absent P F p v = v.state ∷ []

abbrev pub ops_after : IdleKind → Plan → (Record → Part) → ℕ → Vote → List Op
ops_after Lpi P F p v = op.Enter p (composite_of P p (states_after Lpi P F p v)) ∷ []
ops_after Cst P F p v = own_entry Cst (c_state_with P F p v.state) (enter_c P p (c_state_with P F p v.state)) ++ drawn_with P F p v.state
ops_after Absent P F p v = []

abbrev pub idle_effect : Plan → (Record → Part) → ℕ → Vote → Effect
idle_effect P F p v = record {
  takes = vote_takes P F p v;
  reply = Entered (chain_of (states_after (cpu_at P p).idle.kind P F p v));
  ops = ops_after (cpu_at P p).idle.kind P F p v;
}

abbrev pub wake_effect : Plan → (Record → Part) → ℕ → Effect
wake_effect P F p = record { takes = vote_takes P F p running; reply = Running; ops = [] }

-- what domain d does on a request of processor p that makes one part of another
abbrev pub level_effect : Plan → DomainKind → ℕ → ℕ → Part → Part → Effect
level_effect P kind p d old new =
    let D = domain_at P d in
    let k = member_place D.members p in
    record {
      takes = record { place = domain d; part = new } ∷ [];
      reply = Stands (standing_in D new k);
      ops = if standing_in D old k == standing_in D new k then [] else map (set_on P kind (standing_in D new k))
          (set_at D.coord D.members p);
    }

abbrev pub with_ask : ℕ → ℕ → Part → Part
with_ask k i x = levels (slice_set (asks_in x) k i) (limits_in x)

abbrev pub with_limit : ℕ → ℕ → Part → Part
with_limit k n x = levels (asks_in x) (slice_set (limits_in x) k n)

abbrev pub refused_above : Record → Part → ℕ → Effect
refused_above r x limit = record { takes = record { place = r; part = x } ∷ []; reply = AboveLimit limit; ops = [] }

abbrev pub ask_effect : Plan → DomainKind → ℕ → ℕ → ℕ → Part → Effect
ask_effect P kind p i d x =
    let k = member_place (domain_at P d).members p in
    let limit = slice_index_or (limits_in x) k 0 in
    if nat_lt i limit then refused_above (domain d) x limit else level_effect P kind p d x (with_ask k i x)

abbrev pub limit_effect : Plan → DomainKind → ℕ → ℕ → ℕ → Part → Effect
limit_effect P kind p n d x =
    level_effect P kind p d x (with_limit (member_place (domain_at P d).members p) (capped (scale_of kind (cpu_at P p)) n) x)

-- what a request does that isn't refused in every state
abbrev pub effect_within : Plan → (Record → Part) → Request → Effect
effect_within P F (Idle p s t) = idle_effect P F p (idling s t)
effect_within P F (Wake p) = wake_effect P F p
effect_within P F (Perf p i) = ask_effect P kinds.Perf p i (domain_of P kinds.Perf p) (F (domain (domain_of P kinds.Perf p)))
effect_within P F (Throttle p i) = ask_effect P kinds.Throttle p i (domain_of P kinds.Throttle p)
    (F (domain (domain_of P kinds.Throttle p)))
effect_within P F (PerfLimit p n) = limit_effect P kinds.Perf p n (domain_of P kinds.Perf p) (F (domain (domain_of P kinds.Perf p)))
effect_within P F (ThrottleLimit p n) = limit_effect P kinds.Throttle p n (domain_of P kinds.Throttle p)
    (F (domain (domain_of P kinds.Throttle p)))

abbrev pub refused_effect : Reply → Effect
refused_effect reply = record { takes = []; reply = reply; ops = [] }

-- What a request does where the records hold these parts.
unfoldable pub effect : Plan → (Record → Part) → Request → Effect
effect P F q = if_accepted (fixed_refusal P q) refused_effect (effect_within P F q)

abbrev pub takes_in : List Taken → List Record
takes_in ts = map (λ (t : Taken). t.place) ts
