-- A request's walk over the records that it takes: from what was noted of the first ones, which comes next, and at the end what
-- the request is answered and operates.
use Rattle.std.specs.Prelude.{◌==◌, ◌&&◌, not, ℕ, Bool, true, List, [], ◌∷◌, ◌++◌, length, Option, Some, None, if◌then◌else◌, nat_lt}
use Rattle.acpi_values.specs.declared.idle.IdleKind.{IdleKind}
use Rattle.acpi_values.specs.declared.idle.IdleKind.TheVariants.{Lpi, Cst, Absent}
use Rattle.acpi_values.specs.declared.operation.Op.{Op}
use Rattle.acpi_values.specs.declared.operation.Op.TheVariants as op
use Rattle.pw_plan.specs.declared.domain.Child.{Child}
use Rattle.pw_plan.specs.declared.domain.Child.TheVariants.{Cpu, Container}
use Rattle.pw_plan.specs.declared.domain.DomainKind.TheVariants as kinds
use Rattle.pw_plan.specs.declared.plan.Plan.{Plan}
use Rattle.pw_plan.specs.declared.request.Request.{Request}
use Rattle.pw_plan.specs.declared.request.Request.TheVariants.{Idle, Wake, Perf, Throttle, PerfLimit, ThrottleLimit}
use Rattle.pw_plan.specs.Places.{container_at, cpu_at, domain_of, group_at, group_of}
use Rattle.pw_model.specs.declared.reply.Reply.{Reply}
use Rattle.pw_model.specs.declared.reply.Reply.TheVariants.{Entered, Running}
use Rattle.pw_model.specs.declared.state.Vote.{Vote}
use Rattle.pw_model.specs.States.{idling, running}
use Rattle.pw_model.specs.Containers.{node_vote}
use Rattle.pw_model.specs.Refusals.{fixed_refusal}
use Rattle.pw_model.specs.Answers.{chain_of, if_accepted}
use Rattle.pw_model.specs.Composites.{composite_of}
use Rattle.pw_model.specs.Operations.{own_entry}
use Rattle.pw_model.specs.Effects.{Effect, Taken, ask_effect, both_run, c_state_by, drawn_ops, enter_c, limit_effect, refused_effect, states_in, states_with, votes_in, votes_with}
use Rattle.pw_model.specs.Records.{Part, Record, container, domain, group, number_of, record_count, states, votes}
use Rattle.pw_machine.specs.declared.view.Held.{Held}

-- Where a request stands: all records are held, and so its answer and its operations are known; a domain of performance or
-- throttling comes next; a group; or a container, with a child of it, that child's new vote, the states that the request came to
-- so far, and whether they are still above 0.
pub data Walk : Type 0 where
  over : Reply → List Op → Walk
  scaled : ℕ → Walk
  grouped : ℕ → Walk
  climbing : ℕ → Child → Vote → List ℕ → Bool → Walk

-- # Which record comes next

abbrev pub comes : Walk → Option Record
comes (over reply ops) = None
comes (scaled d) = Some (domain d)
comes (grouped g) = Some (group g)
comes (climbing n c v ss rising) = Some (container n)

abbrev pub turn_of : Plan → Option Record → ℕ
turn_of P None = record_count P
turn_of P (Some r) = number_of P r

-- its turn, or the journal's where all are held
abbrev pub next_turn : Plan → Walk → ℕ
next_turn P w = turn_of P (comes w)

-- # What one record tells

-- a request for a state or a limit, at its domain
abbrev pub scaled_effect : Plan → Request → ℕ → Part → Effect
scaled_effect P (Perf p i) d x = ask_effect P kinds.Perf p i d x
scaled_effect P (Throttle p i) d x = ask_effect P kinds.Throttle p i d x
scaled_effect P (PerfLimit p n) d x = limit_effect P kinds.Perf p n d x
scaled_effect P (ThrottleLimit p n) d x = limit_effect P kinds.Throttle p n d x
scaled_effect P (Idle p s t) d x = refused_effect Running
scaled_effect P (Wake p) d x = refused_effect Running

-- the group's part where its processor votes this state
abbrev pub group_with : Plan → ℕ → ℕ → ℕ → Part → Part
group_with P g p s x = states (states_with (group_at P g).members p s (states_in x))

-- the C state that the processor then has
abbrev pub own_c_state : Plan → ℕ → ℕ → ℕ → Part → ℕ
own_c_state P g p s x = c_state_by P (group_at P g).members (states_with (group_at P g).members p s (states_in x)) p

-- a vote of a processor with C states, at its group
abbrev pub grouped_effect : Plan → Request → ℕ → Part → Effect
grouped_effect P (Idle p s t) g x = record {
  takes = record { place = group g; part = group_with P g p s x } ∷ [];
  reply = Entered (chain_of (own_c_state P g p s x ∷ []));
  ops = own_entry Cst (own_c_state P g p s x) (enter_c P p (own_c_state P g p s x))
      ++ drawn_ops P (group_at P g).members (states_in x) (states_with (group_at P g).members p s (states_in x)) p;
}
grouped_effect P (Wake p) g x = record {
  takes = record { place = group g; part = group_with P g p running.state x } ∷ [];
  reply = Running;
  ops = [];
}
grouped_effect P (Perf p i) g x = refused_effect Running
grouped_effect P (Throttle p i) g x = refused_effect Running
grouped_effect P (PerfLimit p n) g x = refused_effect Running
grouped_effect P (ThrottleLimit p n) g x = refused_effect Running

-- the part that is left of the first record taken
abbrev pub first_left : Part → List Taken → Part
first_left x [] = x
first_left x (t ∷ ts) = t.part

-- # Climbs

-- what a vote is answered that comes to these states
abbrev pub vote_reply : Request → List ℕ → Reply
vote_reply (Idle p s t) ss = Entered (chain_of ss)
vote_reply (Wake p) ss = Running
vote_reply (Perf p i) ss = Running
vote_reply (Throttle p i) ss = Running
vote_reply (PerfLimit p n) ss = Running
vote_reply (ThrottleLimit p n) ss = Running

-- what it operates once it climbed
abbrev pub climb_ops : Plan → Request → List ℕ → List Op
climb_ops P (Idle p s t) ss = op.Enter p (composite_of P p ss) ∷ []
climb_ops P (Wake p) ss = []
climb_ops P (Perf p i) ss = []
climb_ops P (Throttle p i) ss = []
climb_ops P (PerfLimit p n) ss = []
climb_ops P (ThrottleLimit p n) ss = []

abbrev pub climbed : Plan → Request → List ℕ → Walk
climbed P q ss = over (vote_reply q ss) (climb_ops P q ss)

-- on to the container around a child, where there is one
abbrev pub climb_on : Plan → Request → Child → Vote → List ℕ → Bool → Option ℕ → Walk
climb_on P q c v ss rising None = climbed P q ss
climb_on P q c v ss rising (Some n) = climbing n c v ss rising

-- the states with one more, while they rise
abbrev pub chain_with : Bool → List ℕ → ℕ → List ℕ
chain_with rising ss s = if rising then ss ++ s ∷ [] else ss

-- past container n, whose children voted so before and vote so now: a climb ends at the first that runs before and after
abbrev pub climb_past : Plan → Request → ℕ → List ℕ → Bool → List Vote → List Vote → Walk
climb_past P q n ss rising old new =
    let v = node_vote P n new in
    let goes = rising && not (v.state == 0) in
    if both_run (node_vote P n old) v then climbed P q (chain_with goes ss v.state)
    else climb_on P q (Container n) v (chain_with goes ss v.state) goes (container_at P n).parent

-- # Beginning and steps

-- a vote of processor p, by the kind of its table: upwards from its container, or at its group, where it has one
abbrev pub vote_begins : Plan → Request → ℕ → Vote → List Op → IdleKind → Walk
vote_begins P q p v alone Lpi = climb_on P q (Cpu p) v (v.state ∷ []) true (cpu_at P p).parent
vote_begins P q p v alone Cst =
    if nat_lt (group_of P p) (length P.groups) then grouped (group_of P p) else over (vote_reply q (v.state ∷ [])) alone
vote_begins P q p v alone Absent = over (vote_reply q (v.state ∷ [])) []

-- a request that isn't refused in every state
abbrev pub begins_at : Plan → Request → Walk
begins_at P (Idle p s t) = vote_begins P (Idle p s t) p (idling s t) (own_entry Cst s (enter_c P p s)) (cpu_at P p).idle.kind
begins_at P (Wake p) = vote_begins P (Wake p) p running [] (cpu_at P p).idle.kind
begins_at P (Perf p i) = scaled (domain_of P kinds.Perf p)
begins_at P (Throttle p i) = scaled (domain_of P kinds.Throttle p)
begins_at P (PerfLimit p n) = scaled (domain_of P kinds.Perf p)
begins_at P (ThrottleLimit p n) = scaled (domain_of P kinds.Throttle p)

-- before any record is held
abbrev pub start : Plan → Request → Walk
start P q = if_accepted (fixed_refusal P q) (λ reply. over reply []) (begins_at P q)

-- past the next record, which has this part
abbrev pub step : Plan → Request → Walk → Part → Walk
step P q (over reply ops) x = over reply ops
step P q (scaled d) x = over (scaled_effect P q d x).reply (scaled_effect P q d x).ops
step P q (grouped g) x = over (grouped_effect P q g x).reply (grouped_effect P q g x).ops
step P q (climbing n c v ss rising) x = climb_past P q n ss rising (votes_in x) (votes_with P n c v (votes_in x))

-- the part that the request leaves the next record with, which has this one
abbrev pub left : Plan → Request → Walk → Part → Part
left P q (over reply ops) x = x
left P q (scaled d) x = first_left x (scaled_effect P q d x).takes
left P q (grouped g) x = first_left x (grouped_effect P q g x).takes
left P q (climbing n c v ss rising) x = votes (votes_with P n c v (votes_in x))

-- # Over what is held

abbrev pub walk_from : Plan → Request → Walk → List Held → Walk
walk_from P q w [] = w
walk_from P q w (h ∷ hs) = walk_from P q (step P q w h.noted) hs

-- where a request stands by the parts that were noted of the first records, in the order in which they were taken
abbrev pub walk : Plan → Request → List Held → Walk
walk P q held = walk_from P q (start P q) held
