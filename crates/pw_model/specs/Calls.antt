-- What the calls of a record answer and leave, by the part that it holds.
use Rattle.std.specs.Prelude.{◌≡◌, ◌<◌, ◌==◌, ◌++◌, ℕ, true, Some, is_some, List, [], map, length, slice_index_or, slice_set, if◌then◌else◌}
use Rattle.acpi_values.specs.declared.idle.IdleKind.TheVariants.{Cst}
use Rattle.acpi_values.specs.declared.operation.Op.{Op}
use Rattle.pw_plan.specs.declared.domain.Child.TheVariants.{Cpu, Container}
use Rattle.pw_plan.specs.declared.domain.DomainKind.{DomainKind}
use Rattle.pw_plan.specs.Groups.{has_member}
use Rattle.pw_plan.specs.declared.plan.Plan.{Plan}
use Rattle.pw_plan.specs.Parts.{scale_of}
use Rattle.pw_plan.specs.Places.{children_at, container_at, cpu_at, domain_at, domain_of, group_at, group_of}
use Rattle.pw_model.specs.declared.state.Vote.{Vote}
use Rattle.pw_model.specs.States.{opening, opening_limit, running}
use Rattle.pw_model.specs.Containers.{node_vote}
use Rattle.pw_model.specs.Operations.{own_entry, set_at, set_on}
use Rattle.pw_model.specs.Records.{Part, Record, container, domain, group, part_of, votes, levels, states}
use Rattle.pw_model.specs.Effects.{asks_in, c_state_by, child_place, drawn_ops, level_effect, member_place, ops_after, enter_c, limits_in, standing_in, states_in, votes_in}

-- # Containers: k is the place of a child

-- `state` and `tolerance`
abbrev pub node_state : Plan → ℕ → Part → ℕ
node_state P n x = (node_vote P n (votes_in x)).state

abbrev pub node_tolerance : Plan → ℕ → Part → ℕ
node_tolerance P n x = (node_vote P n (votes_in x)).tolerance

-- `child` and `child_tolerance`
abbrev pub child_state : Part → ℕ → ℕ
child_state x k = (slice_index_or (votes_in x) k running).state

abbrev pub child_tolerance : Part → ℕ → ℕ
child_tolerance x k = (slice_index_or (votes_in x) k running).tolerance

-- what `vote` leaves: its answer is the `node_state` of this
abbrev pub with_vote : ℕ → Vote → Part → Part
with_vote k v x = votes (slice_set (votes_in x) k v)

-- # Domains: k is the place of a member

abbrev pub own_ask : Part → ℕ → ℕ
own_ask x k = slice_index_or (asks_in x) k 0

abbrev pub own_limit : Part → ℕ → ℕ
own_limit x k = slice_index_or (limits_in x) k 0

-- `ask` leaves `with_ask k i x`, `limit` leaves `with_limit k n x`; both answer where that stands
abbrev pub level_standing : Plan → ℕ → Part → ℕ → ℕ
level_standing P d x k = standing_in (domain_at P d) x k

-- what `ask_ops` and `limit_ops` append, where the part becomes y
abbrev pub level_ops : Plan → ℕ → ℕ → Part → Part → List Op
level_ops P d k x y =
    let D = domain_at P d in
    let p = slice_index_or D.members k 0 in
    if standing_in D x k == standing_in D y k then [] else map (set_on P D.kind (standing_in D y k)) (set_at D.coord D.members p)

-- # Groups: k is the place of a member

abbrev pub own_vote : Part → ℕ → ℕ
own_vote x k = slice_index_or (states_in x) k 0

-- `c_state`
abbrev pub group_c_state : Plan → ℕ → Part → ℕ → ℕ
group_c_state P g x k = c_state_by P (group_at P g).members (states_in x) (slice_index_or (group_at P g).members k 0)

-- what `vote` leaves: its answer is the `group_c_state` of this
abbrev pub with_state : ℕ → ℕ → Part → Part
with_state k s x = states (slice_set (states_in x) k s)

-- what `vote_ops` appends, where the part becomes y
abbrev pub group_ops : Plan → ℕ → ℕ → Part → Part → List Op
group_ops P g k x y =
    let ms = (group_at P g).members in
    let p = slice_index_or ms k 0 in
    own_entry Cst (group_c_state P g y k) (enter_c P p (group_c_state P g y k)) ++ drawn_ops P ms (states_in x) (states_in y) p

-- # What `open` makes

abbrev pub opening_part : Plan → Record → Part
opening_part P (container n) = votes (map (λ c. running) (children_at P n))
opening_part P (domain d) = levels (map (λ p. opening_limit (scale_of (domain_at P d).kind (cpu_at P p))) (domain_at P d).members) (map
    (λ p. opening_limit (scale_of (domain_at P d).kind (cpu_at P p))) (domain_at P d).members)
opening_part P (group g) = states (map (λ p. 0) (group_at P g).members)

-- Each record opens with its part of the state at the start.
abbrev pub OpensRight : Plan → Type 0
OpensRight P = (r : Record) → part_of P (opening P) r ≡ opening_part P r

-- # How the calls make a request's effect

-- Where a processor, a container or a member stands there is a place, and the calls at this place do what the request does.
pub record CallsServe (P : Plan) : Type 0 where
  -- a processor's place among its container's children, and a container's
  pub cpu_place : (n p : ℕ) → p < length P.cpus → (cpu_at P p).parent ≡ Some n → child_place P n (Cpu p) < length (children_at P n)
  pub container_place : (n m : ℕ) → m < length P.containers → (container_at P m).parent ≡ Some n
      → child_place P n (Container m) < length (children_at P n)
  -- who stands at a member's place, and where who stands at a place stands
  pub member_at : (d p : ℕ) → has_member (domain_at P d).members p ≡ true
      → (member_place (domain_at P d).members p < length (domain_at P d).members)
      × (slice_index_or (domain_at P d).members (member_place (domain_at P d).members p) 0 ≡ p)
  pub grouped_at : (g p : ℕ) → has_member (group_at P g).members p ≡ true
      → (member_place (group_at P g).members p < length (group_at P g).members)
      × (slice_index_or (group_at P g).members (member_place (group_at P g).members p) 0 ≡ p)
  pub place_at : (d k : ℕ) → k < length (domain_at P d).members
      → member_place (domain_at P d).members (slice_index_or (domain_at P d).members k 0) ≡ k
  pub grouped_place : (g k : ℕ) → k < length (group_at P g).members
      → member_place (group_at P g).members (slice_index_or (group_at P g).members k 0) ≡ k
  pub child_at : (n k : ℕ) → k < length (children_at P n) → child_place P n (slice_index_or (children_at P n) k (Cpu 0)) ≡ k
  -- `ask_ops` and `limit_ops`
  pub level_ops_are : (kind : DomainKind) (p : ℕ) (x y : Part) → p < length P.cpus → is_some (scale_of kind (cpu_at P p)) ≡ true
      → (level_effect P kind p (domain_of P kind p) x y).ops
      ≡ level_ops P (domain_of P kind p) (member_place (domain_at P (domain_of P kind p)).members p) x y
  -- `vote_ops`
  pub group_ops_are : (F : Record → Part) (p : ℕ) (v : Vote) → group_of P p < length P.groups
      → ops_after Cst P F p v ≡ group_ops P (group_of P p) (member_place (group_at P (group_of P p)).members p) (F (group (group_of P p)))
      (with_state (member_place (group_at P (group_of P p)).members p) v.state (F (group (group_of P p))))
