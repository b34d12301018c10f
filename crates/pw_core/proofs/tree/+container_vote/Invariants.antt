use Rattle.std.proofs.Common.{◌≡◌, ◌<◌, ◌-◌, ◌^◌, ℕ, length, map, drop, min, get_or}
use Rattle.std.specs.Prelude.{fold}
use Rattle.pw_plan.specs.declared.domain.Child.TheVariants.{Cpu}
use Rattle.pw_plan.specs.Places.{table_of}
use Rattle.pw_model.specs.States.{with_change}
use Rattle.pw_model.specs.Containers.{child_vote, enables_to}
use Rattle.pw_core.proofs.Voting.{least_bearing, least_reach}
use Rattle.pw_core.proofs.tree.+container_vote.Given as goal

abbrev pub decreases-container_vote : goal.decreases-container_vote
decreases-container_vote l = length l.plan.now.containers - l.node

abbrev pub invariant-loop-child : goal.invariant-loop-child
invariant-loop-child l = record {
  begun : l.child-index ≡ 0 → l.least.state ≡ 4294967295;
  state : fold min l.least.state (map (λ c. enables_to (table_of l.plan c) (child_vote l.plan (with_change l.state l.change) c)) (drop l.child-index l.children))
      ≡ least_reach l.plan (with_change l.state l.change) l.node;
  tolerance : fold min l.least.tolerance (map (λ c. (child_vote l.plan (with_change l.state l.change) c).tolerance) (drop l.child-index l.children))
      ≡ least_bearing l.plan (with_change l.state l.change) l.node;
  fits : (k : ℕ) → k < l.child-index → (child_vote l.plan (with_change l.state l.change) (get_or l.children k (Cpu 0))).tolerance < 2 ^ 32;
}
