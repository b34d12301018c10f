-- Which record of the plan a record is.
use Rattle.std.specs.Prelude.{◌≡◌, ℕ}
use Rattle.pw_plan.specs.declared.plan.Plan.{Plan}
use Rattle.pw_idle.specs.declared.node.NodeRec.{NodeRec}
use Rattle.pw_idle.specs.Nodes.{IsNodeOf}
use Rattle.pw_domain.specs.declared.domain.DomainRec.{DomainRec}
use Rattle.pw_domain.specs.declared.group.GroupRec.{GroupRec}
use Rattle.pw_domain.specs.Domains.{IsDomainOf}
use Rattle.pw_domain.specs.Groups.{IsGroupOf}

-- It is the record of container n; likewise of domain d, and of group g.
pub record IsNode (P : Plan) (n : ℕ) (r : NodeRec) : Type 0 where
  pub of : IsNodeOf P r
  pub number : r.node ≡ n

pub record IsDomain (P : Plan) (d : ℕ) (r : DomainRec) : Type 0 where
  pub of : IsDomainOf P r
  pub number : r.domain ≡ d

pub record IsGroup (P : Plan) (g : ℕ) (r : GroupRec) : Type 0 where
  pub of : IsGroupOf P r
  pub number : r.group ≡ g
