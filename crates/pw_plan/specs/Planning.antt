-- When lists are the plan of their parts.
use Rattle.std.specs.Prelude.{◌≡◌, List, length, None}
use Rattle.pw_plan.specs.declared.parts.ContainerParts.{ContainerParts}
use Rattle.pw_plan.specs.declared.parts.CpuParts.{CpuParts}
use Rattle.pw_plan.specs.declared.domain.Child.{Child}
use Rattle.pw_plan.specs.declared.domain.Domain.{Domain}
use Rattle.pw_plan.specs.declared.domain.Group.{Group}
use Rattle.pw_plan.specs.Parts.{PartsFit}
use Rattle.pw_plan.specs.Tree.{all_children}
use Rattle.pw_plan.specs.Limits.{limit_passed}
use Rattle.pw_plan.specs.Domains.{AreDomains}
use Rattle.pw_plan.specs.Groups.{groups_of}

-- It is the plan of its parts: they fit together and pass no limit, and the rest is made of them.
pub record IsPlanOf (cs : List ContainerParts) (ps : List CpuParts) (children : List (List Child)) (ds : List Domain)
    (gs : List Group) : Type 0 where
  pub fit : PartsFit cs ps
  pub within : limit_passed cs ps ≡ None
  pub children_are : children ≡ all_children cs ps
  pub domains_are : AreDomains ps ds
  pub groups_are : gs ≡ groups_of ds (length ps)
