-- What follows for the plan of its parts.
use Rattle.std.proofs.Common.{◌≡◌, ◌<◌, List, length, None}
use Rattle.std.specs.Prelude.{All}
use Rattle.pw_plan.specs.declared.parts.ContainerParts.{ContainerParts}
use Rattle.pw_plan.specs.declared.parts.CpuParts.{CpuParts}
use Rattle.pw_plan.specs.declared.domain.Child.{Child}
use Rattle.pw_plan.specs.declared.domain.Domain.{Domain}
use Rattle.pw_plan.specs.declared.domain.Group.{Group}
use Rattle.pw_plan.specs.Limits.{limit_passed}
use Rattle.pw_plan.specs.inner.DomainList.{all_domains}
use Rattle.pw_plan.specs.Planning.{IsPlanOf}
use Rattle.pw_plan.specs.Sound.{IsSound}
use Rattle.pw_plan.proofs.Smallness.{is_small, limits_of}
use Rattle.pw_plan.proofs.TreeLemmas.{is_tree}
use Rattle.pw_plan.proofs.DomainLemmas.{has_domains}
use Rattle.pw_plan.proofs.GroupLemmas.{has_groups}
use Rattle.pw_plan.proofs.Listing.{listed_are}

pub is_sound : (cs : List ContainerParts) (ps : List CpuParts) (children : List (List Child)) (ds : List Domain) (gs : List Group) → IsPlanOf cs ps children ds gs → IsSound cs ps children ds gs
is_sound cs ps children ds gs plan =
    let limits = limits_of cs ps plan.within in
    record {
      tree = is_tree cs ps plan.fit children plan.children_are;
      small = is_small cs ps plan.fit limits;
      domains = rw (listed_are ps ds plan.fit.csd plan.domains_are) (has_domains ps limits.cpus);
      groups = rw plan.groups_are (has_groups ds ps limits.cpus);
    }

-- the members of the domains are processors
pub members_exist : (cs : List ContainerParts) (ps : List CpuParts) → limit_passed cs ps ≡ None → All (λ (d : Domain). All (λ p. p < length ps) d.members) (all_domains ps)
members_exist cs ps within = (has_domains ps (limits_of cs ps within).cpus).members
