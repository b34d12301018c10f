-- What stands first in a plan's lists, in words of its own.
use Rattle.std.specs.Prelude.{◌≡◌, ◌≢◌, ◌<◌, ◌≤◌, ℕ, true, List, [], length, map, slice_index, slice_index_or, Option, MatchOption}
use Rattle.pw_plan.specs.declared.domain.Domain.{Domain}
use Rattle.pw_plan.specs.declared.domain.DomainKind.{DomainKind}
use Rattle.pw_plan.specs.declared.domain.DomainKind.TheVariants.{Perf, Throttle, Idle}
use Rattle.pw_plan.specs.declared.domain.Group.{Group}
use Rattle.pw_plan.specs.declared.index.CpuIndex.{CpuIndex}
use Rattle.pw_plan.specs.declared.index.Membership.{Membership}
use Rattle.pw_plan.specs.declared.plan.Plan.{Plan}
use Rattle.pw_plan.specs.Groups.{has_member}
use Rattle.pw_plan.specs.Places.{domain_of, group_of, unfit_of}

-- k is the place of the first element of which this holds, or the length of the list where it holds of none.
pub record IsPlaceOfFirst {X : Type 0} (Q : X → Type 0) (nothing : X) (xs : List X) (k : ℕ) : Type 0 where
  pub within : k ≤ length xs
  pub holds : k < length xs → Q (slice_index_or xs k nothing)
  pub first : (j : ℕ) → j < k → Q (slice_index_or xs j nothing) → ⊥

-- The domain is of this kind and has the processor.
pub record HasInKind (kind : DomainKind) (p : ℕ) (d : Domain) : Type 0 where
  pub of_kind : d.kind ≡ kind
  pub member : has_member d.members p ≡ true

-- It is an idle domain of the processor that can't be coordinated.
pub record IsUnfitOf (p : ℕ) (d : Domain) : Type 0 where
  pub idle : HasInKind Idle p d
  pub unfit : d.unfit ≢ 0

-- It shows processor p among the members at place k of these lists.
pub record IsMemberAt (members : List (List ℕ)) (p k : ℕ) (m : Membership) : Type 0 where
  pub place : m.place ≡ k
  pub within : m.member < length (slice_index_or members k [])
  pub member : slice_index (slice_index_or members k []) m.member ≡ p

-- It shows the processor so, or there is none where k is past the lists.
abbrev pub ShowsAt : List (List ℕ) → ℕ → ℕ → Option Membership → Type 0
ShowsAt members p k m = MatchOption m (k ≡ length members) (IsMemberAt members p k)

-- The index shows processor p in its domains of performance and of throttling, in its first unfit idle domain and in its group.
pub record IsIndexOf (P : Plan) (p : ℕ) (i : CpuIndex) : Type 0 where
  pub perf : ShowsAt (map (λ (d : Domain). d.members) P.domains) p (domain_of P Perf p) i.perf
  pub throttle : ShowsAt (map (λ (d : Domain). d.members) P.domains) p (domain_of P Throttle p) i.throttle
  pub unfit : ShowsAt (map (λ (d : Domain). d.members) P.domains) p (unfit_of P p) i.unfit
  pub group : ShowsAt (map (λ (g : Group). g.members) P.groups) p (group_of P p) i.group
