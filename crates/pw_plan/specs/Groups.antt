-- Groups: processors joined by chains of idle domains that software coordinates (ACPI 6.5, 8.3).
use Rattle.std.specs.Prelude.{◌≡◌, ◌==◌, ◌<◌, ◌&&◌, not, ℕ, Bool, true, false, List, [], ◌∷◌, map, filter, length, take, slice_index_or, None, if◌then◌else◌, All}
use Rattle.std.specs.List.{list_any, range_with_len}
use Rattle.std.specs.List.Sorted.{IsStrictlyIncreasing}
use Rattle.acpi_values.specs.declared.dependency.Coord.{Coord}
use Rattle.acpi_values.specs.declared.dependency.Coord.TheVariants.{SwAll, SwAny, HwAll}
use Rattle.pw_plan.specs.declared.domain.Domain.{Domain}
use Rattle.pw_plan.specs.declared.domain.DomainKind.{DomainKind}
use Rattle.pw_plan.specs.declared.domain.DomainKind.TheVariants.{Perf, Throttle, Idle}
use Rattle.pw_plan.specs.declared.domain.Group.{Group}
use Rattle.pw_plan.specs.Tree.{places_from}

unfoldable pub no_domain : Domain
no_domain = record { kind = Idle; number = None; index = 0; coord = HwAll; members = []; unfit = 0 }

unfoldable pub no_group : Group
no_group = record { members = [] }

abbrev pub domain_in : List Domain → ℕ → Domain
domain_in ds k = slice_index_or ds k no_domain

abbrev pub is_software : Coord → Bool
is_software SwAll = true
is_software SwAny = true
is_software HwAll = false

abbrev pub is_idle : DomainKind → Bool
is_idle Perf = false
is_idle Throttle = false
is_idle Idle = true

abbrev pub has_member : List ℕ → ℕ → Bool
has_member members p = list_any (λ q. q == p) members

-- # What a group is

-- whether it is an idle domain that software coordinates, by the coordination type that it shows
abbrev pub is_link : Domain → Bool
is_link d = is_idle d.kind && is_software d.coord

-- whether the processor is in such a domain
abbrev pub is_linked : List Domain → ℕ → Bool
is_linked ds p = list_any (λ (d : Domain). is_link d && has_member d.members p) ds

-- a chain of such domains leads from one processor to another, each next one sharing a domain with the one before
pub data Chain (ds : List Domain) (p : ℕ) : ℕ → Type 0 where
  here : Chain ds p p
  onward : (q r k : ℕ) → Chain ds p q → k < length ds → is_link (domain_in ds k) ≡ true
      → has_member (domain_in ds k).members q ≡ true → has_member (domain_in ds k).members r ≡ true → Chain ds p r

abbrev pub first_of : List ℕ → ℕ
first_of members = slice_index_or members 0 0

-- The groups of these domains: who is in a software idle domain is in a group, and nobody else is; two are in one
-- group exactly where a chain leads from the one to the other; each group is in order, and they are in the order
-- of their first members.
pub record AreGroups (ds : List Domain) (gs : List Group) : Type 0 where
  pub covered : (p : ℕ) → is_linked ds p ≡ true → list_any (λ (g : Group). has_member g.members p) gs ≡ true
  pub linked : All (λ (g : Group). (p : ℕ) → has_member g.members p ≡ true → is_linked ds p ≡ true) gs
  pub joined : All (λ (g : Group). (p q : ℕ) → has_member g.members p ≡ true → has_member g.members q ≡ true → Chain ds p q) gs
  pub whole : All (λ (g : Group). (p q : ℕ) → has_member g.members p ≡ true → Chain ds p q → has_member g.members q ≡ true) gs
  pub some : All (λ (g : Group). 0 < length g.members) gs
  pub rising : All (λ (g : Group). IsStrictlyIncreasing g.members) gs
  pub order : IsStrictlyIncreasing (map (λ (g : Group). first_of g.members) gs)

-- # The list of the groups. Each processor has a label, and joined processors get the same one

abbrev pub label_at : List ℕ → ℕ → ℕ
label_at labels p = slice_index_or labels p 0

-- one label in place of another
abbrev pub rename : ℕ → ℕ → ℕ → ℕ
rename old new label = if label == old then new else label

abbrev pub relabel : ℕ → ℕ → List ℕ → List ℕ
relabel old new labels = map (rename old new) labels

-- the labels where each of these processors has got the label of the first one, with all that had its own label
abbrev pub join_with : ℕ → List ℕ → List ℕ → List ℕ
join_with first [] labels = labels
join_with first (p ∷ ps) labels = join_with first ps (relabel (label_at labels p) (label_at labels first) labels)

abbrev pub join_members : List ℕ → List ℕ → List ℕ
join_members [] labels = labels
join_members (p ∷ ps) labels = join_with p ps labels

-- the labels after the members of each software idle domain are joined
abbrev pub labels_after : List Domain → List ℕ → List ℕ
labels_after [] labels = labels
labels_after (d ∷ ds) labels = labels_after ds (if is_link d then join_members d.members labels else labels)

abbrev pub labels_of : List Domain → ℕ → List ℕ
labels_of ds count = labels_after ds (range_with_len 0 count)

-- whether processor p is the first with its label, and in a software idle domain
abbrev pub leads_group : List Domain → List ℕ → ℕ → Bool
leads_group ds labels p = is_linked ds p && not (has_member (take p labels) (label_at labels p))

abbrev pub group_with : List ℕ → ℕ → Group
group_with labels p = record { members = places_from (λ l. l == label_at labels p) 0 labels }

abbrev pub groups_by : List Domain → List ℕ → ℕ → List Group
groups_by ds labels count = map (group_with labels) (filter (leads_group ds labels) (range_with_len 0 count))

-- the groups of so many processors
abbrev pub groups_of : List Domain → ℕ → List Group
groups_of ds count = groups_by ds (labels_of ds count) count
