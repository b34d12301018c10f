-- The groups of a plan: their members are processors.
use Rattle.std.proofs.Common.{◌≡◌, ◌<◌, ◌≤◌, ◌==◌, ℕ, Bool, true, false, cond, List, [], ◌∷◌, length, refl, ◌∙◌, arith, zero-add}
use Rattle.std.specs.Prelude.{filter, All}
use Rattle.std.specs.List.{range_with_len, AllByRecursion}
use Rattle.std.proofs.lemmas.List.{length-map}
use Rattle.std.proofs.lemmas.List.Elements.{All-from_recursion}
use Rattle.std.proofs.lemmas.List.FromFn.{length-range_with_len}
use Rattle.pw_plan.specs.declared.domain.Domain.{Domain}
use Rattle.pw_plan.specs.declared.domain.Group.{Group}
use Rattle.pw_plan.specs.declared.parts.CpuParts.{CpuParts}
use Rattle.pw_plan.specs.Groups.{group_with, groups_of, is_link, join_members, join_with, label_at, labels_after, labels_of, leads_group, relabel, rename}
use Rattle.pw_plan.specs.Sound.{HasGroups}
use Rattle.pw_plan.proofs.Lists.{each_map, places-each, places-length}
use Rattle.pw_base.proofs.Facts.{weaker}

pub join_with-length : (first : ℕ) (ps labels : List ℕ) → length (join_with first ps labels) ≡ length labels
join_with-length first [] labels = refl
join_with-length first (p ∷ ps) labels = join_with-length first ps (relabel (label_at labels p) (label_at labels first) labels) ∙ length-map labels (rename (label_at labels p) (label_at labels first))

pub join_members-length : (ps labels : List ℕ) → length (join_members ps labels) ≡ length labels
join_members-length [] labels = refl
join_members-length (p ∷ ps) labels = join_with-length p ps labels

pub labels_after-length : (ds : List Domain) (labels : List ℕ) → length (labels_after ds labels) ≡ length labels
labels_after-length [] labels = refl
labels_after-length (d ∷ ds) labels = labels_after-length ds (cond (is_link d) (join_members d.members labels) labels) ∙ step (is_link d)
  where
    step : (b : Bool) → length (cond b (join_members d.members labels) labels) ≡ length labels
    step true = join_members-length d.members labels
    step false = refl

pub labels_of-length : (ds : List Domain) (count : ℕ) → length (labels_of ds count) ≡ count
labels_of-length ds count = labels_after-length ds (range_with_len 0 count) ∙ length-range_with_len 0 count

abbrev pub Fits : ℕ → Group → Type 0
Fits n g = AllByRecursion (λ p. p < n) g.members × (length g.members ≤ n)

group_fits : (labels : List ℕ) (p : ℕ) → Fits (length labels) (group_with labels p)
group_fits labels p = (places-each (λ q. q < length labels) (λ l. l == label_at labels p) 0 labels 0 (λ i lt e. rw zero-add lt), places-length (λ l. l == label_at labels p) 0 labels)

module _ (ds : List Domain) (ps : List CpuParts) (few : length ps ≤ 256) where
  all_fit : AllByRecursion (Fits (length (labels_of ds (length ps)))) (groups_of ds (length ps))
  all_fit = each_map (Fits (length (labels_of ds (length ps)))) (group_with (labels_of ds (length ps))) (filter (leads_group ds (labels_of ds (length ps)))
      (range_with_len 0 (length ps))) (λ p. group_fits (labels_of ds (length ps)) p)

  fits : AllByRecursion (Fits (length ps)) (groups_of ds (length ps))
  fits = rw (labels_of-length ds (length ps)) at all_fit

  pub has_groups : HasGroups ps (groups_of ds (length ps))
  has_groups = record {
    members = All-from_recursion (λ (g : Group). All (λ p. p < length ps) g.members) (groups_of ds (length ps)) (weaker (Fits (length ps)) (λ g. All
        (λ p. p < length ps) g.members) (λ g f. All-from_recursion (λ p. p < length ps) g.members f.0) (groups_of ds (length ps)) fits);
    sizes = All-from_recursion (λ (g : Group). length g.members ≤ 256) (groups_of ds (length ps)) (weaker (Fits (length ps)) (λ g. length g.members ≤ 256)
        (λ g f. let le = f.1 in omega (arith, le)) (groups_of ds (length ps)) fits);
  }
