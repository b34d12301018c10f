use Rattle.std.proofs.Common.{◌≡◌, ◌⊎◌, ◌≤◌, ◌<◌, ◌+◌, ℕ, List, length, get_or, sym, ap, subst, ◌∙◌, inl, inr, nat_cmp, arith}
use Rattle.std.specs.List.{Any}
use Rattle.std.specs.Ordering.{ord_max}
use Rattle.std.proofs.lemmas.Bool.{cases_lt}
use Rattle.std.proofs.lemmas.List.{length-map, get_or_default}
use Rattle.acpi_space.specs.Namespace.{Entry}
use Rattle.acpi_space.specs.inner.Standing.{entry_in}
use Rattle.acpi_space.proofs.Known.{path_is}
use Rattle.acpi_space.proofs.space.Space.longest_path.Goals as goal

-- some object has so many segments, or it is none
abbrev IsReached : List Entry → ℕ → Type 0
IsReached entries n = (n ≡ 0) ⊎ Any (λ (e : Entry). length e.path ≡ n) entries

-- the greater of what is reached and of the length of one more object
reached_more : (entries : List Entry) (i longest depth most : ℕ) (e : Entry) → IsReached entries longest → i < length entries → depth ≡ length (get_or entries i e).path
    → most ≡ ord_max nat_cmp longest depth → IsReached entries most
reached_more entries i longest depth most e reached inside size is = elim (cases_lt depth longest) [
  | inl less ↦ subst (IsReached entries) (grind (arith, less, is)) reached
  | inr new ↦
      let last : most ≡ depth = grind (arith, new, is) in
      inr (i, get_or entries i e, inside, get_or_default entries i (get_or entries i e) e inside, sym (last ∙ size))
]

bound_more : (entries : List Entry) (i longest depth most : ℕ) → ((k : ℕ) (d : Entry) → k < i → length (get_or entries k d).path ≤ longest)
    → ((d : Entry) → depth ≡ length (get_or entries i d).path) → most ≡ ord_max nat_cmp longest depth
    → (k : ℕ) (d : Entry) → k < i + 1 → length (get_or entries k d).path ≤ most
bound_more entries i longest depth most bound size is k d before = elim (cases_lt k i) [
  | inl less ↦ let old = bound k d less in grind (arith, old, is)
  | inr last ↦ let e : k ≡ i = omega arith in rw e (let new = size d in grind (arith, new, is))
]

pub loop-placed-preserved : goal.loop-placed-preserved
loop-placed-preserved c =
    let places = c.self.inside.tree in
    let placed = c.self.inside.placed.items in
    let entries = c.args.self.now in
    let i = c.loop-placed.placed-index in
    let p = c.placed-item.result in
    let longest = c.loop-placed.longest in
    let depth = c.depth.result in
    let most = c.max-longest.result in
    let count : length entries ≡ length placed = ap length (sym c.self.view_is) ∙ length-map placed (entry_in places) in
    let items = ap length c.deref-placed-items.ensures.value in
    let here : i < length placed = omega (arith, c.loop-placed-test.true, items) in
    let inside : i < length entries = omega (arith, here, count) in
    let item = c.placed-item.is ∙ ap (λ ps. get_or ps i p) c.deref-placed-items.ensures.value in
    let size : (d : Entry) → depth ≡ length (get_or entries i d).path = λ d. c.depth.ensures ∙ ap length (path_is places placed entries i d p c.self.view_is here item) in
    record {
      bound = bound_more entries i longest depth most c.loop-placed.invariant.bound size c.max-longest.ensures;
      attained = let e = entry_in places p in reached_more entries i longest depth most e c.loop-placed.invariant.attained inside (size e) c.max-longest.ensures;
    }
