use Rattle.std.proofs.Common.{◌≡◌, ◌<◌, ◌++◌, ◌∷◌, [], Contains, MatchOption, length, get_or, ap, sym, ◌∙◌, arith}
use Rattle.std.proofs.lemmas.List.{length-map}
use Rattle.acpi_space.specs.Places.{Place}
use Rattle.acpi_space.specs.Namespace.{places_of}
use Rattle.acpi_space.specs.Standing.{IsFound}
use Rattle.acpi_space.specs.inner.Standing.{entries_at, entry_in}
use Rattle.acpi_space.proofs.Known.{unplaced, path_is}
use Rattle.pw_base.proofs.Facts.{subst2}
use Rattle.acpi_space.proofs.space.Space.find_below.Goals as goal

pub returns-in-Some : goal.returns-in-Some
returns-in-Some c d =
    let places = c.self.inside.tree in
    let placed = c.self.inside.placed.items in
    let p = c.index-above.result.now in
    let count : length c.args.self.now ≡ length placed = ap length (sym c.self.view_is) ∙ length-map placed (entry_in places) in
    let inside : c.args.index < length placed = omega (arith, c.requires, count) in
    let above = path_is places placed c.args.self.now c.args.index d p c.self.view_is inside c.index-above.ensures in
    subst2 (λ es q. MatchOption c.object_at.result (Contains (places_of es) q → ⊥) (λ p. IsFound es q p.now))
    (ap (entries_at places) c.as_slice.ensures.value ∙ c.self.view_is) (c.in-Some.ensures.1 ∙ ap (λ (q : Place). q ++ c.args.seg ∷ []) above) c.object_at.ensures

pub returns-in-None : goal.returns-in-None
returns-in-None c d =
    let places = c.self.inside.tree in
    let placed = c.self.inside.placed.items in
    let p = c.index-above.result.now in
    let count : length c.args.self.now ≡ length placed = ap length (sym c.self.view_is) ∙ length-map placed (entry_in places) in
    let inside : c.args.index < length placed = omega (arith, c.requires, count) in
    let above = path_is places placed c.args.self.now c.args.index d p c.self.view_is inside c.index-above.ensures in
    subst2 (λ es q. Contains (places_of es) q → ⊥) c.self.view_is (ap (λ (q : Place). q ++ c.args.seg ∷ []) above)
    (unplaced places placed c.self.inside.index.items (get_or places p.name [] ++ c.args.seg ∷ []) c.self.invariant c.in-None.ensures)
