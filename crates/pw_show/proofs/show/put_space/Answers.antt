use Rattle.std.proofs.Common.{◌≡◌, ◌<◌, List, ℕ, length, get_or, refl, ap, ◌∙◌, arith}
use Rattle.std.proofs.lemmas.List.{get_or_default}
use Rattle.pw_base.specs.Room.{Bounded}
use Rattle.acpi_space.specs.declared.object.Placed.{Placed}
use Rattle.acpi_space.specs.Things.{thing}
use Rattle.acpi_space.specs.Places.{Place}
use Rattle.acpi_space.specs.Namespace.{Entry}
use Rattle.acpi_space.specs.Standing.{AreObjects}
use Rattle.pw_text.proofs.Putting.{PutsText-as}
use Rattle.pw_show.specs.Show.{object_line, show_line}
use Rattle.pw_show.proofs.Chains.{each_more, each_stop}
use Rattle.pw_show.proofs.show.put_space.Goals as goal

-- the line of an entry by its path and its object
line_is : (entries : List Entry) (placed : List Placed) (at : ℕ) (d : Entry) (path : Place) (p : Placed) → AreObjects entries placed → at < length placed
    → p ≡ get_or placed at p → path ≡ (get_or entries at d).path → object_line path (thing p.object) ≡ show_line (get_or entries at d)
line_is entries placed at d path p objects inside is same =
    let object : thing p.object ≡ (get_or entries at d).object = ap (λ (q : Placed). thing q.object) is ∙ (objects.objects at d p inside).0 in
    rw (same, object) refl

pub fill_path-requires-clause-room : goal.fill_path-requires-clause-room
fill_path-requires-clause-room g c = λ d.
    let at = c.loop-index.index in
    let objects = c.placed-placed-items.ensures.objects in
    let within : at < length c.args.space.now = omega (arith, objects.count) in
    rw c.loop-index.invariant.0 (c.requires at d within)

pub returns-in_err-put_line : goal.returns-in_err-put_line
returns-in_err-put_line g c =
    let entries = c.args.space.now in
    let at = c.loop-index.index in
    let p = c.placed-item.result in
    let objects = c.placed-placed-items.ensures.objects in
    let inside : at < length c.placed-placed-items.result.now = omega arith in
    let within : at < length entries = omega (arith, objects.count) in
    let d : Entry = record { path = c.as_slice.result.now; object = thing p.object; width = p.width } in
    let entry = get_or entries at d in
    let path : c.as_slice.result.now ≡ entry.path = c.as_slice.ensures ∙ ap (λ (b : Bounded (List ℕ)). b.elements) (c.fill_path.ensures d) in
    let line = line_is entries c.placed-placed-items.result.now at d c.as_slice.result.now p objects inside c.placed-item.is path in
    each_stop show_line entries at entry c.from_residual.result within (get_or_default entries at d entry within) c.from_residual.ensures.0
    c.loop-index.invariant.1 (PutsText-as (show_line entry) line c.in_err-put_line.ensures)

pub loop-index-preserved : goal.loop-index-preserved
loop-index-preserved g c =
    let entries = c.args.space.now in
    let at = c.loop-index.index in
    let p = c.placed-item.result in
    let objects = c.placed-placed-items.ensures.objects in
    let inside : at < length c.placed-placed-items.result.now = omega arith in
    let within : at < length entries = omega (arith, objects.count) in
    let d : Entry = record { path = c.as_slice.result.now; object = thing p.object; width = p.width } in
    let entry = get_or entries at d in
    let filled = c.fill_path.ensures d in
    let path : c.as_slice.result.now ≡ entry.path = c.as_slice.ensures ∙ ap (λ (b : Bounded (List ℕ)). b.elements) filled in
    let line = line_is entries c.placed-placed-items.result.now at d c.as_slice.result.now p objects inside c.placed-item.is path in (
      ap (λ (b : Bounded (List ℕ)). b.capacity) filled ∙ c.loop-index.invariant.0,
      each_more show_line entries at entry within (get_or_default entries at d entry within) c.loop-index.invariant.1
          (PutsText-as (show_line entry) line c.in_ok-put_line.ensures),
    )
