use Rattle.std.proofs.Common.{◌≡◌, ◌<◌, ◌++◌, List, ℕ, suc, length, get_or, drop, refl, ap, sym, ◌∙◌, add-one, arith}
use Rattle.std.specs.List.{flat_map}
use Rattle.std.proofs.lemmas.List.{get_or_default}
use Rattle.pw_base.specs.Room.{Bounded}
use Rattle.acpi_space.specs.declared.object.Placed.{Placed}
use Rattle.acpi_space.specs.Things.{Thing, thing}
use Rattle.acpi_space.specs.Places.{Place}
use Rattle.acpi_space.specs.Namespace.{Entry}
use Rattle.acpi_space.specs.Standing.{AreObjects}
use Rattle.serde_json.specs.Written.{compact_text}
use Rattle.pw_text.proofs.Putting.{PutsText-as, PutsText-then}
use Rattle.pw_show.specs.Json.{entry_text, object_json}
use Rattle.pw_show.specs.inner.Putting.{comma_before}
use Rattle.pw_show.proofs.Joining.{behind_comma, joined-in_parts, joined-take-suc}
use Rattle.pw_show.proofs.Putting.{fault_is, puts_as, puts_stop, puts_then}
use Rattle.pw_show.proofs.json_printing.put_objects.Goals as goal

-- an entry of the list, and that the text of a path and an object is its text
record Here (entries : List Entry) (at : ℕ) (path : Place) (object : Thing) : Type 0 where
  within : at < length entries
  entry : Entry
  is : entry ≡ get_or entries at entry
  text : compact_text (object_json path object) ≡ entry_text entry

here : (entries : List Entry) (placed : List Placed) (at : ℕ) (path : Place) (p : Placed) → AreObjects entries placed → at < length placed
    → p ≡ get_or placed at p → ((d : Entry) → path ≡ (get_or entries at d).path) → Here entries at path (thing p.object)
here entries placed at path p objects inside is filled =
    let within : at < length entries = omega (arith, objects.count) in
    let d : Entry = record { path = path; object = thing p.object; width = p.width } in
    let object : thing p.object ≡ (get_or entries at d).object =
    ap (λ (q : Placed). thing q.object) is ∙ (objects.objects at d p inside).0 in
    let text : compact_text (object_json path (thing p.object)) ≡ entry_text (get_or entries at d) =
    ap (λ (x : Place). compact_text (object_json x (thing p.object))) (filled d)
    ∙ ap (λ (x : Thing). compact_text (object_json (get_or entries at d).path x)) object in
    record { within = within; entry = get_or entries at d; is = get_or_default entries at d (get_or entries at d) within; text = text }

pub fill_path-requires-clause-room : goal.fill_path-requires-clause-room
fill_path-requires-clause-room g c = λ d.
    let at = c.loop-index.index in
    let objects = c.placed-placed-items.ensures.objects in
    let within : at < length c.args.space.now = omega (arith, objects.count) in
    rw c.loop-index.invariant.0 (c.requires at d within)

pub returns-in_err-put_json_object : goal.returns-in_err-put_json_object
returns-in_err-put_json_object g c =
    let entries = c.args.space.now in
    let at = c.loop-index.index in
    let h = here entries c.placed-placed-items.result.now at c.as_slice.result.now c.placed-item.result
    c.placed-placed-items.ensures.objects (omega arith) c.placed-item.is
    (λ d. c.as_slice.ensures ∙ ap (λ (b : Bounded (List ℕ)). b.elements) (c.fill_path.ensures d)) in
    let fault = fault_is c.from_residual.result _ c.from_residual.ensures.1 in
    let now = puts_as _ (ap (λ (l : List ℕ). comma_before at ++ l) h.text) (sym fault) c.in_err-put_json_object.ensures in
    puts_as _ (joined-in_parts entry_text at entries h.entry h.within h.is) refl
    (puts_stop (flat_map (behind_comma entry_text) (drop (suc at) entries)) c.from_residual.ensures.0
    (puts_then c.loop-index.invariant.1 now))

pub loop-index-preserved : goal.loop-index-preserved
loop-index-preserved g c =
    let entries = c.args.space.now in
    let at = c.loop-index.index in
    let h = here entries c.placed-placed-items.result.now at c.as_slice.result.now c.placed-item.result
    c.placed-placed-items.ensures.objects (omega arith) c.placed-item.is
    (λ d. c.as_slice.ensures ∙ ap (λ (b : Bounded (List ℕ)). b.elements) (c.fill_path.ensures d)) in
    let now = PutsText-as _ (ap (λ (l : List ℕ). comma_before at ++ l) h.text) (c.in_ok-put_json_object.ensures.whole refl) in (
      ap (λ (b : Bounded (List ℕ)). b.capacity) (c.fill_path.ensures h.entry) ∙ c.loop-index.invariant.0,
      rw (add-one, joined-take-suc entry_text at entries h.entry h.within h.is) (PutsText-then c.loop-index.invariant.1 now),
    )
