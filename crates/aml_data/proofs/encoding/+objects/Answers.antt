use Rattle.std.proofs.Common.{◌+◌, ◌-◌, ◌≤◌, ◌<◌, ◌^◌, [], ◌∷◌, map, length, length-append, ap, sym, subst, ◌∙◌, arith}
use Rattle.aml_data.specs.declared.data.Data.{Data}
use Rattle.aml_data.specs.declared.data.Data.TheVariants.{Package}
use Rattle.aml_data.specs.Segment.{joined}
use Rattle.aml_data.specs.Written.{written, written_constant, IsWritableWithin}
use Rattle.aml_data.proofs.Room.{Fills-sized, object_fits, package_room, var_package_room, told}
use Rattle.aml_data.proofs.WrittenLayers.{package_parts, var_package_parts, path_parts, written-Package, written-VarPackage}
use Rattle.aml_data.proofs.WrittenLengths.{all_at, one_le_all, length-Text}
use Rattle.aml_data.proofs.encoding.+objects.Goals as goal

-- ---- elements

pub fill_elements-fill_object-start-requires : goal.fill_elements-fill_object-start-requires
fill_elements-fill_object-start-requires t c =
    let elements = c.args.elements.now in
    let left = c.loop-left.left in
    let element = c.index-elements-left.result in
    let filled = c.loop-left.invariant.filled in
    let inside = c.loop-left.invariant.inside in
    let within = filled.within in
    let reach = filled.reach in
    let shorter = one_le_all written elements (left - 1) element (omega arith) c.index-elements-left.is in (
      omega arith,
      (
        all_at (IsWritableWithin c.args.depth) elements (left - 1) element (omega arith) c.index-elements-left.is c.requires.nested,
        (omega arith, (object_fits elements left c.loop-left.start c.args.end element c.loop-left-test.true inside c.index-elements-left.is reach c.requires.fits, omega arith)),
      ),
    )

-- ---- an object

pub fill_object-fill_text-requires-clause-fits : goal.fill_object-fill_text-requires-clause-fits
fill_object-fill_text-requires-clause-fits t c =
    rw (c.as_slice.ensures, ← length-Text c.in-Text.text, ← c.in-Text.is) c.requires.fits

pub fill_object-overflow_sub-depth : goal.fill_object-overflow_sub-depth
fill_object-overflow_sub-depth t c =
    let parts = package_parts c.args.depth c.in-Package.count c.in-Package.elements c.args.value.now c.in-Package.is c.requires.nested in omega arith

pub fill_object-fill_package-requires : goal.fill_object-fill_package-requires
fill_object-fill_package-requires t c =
    let parts = package_parts c.args.depth c.in-Package.count c.in-Package.elements c.args.value.now c.in-Package.is c.requires.nested in
    let is = c.in-Package.is ∙ ap (Package c.in-Package.count) (sym c.as_slice-in-Package.ensures) in (
      omega arith,
      (
        rw c.as_slice-in-Package.ensures parts.inner,
        (
          subst (λ (v : Data). length (written v) < 2 ^ 28) is c.requires.short,
          (subst (λ (v : Data). length (written v) ≤ c.args.end) is c.requires.fits, c.requires.within),
        ),
      ),
    )

pub fill_object-overflow_sub-depth-in-VarPackage : goal.fill_object-overflow_sub-depth-in-VarPackage
fill_object-overflow_sub-depth-in-VarPackage t c =
    let parts = var_package_parts c.args.depth c.in-VarPackage.counted.count c.in-VarPackage.counted.elements c.args.value.now c.in-VarPackage.is c.requires.nested in omega arith

pub fill_object-fill_var_package-requires : goal.fill_object-fill_var_package-requires
fill_object-fill_var_package-requires t c =
    let counted = c.in-VarPackage.counted in
    let parts = var_package_parts c.args.depth counted.count counted.elements c.args.value.now c.in-VarPackage.is c.requires.nested in
    rw c.get-in-VarPackage.ensures (
      omega arith,
      (
        parts.inner,
        (
          subst (λ (v : Data). length (written v) < 2 ^ 28) c.in-VarPackage.is c.requires.short,
          (subst (λ (v : Data). length (written v) ≤ c.args.end) c.in-VarPackage.is c.requires.fits, c.requires.within),
        ),
      ),
    )

pub fill_object-fill_name-requires-clause-few : goal.fill_object-fill_name-requires-clause-few
fill_object-fill_name-requires-clause-few t c = rw c.get-in-Path.ensures ((path_parts c.args.depth c.in-Path.path c.args.value.now c.in-Path.is c.requires.nested).0.few)

-- ---- packages

pub fill_package-fill_elements-body-requires : goal.fill_package-fill_elements-body-requires
fill_package-fill_elements-body-requires t c =
    let room = package_room c.args.count c.args.elements.now c.args.end c.requires.short c.requires.fits in
    let fits = room.fits in
    let head = room.head in
    (omega arith, (c.requires.nested, (omega arith, (omega arith, c.requires.within))))

pub fill_package-fill-content-requires-clause-fits : goal.fill_package-fill-content-requires-clause-fits
fill_package-fill-content-requires-clause-fits t c =
    let room = package_room c.args.count c.args.elements.now c.args.end c.requires.short c.requires.fits in
    let head = room.head in
    let body = c.fill_elements-body.ensures.reach in
    omega arith

pub fill_package-fill_head-requires-clause-short : goal.fill_package-fill_head-requires-clause-short
fill_package-fill_head-requires-clause-short t c =
    let n = 1 + length (joined (map written c.args.elements.now)) in
    let room = package_room c.args.count c.args.elements.now c.args.end c.requires.short c.requires.fits in
    let body = c.fill_elements-body.ensures.reach in
    let count = c.fill-content.ensures.reach in
    (told n c.fill-content.result c.args.end room (omega arith)).fits

pub fill_package-fill_head-requires-clause-fits : goal.fill_package-fill_head-requires-clause-fits
fill_package-fill_head-requires-clause-fits t c =
    let n = 1 + length (joined (map written c.args.elements.now)) in
    let room = package_room c.args.count c.args.elements.now c.args.end c.requires.short c.requires.fits in
    let body = c.fill_elements-body.ensures.reach in
    let count = c.fill-content.ensures.reach in
    (told n c.fill-content.result c.args.end room (omega arith)).head

pub fill_package-returns : goal.fill_package-returns
fill_package-returns t c =
    let elements = joined (map written c.args.elements.now) in
    let body = c.fill_elements-body.ensures.reach in
    let count = c.fill-content.ensures.reach in
    rw (written-Package c.args.count c.args.elements.now)
    (Fills-sized c.args.room.now c.fill_elements-body.new.room c.fill-content.new.room c.fill_head.new.room c.fill_head.result c.fill-content.result c.fill_elements-body.result c.args.end 18
    (c.args.end - c.fill-content.result) (c.args.count ∷ []) elements (omega (arith, length-append (c.args.count ∷ []) elements)) c.fill_elements-body.ensures c.fill-content.ensures
    c.fill_head.ensures)

pub fill_var_package-fill_elements-body-requires : goal.fill_var_package-fill_elements-body-requires
fill_var_package-fill_elements-body-requires t c =
    let counted = c.args.counted.now in
    let room = var_package_room counted.count counted.elements c.args.end c.requires.short c.requires.fits in
    let fits = room.fits in
    let head = room.head in
    rw c.as_slice.ensures (omega arith, (c.requires.nested, (omega arith, (omega arith, c.requires.within))))

pub fill_var_package-fill_constant-content-requires-clause-fits : goal.fill_var_package-fill_constant-content-requires-clause-fits
fill_var_package-fill_constant-content-requires-clause-fits t c =
    let counted = c.args.counted.now in
    let room = var_package_room counted.count counted.elements c.args.end c.requires.short c.requires.fits in
    let head = room.head in
    let body = (rw c.as_slice.ensures at c.fill_elements-body.ensures).reach in
    omega arith

pub fill_var_package-fill_head-requires-clause-short : goal.fill_var_package-fill_head-requires-clause-short
fill_var_package-fill_head-requires-clause-short t c =
    let counted = c.args.counted.now in
    let n = length (written_constant counted.count) + length (joined (map written counted.elements)) in
    let room = var_package_room counted.count counted.elements c.args.end c.requires.short c.requires.fits in
    let body = (rw c.as_slice.ensures at c.fill_elements-body.ensures).reach in
    let count = c.fill_constant-content.ensures.reach in
    (told n c.fill_constant-content.result c.args.end room (omega arith)).fits

pub fill_var_package-fill_head-requires-clause-fits : goal.fill_var_package-fill_head-requires-clause-fits
fill_var_package-fill_head-requires-clause-fits t c =
    let counted = c.args.counted.now in
    let n = length (written_constant counted.count) + length (joined (map written counted.elements)) in
    let room = var_package_room counted.count counted.elements c.args.end c.requires.short c.requires.fits in
    let body = (rw c.as_slice.ensures at c.fill_elements-body.ensures).reach in
    let count = c.fill_constant-content.ensures.reach in
    (told n c.fill_constant-content.result c.args.end room (omega arith)).head

pub fill_var_package-returns : goal.fill_var_package-returns
fill_var_package-returns t c =
    let counted = c.args.counted.now in
    let head = written_constant counted.count in
    let elements = joined (map written counted.elements) in
    let filled = rw c.as_slice.ensures at c.fill_elements-body.ensures in
    let body = filled.reach in
    let count = c.fill_constant-content.ensures.reach in
    rw (written-VarPackage counted.count counted.elements)
    (Fills-sized c.args.room.now c.fill_elements-body.new.room c.fill_constant-content.new.room c.fill_head.new.room c.fill_head.result c.fill_constant-content.result c.fill_elements-body.result
    c.args.end 19 (c.args.end - c.fill_constant-content.result) head elements (omega (arith, length-append head elements)) filled c.fill_constant-content.ensures c.fill_head.ensures)
