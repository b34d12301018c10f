use Rattle.std.proofs.Common.{refl}
use Rattle.aml_data.proofs.WrittenLayers.{within-Int, within-Ones, within-Revision, within-Text, within-Buffer, within-Path, package_passes, var_package_passes}
use Rattle.aml_data.proofs.writable.+writable.Goals as goal

pub is_within-returns-in-Int : goal.is_within-returns-in-Int
is_within-returns-in-Int t c = rw (c.in-Int.is, within-Int c.args.depth c.in-Int.number) (λ _. c.is_number.ensures.bound, λ _. c.is_number.ensures.value)

pub is_within-returns-in-Ones : goal.is_within-returns-in-Ones
is_within-returns-in-Ones t c = rw (c.in-Ones.is, within-Ones c.args.depth) (λ _. tt, λ _. refl)

pub is_within-returns-in-Revision : goal.is_within-returns-in-Revision
is_within-returns-in-Revision t c = rw (c.in-Revision.is, within-Revision c.args.depth) (λ _. tt, λ _. refl)

pub is_within-returns-in-Text : goal.is_within-returns-in-Text
is_within-returns-in-Text t c = rw (c.in-Text.is, within-Text c.args.depth c.in-Text.text, ← c.as_slice.ensures) c.is_ascii.ensures

pub is_within-returns-in-Buffer : goal.is_within-returns-in-Buffer
is_within-returns-in-Buffer t c =
    rw (c.in-Buffer.is, within-Buffer c.args.depth c.in-Buffer.buffer.size c.in-Buffer.buffer.bytes, ← c.get.ensures)
    (λ _. c.is_number-in-Buffer.ensures.bound, λ _. c.is_number-in-Buffer.ensures.value)

pub is_within-returns-in-Package : goal.is_within-returns-in-Package
is_within-returns-in-Package t c =
    package_passes c.args.depth c.in-Package.count c.in-Package.elements c.args.value.now c.are_elements.result c.in-Package.is c.count_of.ensures.bound
    (rw (c.as_slice-in-Package.ensures, c.count_of.ensures.value) at c.are_elements.ensures)

pub is_within-returns-in-VarPackage : goal.is_within-returns-in-VarPackage
is_within-returns-in-VarPackage t c =
    var_package_passes c.args.depth c.in-VarPackage.counted.count c.in-VarPackage.counted.elements c.args.value.now c.are_elements-in-VarPackage.result c.in-VarPackage.is
    (rw (c.as_slice-in-VarPackage.ensures, c.get-counted.ensures) at c.are_elements-in-VarPackage.ensures)

pub is_within-returns-in-Path : goal.is_within-returns-in-Path
is_within-returns-in-Path t c = rw (c.in-Path.is, within-Path c.args.depth c.in-Path.path, ← c.get-in-Path.ensures) c.is_writable_path.ensures
