use Rattle.std.proofs.Common.{◌<◌, length, arith}
use Rattle.aml_data.proofs.WrittenLayers.{package_parts, var_package_parts, path_parts}
use Rattle.aml_data.proofs.WrittenLengths.{counted_on, counted_out}
use Rattle.aml_data.proofs.lengths.+lengths.Goals as goal

pub elements_len-returns-then-total-ge-TOO_LONG : goal.elements_len-returns-then-total-ge-TOO_LONG
elements_len-returns-then-total-ge-TOO_LONG t c =
    let at = c.loop-element.element-index in
    let inside : at < length c.args.elements.now = omega arith in
    counted_out c.args.elements.now at c.loop-element.total c.object_len-total.result c.element-item.result inside c.element-item.is
    c.loop-element.invariant.so_far c.loop-element.invariant.short c.object_len-total.ensures c.if-total-ge-TOO_LONG.true

pub elements_len-loop-element-preserved : goal.elements_len-loop-element-preserved
elements_len-loop-element-preserved t c =
    let at = c.loop-element.element-index in
    let inside : at < length c.args.elements.now = omega arith in
    record {
      so_far = counted_on c.args.elements.now at c.loop-element.total c.object_len-total.result c.element-item.result inside c.element-item.is
          c.loop-element.invariant.so_far c.loop-element.invariant.short c.object_len-total.ensures c.if-total-ge-TOO_LONG.false;
      short = c.if-total-ge-TOO_LONG.false;
    }

pub any_len-overflow_sub-depth : goal.any_len-overflow_sub-depth
any_len-overflow_sub-depth t c =
    let parts = package_parts c.args.depth c.in-Package.count c.in-Package.elements c.args.value.now c.in-Package.is c.requires in omega arith

pub any_len-elements_len-requires : goal.any_len-elements_len-requires
any_len-elements_len-requires t c =
    let parts = package_parts c.args.depth c.in-Package.count c.in-Package.elements c.args.value.now c.in-Package.is c.requires in
    (omega arith, rw c.as_slice-in-Package.ensures parts.inner)

pub any_len-overflow_sub-depth-in-VarPackage : goal.any_len-overflow_sub-depth-in-VarPackage
any_len-overflow_sub-depth-in-VarPackage t c =
    let parts = var_package_parts c.args.depth c.in-VarPackage.counted.count c.in-VarPackage.counted.elements c.args.value.now c.in-VarPackage.is c.requires in omega arith

pub any_len-elements_len-requires-in-VarPackage : goal.any_len-elements_len-requires-in-VarPackage
any_len-elements_len-requires-in-VarPackage t c =
    let parts = var_package_parts c.args.depth c.in-VarPackage.counted.count c.in-VarPackage.counted.elements c.args.value.now c.in-VarPackage.is c.requires in
    (omega arith, rw (c.as_slice-elements.ensures, c.get-counted.ensures) parts.inner)

pub any_len-name_len-requires : goal.any_len-name_len-requires
any_len-name_len-requires t c = rw c.get-in-Path.ensures ((path_parts c.args.depth c.in-Path.path c.args.value.now c.in-Path.is c.requires).0)
