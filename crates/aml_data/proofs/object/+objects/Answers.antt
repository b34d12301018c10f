use Rattle.std.proofs.Common.{◌<◌, ◌-◌, suc, length, arith, rules}
use Rattle.std.proofs.lemmas.Result.{err_from_is_err_and}
use Rattle.aml_data.specs.declared.data.Data.TheVariants.{Package}
use Rattle.aml_data.specs.Objects.{VarPackage}
use Rattle.aml_data.specs.inner.Reading.{byte_at, constant_at}
use Rattle.aml_data.specs.inner.ReadingObjects.{elements_at, object_within}
use Rattle.aml_data.proofs.ElementLoop.{elements_go_on, pack_ends}
use Rattle.aml_data.proofs.object.+objects.Goals as goal

pub elements_of-loop-rest-preserved : goal.elements_of-loop-rest-preserved
elements_of-loop-rest-preserved t c =
    let read = object_within c.args.depth in
    let all = elements_at read c.args.count c.args.end c.args.bytes.now in
    let v = c.in_ok-element.element in
    let after = c.in_ok-element.after.now in
    let some : 0 < c.loop-rest.left = omega arith in
    let long : 0 < length c.loop-rest.rest.now = search rules in
    record {
      so_far = rw c.in_ok-push.ensures.items (elements_go_on read c.loop-rest.elements.items c.args.end c.loop-rest.left c.loop-rest.rest.now after v all some long c.in_ok-element.ensures.value
          c.loop-rest.invariant.so_far);
      within = let h = c.in_ok-element.ensures.shorter in let w = c.loop-rest.invariant.within in omega arith;
    }

pub package_of-returns-in_err-elements-clause-value : goal.package_of-returns-in_err-elements-clause-value
package_of-returns-in_err-elements-clause-value t c =
    let p = err_from_is_err_and c.from_residual-in_err-elements.result c.from_residual-in_err-elements.ensures.1 in
    let bytes = c.args.bytes.now in
    let ends = pack_ends byte_at Package c.args.depth (c.args.end - suc (length bytes)) c.args.end c.in_ok-count.count bytes c.in_ok-count.after.now c.in_ok-count.content.now
    c.in_err-elements.field-0.0 in
    rw (p.1, p.2) (λ other. ends (omega arith) c.in_ok-count.ensures.value (rw c.from.ensures at (c.in_err-elements.ensures other)))

pub var_package_of-returns-in_err-elements-clause-value : goal.var_package_of-returns-in_err-elements-clause-value
var_package_of-returns-in_err-elements-clause-value t c =
    let p = err_from_is_err_and c.from_residual-in_err-elements.result c.from_residual-in_err-elements.ensures.1 in
    let bytes = c.args.bytes.now in
    let ends = pack_ends constant_at (λ n elements. VarPackage n elements) c.args.depth (c.args.end - suc (length bytes)) c.args.end c.in_ok-count.count bytes c.in_ok-count.after.now
    c.in_ok-count.content.now c.in_err-elements.field-0.0 in
    rw (p.1, p.2) (λ other. ends (omega arith) c.in_ok-count.ensures.value (c.in_err-elements.ensures other))
