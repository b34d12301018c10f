use Rattle.std.proofs.Common.{◌≡◌, ◌<◌, List, codes, take, length, map, sym, ap, arith}
use Rattle.std.proofs.Math.Seq.{take-length}
use Rattle.std.specs.List.{flat_map}
use Rattle.aml_data.specs.declared.data.Data.{Data}
use Rattle.pw_text.proofs.Putting.{PutsText-as, PutsText-stop, PutsText-then, stop_at_first}
use Rattle.pw_show.specs.Values.{behind, separated, value_text}
use Rattle.pw_show.proofs.Chains.{each_more, each_stop, separated-first}
use Rattle.pw_show.proofs.values.+values.Goals as goal

pub put_behind_comma-returns-in_err-put : goal.put_behind_comma-returns-in_err-put
put_behind_comma-returns-in_err-put g t c = PutsText-stop (value_text c.args.element.now) c.from_residual.result c.from_residual.ensures.0 c.in_err-put.ensures

pub put_behind_comma-returns : goal.put_behind_comma-returns
put_behind_comma-returns g t c = PutsText-then c.in_ok-put.ensures c.put_value.ensures

pub put_package-returns-in_err-put_head : goal.put_package-returns-in_err-put_head
put_package-returns-in_err-put_head g t c =
    stop_at_first (separated (codes ", ") (map value_text c.args.elements.now)) (codes "}") c.from_residual.result c.from_residual.ensures.0 c.in_err-put_head.ensures

pub put_package-returns-in_err-put_elements : goal.put_package-returns-in_err-put_elements
put_package-returns-in_err-put_elements g t c =
    PutsText-stop (codes "}") c.from_residual-in_err-put_elements.result c.from_residual-in_err-put_elements.ensures.0 (PutsText-then c.in_ok-put_head.ensures c.in_err-put_elements.ensures)

pub put_package-returns : goal.put_package-returns
put_package-returns g t c = PutsText-then (PutsText-then c.in_ok-put_head.ensures c.in_ok-put_elements.ensures) c.put.ensures

pub put_elements-returns-in_err-put_value : goal.put_elements-returns-in_err-put_value
put_elements-returns-in_err-put_value g t c =
    let first = c.in-Some.first.now in
    let rest = c.in-Some.rest.now in
    PutsText-as (separated (codes ", ") (map value_text c.args.elements.now)) (sym (separated-first (codes ", ") value_text c.args.elements.now first rest c.in-Some.ensures.cases.0))
    (PutsText-stop (flat_map (λ (v : Data). behind (codes ", ") (value_text v)) rest) c.from_residual.result c.from_residual.ensures.0 c.in_err-put_value.ensures)

pub put_elements-returns-in_err-put_behind_comma : goal.put_elements-returns-in_err-put_behind_comma
put_elements-returns-in_err-put_behind_comma g t c =
    let first = c.in-Some.first.now in
    let rest = c.in-Some.rest.now in
    let at = c.loop-element.element-index in
    let inside : at < length rest = omega arith in
    PutsText-as (separated (codes ", ") (map value_text c.args.elements.now)) (sym (separated-first (codes ", ") value_text c.args.elements.now first rest c.in-Some.ensures.cases.0))
    (PutsText-then c.in_ok-put_value.ensures (each_stop (λ (v : Data). behind (codes ", ") (value_text v)) rest at c.element-item.result
    c.from_residual-in_err-put_behind_comma.result inside c.element-item.is c.from_residual-in_err-put_behind_comma.ensures.0
    c.loop-element.invariant c.in_err-put_behind_comma.ensures))

pub put_elements-loop-element-preserved : goal.put_elements-loop-element-preserved
put_elements-loop-element-preserved g t c =
    let rest = c.in-Some.rest.now in
    let at = c.loop-element.element-index in
    let inside : at < length rest = omega arith in
    each_more (λ (v : Data). behind (codes ", ") (value_text v)) rest at c.element-item.result inside c.element-item.is c.loop-element.invariant c.in_ok-put_behind_comma.ensures

pub put_elements-returns : goal.put_elements-returns
put_elements-returns g t c =
    let first = c.in-Some.first.now in
    let rest = c.in-Some.rest.now in
    let at_end : c.loop-element.element-index ≡ length rest = omega arith in
    let whole : take c.loop-element.element-index rest ≡ rest = rw at_end (take-length rest) in
    PutsText-as (separated (codes ", ") (map value_text c.args.elements.now)) (sym (separated-first (codes ", ") value_text c.args.elements.now first rest c.in-Some.ensures.cases.0))
    (PutsText-then c.in_ok-put_value.ensures (PutsText-as _ (ap (λ (shown : List Data). flat_map (λ (v : Data). behind (codes ", ") (value_text v)) shown) whole) c.loop-element.invariant))
