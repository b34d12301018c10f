use Rattle.std.proofs.Common.{◌<◌, ◌++◌, suc, codes, drop, length, refl, sym, add-one, arith}
use Rattle.std.specs.List.{flat_map}
use Rattle.aml_data.specs.declared.data.Data.{Data}
use Rattle.serde_json.specs.Written.{compact_text}
use Rattle.pw_text.proofs.Putting.{PutsText-as, PutsText-then}
use Rattle.pw_show.specs.Json.{told}
use Rattle.pw_show.specs.inner.Pieces.{element_text}
use Rattle.pw_show.proofs.Compact.{element_in_pieces, package_in_pieces}
use Rattle.pw_show.proofs.Joining.{behind_comma, joined, joined-in_parts, joined-take-suc}
use Rattle.pw_show.specs.inner.Putting.{comma_before}
use Rattle.pw_show.proofs.Putting.{fault_is, puts_as, puts_done, puts_failed, puts_stop, puts_then}
use Rattle.pw_show.proofs.json_values.+values.Goals as goal

-- # A package

pub put_package-returns-in_err-put_count : goal.put_package-returns-in_err-put_count
put_package-returns-in_err-put_count g t c =
    let elements = c.args.elements.now in
    puts_as _ (package_in_pieces c.args.count elements) refl
    (puts_stop (joined (λ (v : Data). element_text (told v)) elements ++ codes "]}") c.from_residual.ensures.0
    (puts_failed (fault_is c.from_residual.result _ c.from_residual.ensures.1) c.in_err-put_count.ensures))

pub put_package-returns-in_err-put_elements : goal.put_package-returns-in_err-put_elements
put_package-returns-in_err-put_elements g t c =
    let fault = fault_is c.from_residual-in_err-put_elements.result _ c.from_residual-in_err-put_elements.ensures.1 in
    puts_as _ (package_in_pieces c.args.count c.args.elements.now) refl
    (puts_then c.in_ok-put_count.ensures (puts_stop (codes "]}") c.from_residual-in_err-put_elements.ensures.0
    (puts_as _ refl (sym fault) c.in_err-put_elements.ensures)))

pub put_package-returns-in_err-put : goal.put_package-returns-in_err-put
put_package-returns-in_err-put g t c =
    puts_as _ (package_in_pieces c.args.count c.args.elements.now) refl
    (puts_then c.in_ok-put_count.ensures (puts_then (c.in_ok-put_elements.ensures.whole refl)
    (puts_failed (fault_is c.from_residual-in_err-put.result _ c.from_residual-in_err-put.ensures.1) c.in_err-put.ensures)))

pub put_package-returns : goal.put_package-returns
put_package-returns g t c =
    puts_done _ (PutsText-as _ (package_in_pieces c.args.count c.args.elements.now)
    (PutsText-then c.in_ok-put_count.ensures (PutsText-then (c.in_ok-put_elements.ensures.whole refl) c.in_ok-put.ensures)))

-- # Its elements

pub put_elements-returns-in_err-put_element : goal.put_elements-returns-in_err-put_element
put_elements-returns-in_err-put_element g t c =
    let elements = c.args.elements.now in
    let f = λ (v : Data). element_text (told v) in
    let at = c.loop-index.index in
    let inside : at < length elements = omega arith in
    let fault = fault_is c.from_residual.result _ c.from_residual.ensures.1 in
    puts_as _ (joined-in_parts f at elements c.index-elements-index.result inside c.index-elements-index.is) refl
    (puts_stop (flat_map (behind_comma f) (drop (suc at) elements)) c.from_residual.ensures.0
    (puts_then c.loop-index.invariant (puts_as _ refl (sym fault) c.in_err-put_element.ensures)))

pub put_elements-loop-index-preserved : goal.put_elements-loop-index-preserved
put_elements-loop-index-preserved g t c =
    let elements = c.args.elements.now in
    let f = λ (v : Data). element_text (told v) in
    let at = c.loop-index.index in
    let inside : at < length elements = omega arith in
    rw (add-one, joined-take-suc f at elements c.index-elements-index.result inside c.index-elements-index.is)
    (PutsText-then c.loop-index.invariant (c.in_ok-put_element.ensures.whole refl))

-- # An element

pub put_element-returns-in_err-put_front : goal.put_element-returns-in_err-put_front
put_element-returns-in_err-put_front g t c =
    let x = told c.args.element.now in
    puts_as _ (element_in_pieces (comma_before c.args.index) x) refl
    (puts_stop (compact_text x.value ++ codes "}") c.from_residual.ensures.0
    (puts_failed (fault_is c.from_residual.result _ c.from_residual.ensures.1) (rw c.kind_of.ensures at c.in_err-put_front.ensures)))

pub put_element-returns-in_err-put_told : goal.put_element-returns-in_err-put_told
put_element-returns-in_err-put_told g t c =
    let fault = fault_is c.from_residual-in_err-put_told.result _ c.from_residual-in_err-put_told.ensures.1 in
    puts_as _ (element_in_pieces (comma_before c.args.index) (told c.args.element.now)) refl
    (puts_then (rw c.kind_of.ensures at c.in_ok-put_front.ensures) (puts_stop (codes "}") c.from_residual-in_err-put_told.ensures.0
    (puts_as _ refl (sym fault) c.in_err-put_told.ensures)))

pub put_element-returns-in_err-put : goal.put_element-returns-in_err-put
put_element-returns-in_err-put g t c =
    puts_as _ (element_in_pieces (comma_before c.args.index) (told c.args.element.now)) refl
    (puts_then (rw c.kind_of.ensures at c.in_ok-put_front.ensures) (puts_then (c.in_ok-put_told.ensures.whole refl)
    (puts_failed (fault_is c.from_residual-in_err-put.result _ c.from_residual-in_err-put.ensures.1) c.in_err-put.ensures)))

pub put_element-returns : goal.put_element-returns
put_element-returns g t c =
    puts_done _ (PutsText-as _ (element_in_pieces (comma_before c.args.index) (told c.args.element.now))
    (PutsText-then (rw c.kind_of.ensures at c.in_ok-put_front.ensures) (PutsText-then (c.in_ok-put_told.ensures.whole refl) c.in_ok-put.ensures)))
