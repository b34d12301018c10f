use Rattle.std.proofs.Common.{◌++◌, codes, refl, sym}
use Rattle.serde_json.specs.Written.{compact_text}
use Rattle.pw_text.proofs.Putting.{PutsText-as, PutsText-then}
use Rattle.pw_show.specs.Json.{told}
use Rattle.pw_show.specs.inner.Putting.{comma_before}
use Rattle.pw_show.proofs.Compact.{valued_in_pieces}
use Rattle.pw_show.proofs.Putting.{fault_is, puts_as, puts_done, puts_failed, puts_stop, puts_then}
use Rattle.pw_show.proofs.json_objects.put_valued.Goals as goal

pub returns-in_err-put_head : goal.returns-in_err-put_head
returns-in_err-put_head g c =
    let x = told c.args.value.now in
    puts_as _ (valued_in_pieces (comma_before c.args.index) x.kind c.args.path.now x.value) refl
    (puts_stop (compact_text x.value ++ codes "}") c.from_residual.ensures.0
    (puts_failed (fault_is c.from_residual.result _ c.from_residual.ensures.1) (rw c.kind_of.ensures at c.in_err-put_head.ensures)))

pub returns-in_err-put_told : goal.returns-in_err-put_told
returns-in_err-put_told g c =
    let x = told c.args.value.now in
    let fault = fault_is c.from_residual-in_err-put_told.result _ c.from_residual-in_err-put_told.ensures.1 in
    puts_as _ (valued_in_pieces (comma_before c.args.index) x.kind c.args.path.now x.value) refl
    (puts_then (rw c.kind_of.ensures at c.in_ok-put_head.ensures) (puts_stop (codes "}") c.from_residual-in_err-put_told.ensures.0
    (puts_as _ refl (sym fault) c.in_err-put_told.ensures)))

pub returns-in_err-put : goal.returns-in_err-put
returns-in_err-put g c =
    let x = told c.args.value.now in
    puts_as _ (valued_in_pieces (comma_before c.args.index) x.kind c.args.path.now x.value) refl
    (puts_then (rw c.kind_of.ensures at c.in_ok-put_head.ensures) (puts_then (c.in_ok-put_told.ensures.whole refl)
    (puts_failed (fault_is c.from_residual-in_err-put.result _ c.from_residual-in_err-put.ensures.1) c.in_err-put.ensures)))

pub returns : goal.returns
returns g c =
    let x = told c.args.value.now in
    puts_done _ (PutsText-as _ (valued_in_pieces (comma_before c.args.index) x.kind c.args.path.now x.value)
    (PutsText-then (rw c.kind_of.ensures at c.in_ok-put_head.ensures) (PutsText-then (c.in_ok-put_told.ensures.whole refl) c.in_ok-put.ensures)))
