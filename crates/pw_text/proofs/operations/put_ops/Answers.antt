use Rattle.std.proofs.Common.{◌∷◌, ◌++◌, [], ◌+◌, ◌<◌, drop, length, take, take_all, ap, ◌≤◌, arith}
use Rattle.std.specs.List.{flat_map}
use Rattle.pw_text.proofs.Putting.{PutsText-as, PutsText-stop, PutsText-then}
use Rattle.acpi_values.specs.declared.operation.Op.{Op}
use Rattle.pw_text.proofs.operations.put_ops.Goals as goal
use Rattle.pw_text.specs.HistoryText.{op_line_by}
use Rattle.pw_text.specs.Paths.{text_at}
use Rattle.pw_text.proofs.Spacing.{in_parts, one_more}

pub returns-in_err-put_op_line : goal.returns-in_err-put_op_line
returns-in_err-put_op_line g c =
    let all = c.args.ops.now in
    let at = c.loop-op.op-index in
    let inside : at < length all = omega arith in
    let text = λ (o : Op). op_line_by (text_at c.args.paths.now) o ++ (10 ∷ []) in
    PutsText-as (flat_map text all) (in_parts text at all _ inside)
    (PutsText-stop (flat_map text (drop (at + 1) all)) c.from_residual.result c.from_residual.ensures.0
    (PutsText-then c.loop-op.invariant c.in_err-put_op_line.ensures))

pub loop-op-preserved : goal.loop-op-preserved
loop-op-preserved g c =
    let all = c.args.ops.now in
    let at = c.loop-op.op-index in
    let inside : at < length all = omega arith in
    let text = λ (o : Op). op_line_by (text_at c.args.paths.now) o ++ (10 ∷ []) in
    PutsText-as (flat_map text (take (at + 1) all)) (one_more text at all _ inside)
    (PutsText-then c.loop-op.invariant c.in_ok-put_op_line.ensures)

pub returns : goal.returns
returns g c =
    let all = c.args.ops.now in
    let at = c.loop-op.op-index in
    let past : length all ≤ at = omega arith in
    let text = λ (o : Op). op_line_by (text_at c.args.paths.now) o ++ (10 ∷ []) in
    PutsText-as (flat_map text all) (ap (flat_map text) (take_all at all past)) c.loop-op.invariant
