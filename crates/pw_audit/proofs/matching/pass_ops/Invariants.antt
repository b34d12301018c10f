use Rattle.std.proofs.Common.{◌≡◌, ◌≤◌, ◌+◌, ◌++◌, length, map, take}
use Rattle.pw_text.specs.Lines.{text_of}
use Rattle.pw_text.specs.HistoryText.{op_line_by}
use Rattle.pw_text.specs.Paths.{text_at}
use Rattle.pw_audit.proofs.matching.pass_ops.Given as goal

abbrev pub invariant-loop-op : goal.invariant-loop-op
invariant-loop-op l = record {
  passed : l.passed ≡ l.before + l.op-index;
  text : l.left ≡ text_of (map (op_line_by (text_at l.paths)) (take l.op-index l.ops)) ++ l.rest;
  short : l.passed + length l.rest ≤ l.before + length l.left;
}
