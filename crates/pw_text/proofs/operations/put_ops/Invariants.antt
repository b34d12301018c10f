use Rattle.std.proofs.Common.{true, ◌∷◌, ◌++◌, [], take}
use Rattle.std.specs.List.{flat_map}
use Rattle.pw_text.specs.Puts.{PutsText}
use Rattle.pw_text.proofs.operations.put_ops.Given as goal
use Rattle.pw_text.specs.HistoryText.{op_line_by}
use Rattle.pw_text.specs.Paths.{text_at}

abbrev pub invariant-loop-op : goal.invariant-loop-op
invariant-loop-op g l = PutsText g.K.Sink l.initial.sink l.sink l.initial.page l.page (flat_map (λ o. op_line_by (text_at l.paths) o ++ (10 ∷ [])) (take l.op-index l.ops)) true
