use Rattle.std.proofs.Common.{◌≡◌, length}
use Rattle.pw_text.proofs.lines.first_field.Given as goal
use Rattle.pw_text.specs.Fields.{fields_of}

abbrev pub invariant-loop-rest : goal.invariant-loop-rest
invariant-loop-rest l = fields_of l.left ≡ fields_of l.line

abbrev pub decreases-loop-rest : goal.decreases-loop-rest
decreases-loop-rest l = length l.left
