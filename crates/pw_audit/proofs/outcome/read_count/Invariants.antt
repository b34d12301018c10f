use Rattle.std.proofs.Common.{◌<◌, ℕ, decimal}
use Rattle.pw_text.specs.Lines.{with_feed}
use Rattle.pw_history.specs.Asked.{Begins}
use Rattle.pw_audit.proofs.outcome.read_count.Given as goal

abbrev pub invariant-loop-number : goal.invariant-loop-number
invariant-loop-number l = (k : ℕ) → k < l.number → Begins (with_feed (decimal k)) l.left → ⊥
