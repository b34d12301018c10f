use Rattle.std.proofs.Common.{◌≡◌, map, drop, min}
use Rattle.std.specs.Prelude.{fold}
use Rattle.pw_model.specs.declared.state.Vote.{Vote}
use Rattle.pw_idle.proofs.node.NodeRec.tolerance.Given as goal

abbrev pub invariant-loop-vote : goal.invariant-loop-vote
invariant-loop-vote l = fold min l.least (map (λ (v : Vote). v.tolerance) (drop l.vote-index l.vote-items)) ≡ fold min 4294967295 (map (λ (v : Vote). v.tolerance) l.vote-items)
