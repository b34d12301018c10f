use Rattle.std.proofs.Common.{◌≡◌}
use Rattle.pw_text.specs.Looking.{AreSpelled}
use Rattle.pw_text.proofs.path_index.PathIndex.new.Given as goal

abbrev pub invariant-loop-text : goal.invariant-loop-text
invariant-loop-text l = record {
  names : l.index.names ≡ l.initial.index.names;
  spelled : AreSpelled l.index;
}
