use Rattle.std.proofs.Common.{◌≡◌, ◌+◌, ◌++◌, suc, List, [], length}
use Rattle.pw_text.specs.Fields.{lines_of}
use Rattle.pw_notice.specs.Limits.{AnsweredBy, made_from}
use Rattle.pw_model.specs.States.{IsState, opening}
use Rattle.pw_script.specs.declared.script.Line.{Line as line}
use Rattle.pw_script.specs.Reading.{LawfullyChosen, AreLines, first_bad, requests_of}
use Rattle.pw_script.specs.inner.Limiting.{SameLimits}
use Rattle.pw_script.proofs.parsing.read_into.Given as goal

abbrev pub invariant-loop-left : goal.invariant-loop-left
invariant-loop-left g l = record {
  reads : (more : List line) → AreLines l.plan (LawfullyChosen (goal.F-post g l.governor)) (AnsweredBy (goal.P-post g l.handlers.0) (goal.T-post g l.handlers.1)) (requests_of l.lines.items)
      (suc l.number) (lines_of l.left) more
      → AreLines l.plan (LawfullyChosen (goal.F-post g l.governor)) (AnsweredBy (goal.P-post g l.handlers.0) (goal.T-post g l.handlers.1)) [] 1 (lines_of l.bytes) (l.lines.items ++ more);
  bad : first_bad l.plan (suc l.number) (lines_of l.left) ≡ first_bad l.plan 1 (lines_of l.bytes);
  room : l.number + length (lines_of l.left) ≡ length (lines_of l.bytes);
  limits : SameLimits l.state (made_from l.plan (opening l.plan) (requests_of l.lines.items));
  fits : IsState l.plan l.state;
}

abbrev pub decreases-loop-left : goal.decreases-loop-left
decreases-loop-left g l = length l.left
