use Rattle.std.proofs.Common.{◌<◌, ◌++◌, ◌∙◌, ap, arith, length}
use Rattle.pw_lint.specs.Notes.{of_object}
use Rattle.pw_lint.specs.Passed.{passed_findings}
use Rattle.pw_findings.proofs.Added.{added_item}
use Rattle.pw_lint.proofs.passed.find_passed.Goals as goal

pub loop-term-preserved : goal.loop-term-preserved
loop-term-preserved c =
    let all = c.args.passed.now in
    let at = c.loop-term.term-index in
    let inside : at < length all = omega arith in
    added_item passed_findings at all c.term-item.result c.args.found.now.items c.loop-term.found.items
    c.find_unused.new.found.items inside c.term-item.is c.loop-term.invariant
    (c.in_ok-find_unused.ensures ∙ ap (λ w. c.loop-term.found.items ++ of_object c.term-item.result.path w) c.skipped.ensures)
