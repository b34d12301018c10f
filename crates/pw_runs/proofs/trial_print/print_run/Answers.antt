use Rattle.std.proofs.Common.{◌∙◌, sym}
use Rattle.pw_load.proofs.Outcomes.{ended_saying}
use Rattle.pw_runs.specs.Runs.{register_line}
use Rattle.pw_runs.specs.inner.Trying.SumsUp.{failed}
use Rattle.pw_runs.proofs.TrialPrinting.{printed_whole}
use Rattle.pw_runs.proofs.trial_print.print_run.Goals as goal

pub returns-in-None-clause-printed : goal.returns-in-None-clause-printed
returns-in-None-clause-printed g c =
    let summary = c.print_summary_known.ensures in
    rw c.printed.ensures.status (printed_whole g.K.Sink c.args.out.now c.print_summary_known.new.out c.args.err.now c.printed.new.err c.args.plan.now c.args.opening c.args.entries.now
    (sym c.failed_after.ensures ∙ c.in-None.is) c.print_summary_known.result summary.whole summary.part summary.sink summary.memory c.printed.ensures.line)

pub returns-in-Some-clause-printed : goal.returns-in-Some-clause-printed
returns-in-Some-clause-printed g c =
    ended_saying g.K.Sink c.args.out.now c.args.err.now c.say_register.new.err (register_line c.in-Some.done) 5 (failed (sym c.failed_after.ensures ∙ c.in-Some.is)) c.say_register.ensures.line
