use Rattle.std.proofs.Common.{◌∙◌, sym}
use Rattle.pw_runs.proofs.CppcPrinting.{printed_failed, printed_whole}
use Rattle.pw_runs.proofs.cppc_print.print_run.Goals as goal

pub returns-in-None-clause-printed : goal.returns-in-None-clause-printed
returns-in-None-clause-printed g c =
    let history = c.cppc_print_known-outcome.ensures in
    rw c.printed.ensures.status (printed_whole g.K.Sink c.args.out.now c.cppc_print_known-outcome.new.out c.args.err.now c.printed.new.err c.args.plan.now c.args.opening c.args.entries.now
    (sym c.failed_after.ensures ∙ c.in-None.is) c.cppc_print_known-outcome.result history.whole history.part history.sink history.memory c.printed.ensures.line)

pub returns-in-Some-clause-printed : goal.returns-in-Some-clause-printed
returns-in-Some-clause-printed g c =
    let history = c.cppc_print_known-outcome.ensures in
    rw c.end_failed.ensures.status (printed_failed g.K.Sink c.args.out.now c.cppc_print_known-outcome.new.out c.args.err.now c.end_failed.new.err c.args.plan.now c.args.opening c.args.entries.now
    c.in-Some.done (sym c.failed_after.ensures ∙ c.in-Some.is) c.cppc_print_known-outcome.result history.whole history.part history.sink history.memory c.end_failed.ensures.line)
