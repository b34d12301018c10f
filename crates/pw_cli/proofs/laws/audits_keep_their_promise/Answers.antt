use Rattle.pw_cli.proofs.CppcPromising.{keeps_cppc_audit}
use Rattle.pw_cli.proofs.Promising.{keeps_audit}
use Rattle.pw_cli.proofs.laws.audits_keep_their_promise.Goals as goal

pub returns-clause-plain : goal.returns-clause-plain
returns-clause-plain c =
    keeps_audit (record {
      processors = c.processors_and_containers.ensures.processors;
      containers = c.processors_and_containers.ensures.containers;
      innermost = c.parents_are_innermost.ensures.some;
      outermost = c.parents_are_innermost.ensures.none;
      of_containers = c.tables_are_meant.ensures.containers;
      of_processors = c.tables_are_meant.ensures.processors;
      widths = c.first_dsdt_tells_widths.ensures.first;
    }) (record { suits = c.choices_are_deepest.ensures.lawful; deepest = c.choices_are_deepest.ensures.deepest })
    (record { history = c.histories_are_traces.ensures.history; sorts = c.traces_sort_to_histories.ensures })

pub returns-clause-cppc : goal.returns-clause-cppc
returns-clause-cppc c = keeps_cppc_audit c.cppc_histories_are_traces.ensures.history c.cppc_traces_sort_to_histories.ensures
