use Rattle.pw_cli.proofs.BlockPromising.{keeps_check}
use Rattle.pw_cli.proofs.laws.checks_keep_their_promise.Goals as goal

pub returns : goal.returns
returns c = λ words names s before after asks tells ran. keeps_check words names s before after tells ran (record {
  processors = c.processors_and_containers.ensures.processors;
  containers = c.processors_and_containers.ensures.containers;
  innermost = c.parents_are_innermost.ensures.some;
  outermost = c.parents_are_innermost.ensures.none;
  of_containers = c.tables_are_meant.ensures.containers;
  of_processors = c.tables_are_meant.ensures.processors;
  widths = c.first_dsdt_tells_widths.ensures.first;
}) c.notes_have_causes.ensures.each_once asks
