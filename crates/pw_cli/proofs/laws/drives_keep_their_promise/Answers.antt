use Rattle.pw_cli.proofs.Promising.{keeps_drive}
use Rattle.pw_cli.proofs.laws.drives_keep_their_promise.Goals as goal

pub returns : goal.returns
returns c = keeps_drive (record {
  processors = c.processors_and_containers.ensures.processors;
  containers = c.processors_and_containers.ensures.containers;
  innermost = c.parents_are_innermost.ensures.some;
  outermost = c.parents_are_innermost.ensures.none;
  of_containers = c.tables_are_meant.ensures.containers;
  of_processors = c.tables_are_meant.ensures.processors;
  widths = c.first_dsdt_tells_widths.ensures.first;
}) (record { suits = c.choices_are_deepest.ensures.lawful; deepest = c.choices_are_deepest.ensures.deepest })
