use Rattle.std.proofs.Common.{ap, sym, ◌∙◌}
use lib.ListN.{get_elem?}
use Rattle.std.specs.Slots.{slots_items}
use Rattle.pw_turns.proofs.slots.close_table.Goals as goal

pub clear-requires-clause-contents : goal.clear-requires-clause-contents
clear-requires-clause-contents g c = c.requires.records _ _ c.close_with-closed.ensures.values.2

pub returns : goal.returns
returns g c = record {
  words = slots_items c.close_with-closed.result.words;
  slots = slots_items c.close_with-closed.result.slots;
  final = c.close_with-closed.ensures.values.2;
  there = ap (λ xs. get_elem? xs c.args.counts.records) (sym c.clear.ensures.items) ∙ c.take-journal.ensures.value;
}
