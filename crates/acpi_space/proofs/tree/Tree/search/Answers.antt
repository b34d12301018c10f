use Rattle.std.proofs.Common.{[], get_or, arith}
use Rattle.acpi_space.proofs.Rising.{sought_first, sought_nowhere, sought_risen, last_on, sought_nearest}
use Rattle.acpi_space.proofs.tree.Tree.search.Goals as goal

pub returns-in_default : goal.returns-in_default
returns-in_default c =
    sought_nowhere c.args.self.now (get_or c.args.self.now c.args.scope []) c.args.seg c.args.scope c.facts.ensures.closed c.facts.ensures.ordered
    (sought_first c.args.self.now c.args.scope c.args.seg c.requires) c.in_default.ensures

pub loop-found-init : goal.loop-found-init
loop-found-init c = record { sought = sought_first c.args.self.now c.args.scope c.args.seg c.requires; last = c.in-Some.ensures }

pub returns-in_default-last : goal.returns-in_default-last
returns-in_default-last c =
    sought_nowhere c.args.self.now (get_or c.args.self.now c.args.scope []) c.args.seg c.rise-here.result c.facts.ensures.closed c.facts.ensures.ordered
    (sought_risen c.args.self.now (get_or c.args.self.now c.args.scope []) c.args.seg c.loop-found.here c.rise-here.result c.loop-found.found c.facts.ensures.ordered c.loop-found.invariant.sought
    c.loop-found.invariant.last
    c.loop-found-test.true c.rise-here.ensures) c.in_default-last.ensures

pub loop-found-preserved-then-here-found : goal.loop-found-preserved-then-here-found
loop-found-preserved-then-here-found c = record {
  sought = sought_risen c.args.self.now (get_or c.args.self.now c.args.scope []) c.args.seg c.loop-found.here c.rise-here.result c.loop-found.found c.facts.ensures.ordered
      c.loop-found.invariant.sought c.loop-found.invariant.last
      c.loop-found-test.true c.rise-here.ensures;
  last = c.in-Some-last.ensures;
}

pub loop-found-preserved : goal.loop-found-preserved
loop-found-preserved c = record {
  sought = sought_risen c.args.self.now (get_or c.args.self.now c.args.scope []) c.args.seg c.loop-found.here c.rise-here.result c.loop-found.found c.facts.ensures.ordered
      c.loop-found.invariant.sought c.loop-found.invariant.last
      c.loop-found-test.true c.rise-here.ensures;
  last = last_on c.args.self.now c.args.seg c.loop-found.here c.rise-here.result c.loop-found.found c.loop-found.invariant.last c.rise-here.ensures.less (omega (arith, c.if-here-found.false));
}

pub returns : goal.returns
returns c = sought_nearest c.args.self.now (get_or c.args.self.now c.args.scope []) c.args.seg c.loop-found.here c.loop-found.found c.loop-found.invariant.sought c.loop-found.invariant.last
    (omega (arith, c.loop-found-test.false))
