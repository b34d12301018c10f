use Rattle.std.proofs.Common.{◌≡◌, map, take}
use Rattle.pw_cppc.specs.Parts.{lowest_of}
use Rattle.pw_cppc.proofs.opening.lowest_of_all.Given as goal

abbrev pub invariant-loop-parts : goal.invariant-loop-parts
invariant-loop-parts l = l.numbers.items ≡ map lowest_of (take l.parts-index l.parts-items)
