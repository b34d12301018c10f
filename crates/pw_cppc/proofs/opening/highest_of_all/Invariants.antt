use Rattle.std.proofs.Common.{◌≡◌, map, take}
use Rattle.pw_cppc.specs.Parts.{highest_of}
use Rattle.pw_cppc.proofs.opening.highest_of_all.Given as goal

abbrev pub invariant-loop-parts : goal.invariant-loop-parts
invariant-loop-parts l = l.numbers.items ≡ map highest_of (take l.parts-index l.parts-items)
