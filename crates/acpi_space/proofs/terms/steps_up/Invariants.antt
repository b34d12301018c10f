use Rattle.std.proofs.Common.{◌≡◌, ◌++◌, ◌+◌, length, replicate}
use Rattle.acpi_space.proofs.terms.steps_up.Given as goal

abbrev pub invariant-loop-rest : goal.invariant-loop-rest
invariant-loop-rest l = record {
  parts : l.body ≡ replicate l.ups 94 ++ l.rest;
  fits : l.ups + length l.rest ≡ length l.body;
}

abbrev pub decreases-loop-rest : goal.decreases-loop-rest
decreases-loop-rest l = length l.rest
