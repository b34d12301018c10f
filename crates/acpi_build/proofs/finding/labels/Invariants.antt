use Rattle.std.proofs.Common.{◌≡◌, ℕ, None, length, get_or, take}
use Rattle.std.specs.Prelude.{position, nat_eq}
use Rattle.std.specs.Option.{option_map}
use Rattle.pw_plan.specs.Limits.{in_32_bits}
use Rattle.acpi_build.proofs.finding.labels.Given as goal

abbrev pub invariant-loop : goal.invariant-loop
invariant-loop l = record {
  many : length l.labels.items ≡ l.counter;
  none : (q : ℕ) → get_or l.labels.items q None ≡ None;
}

abbrev pub invariant-loop-number : goal.invariant-loop-number
invariant-loop-number l = record {
  many : length l.labels.items ≡ l.count;
  each : (q : ℕ) → get_or l.labels.items q None ≡ option_map in_32_bits (position (nat_eq q) (take l.number l.order));
}
