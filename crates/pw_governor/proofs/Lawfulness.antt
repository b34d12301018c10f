-- What is chosen may be chosen.
use Rattle.std.proofs.Common.{◌≡◌, ◌<◌, ◌≤◌, ◌^◌, ℕ, true, length, inl, inr, arith}
use Rattle.acpi_values.specs.Idle.{rows_of}
use Rattle.acpi_values.specs.declared.idle.IdleTable.{IdleTable}
use Rattle.pw_plan.specs.Limits.{in_32_bits}
use Rattle.pw_plan.specs.Places.{row_at}
use Rattle.pw_model.specs.Containers.{greatest}
use Rattle.pw_model.proofs.Greatest.{greatest-le, greatest-most, greatest-passes}
use Rattle.std.proofs.lemmas.Bool.{and_from, cases_lt, le-leb}
use Rattle.std.proofs.lemmas.Grind.{common_steps}
use Rattle.pw_governor.specs.Choices.{IsLawful, Suits, is_lawful, choice}

passing : (t : IdleTable) (tolerance residency s : ℕ) → 0 < s → s ≤ length (rows_of t) → is_lawful tolerance residency (row_at t s) ≡ true → Suits t tolerance residency s
passing t tolerance residency s from to e = record {
  from = omega arith;
  to = to;
  enabled = grind (arith, common_steps);
  wakes = grind (arith, common_steps);
  pays = grind (arith, common_steps);
}

-- of tests that pass one above the other
lawful-greatest : (t : IdleTable) (tolerance residency s : ℕ) → s ≤ length (rows_of t) → (0 < s → is_lawful tolerance residency (row_at t s) ≡ true) → IsLawful t tolerance residency s
lawful-greatest t tolerance residency s to passes = elim (cases_lt 0 s) [
  | inl lt ↦ inr (passing t tolerance residency s lt to (passes lt))
  | inr ge ↦ inl (omega arith)
]

-- no more states are numbered than there are
few : (n : ℕ) → in_32_bits n ≤ n
few n = omega arith

pub choice_lawful : (t : IdleTable) (tolerance residency : ℕ) → IsLawful t tolerance residency (choice t tolerance residency)
unfolding choice
choice_lawful t tolerance residency =
    let test = λ (i : ℕ). is_lawful tolerance residency (row_at t i) in
    let n = in_32_bits (length (rows_of t)) in
    let below = greatest-le test n in
    let all = few (length (rows_of t)) in
    lawful-greatest t tolerance residency (greatest test n) (omega arith) (greatest-passes test n)

pub choice_most : (t : IdleTable) (tolerance residency s : ℕ) → s < 2 ^ 32 → Suits t tolerance residency s → s ≤ choice t tolerance residency
unfolding choice
choice_most t tolerance residency s small suits =
    let row = row_at t s in
    let passes : is_lawful tolerance residency row ≡ true =
    and_from _ _ (and_from _ _ suits.enabled (le-leb row.latency tolerance suits.wakes)) (le-leb row.residency residency suits.pays) in
    let to = suits.to in
    greatest-most (λ (i : ℕ). is_lawful tolerance residency (row_at t i)) (in_32_bits (length (rows_of t))) s (omega arith) passes
