-- What is told of a plan.
use Rattle.std.specs.Prelude.{◌≡◌, ◌<◌, ◌≤◌, ◌++◌, ℕ, List, length, drop}
use Rattle.acpi_values.specs.declared.idle.IdleKind.{IdleKind}
use Rattle.acpi_values.specs.declared.idle.IdleKind.TheVariants.{Absent, Lpi, Cst}
use Rattle.acpi_values.specs.Idle.{rows_of}
use Rattle.pw_plan.specs.declared.domain.DomainKind.TheVariants.{Perf, Throttle}
use Rattle.pw_plan.specs.declared.parts.CpuParts.{CpuParts}
use Rattle.pw_plan.specs.declared.plan.Plan.{Plan}
use Rattle.pw_plan.specs.Limits.{in_32_bits}
use Rattle.pw_plan.specs.Requests.{opening_bound}
use Rattle.pw_plan.specs.Parts.{count_of, scale_of}
use Rattle.pw_plan.specs.Places.{cpu_at}
use Rattle.pw_text.specs.Text.{place_text}
use Rattle.pw_embed.specs.declared.planned.Counts.{Counts}
use Rattle.pw_embed.specs.declared.planned.CpuNumbers.{CpuNumbers}
use Rattle.pw_embed.specs.declared.status.Status.{Status}
use Rattle.pw_embed.specs.declared.status.Status.TheVariants.{Done, Range, Room}

-- how many there are of each part of a plan with so many notes
abbrev pub counts_of : Plan → ℕ → Counts
counts_of P notes = record {
  containers = in_32_bits (length P.containers);
  cpus = in_32_bits (length P.cpus);
  domains = in_32_bits (length P.domains);
  groups = in_32_bits (length P.groups);
  notes = notes;
  opening = opening_bound P;
}

abbrev pub idle_code : IdleKind → ℕ
idle_code Absent = 0
idle_code Lpi = 1
idle_code Cst = 2

-- what a processor has
abbrev pub cpu_numbers : CpuParts → CpuNumbers
cpu_numbers c = record {
  idle_kind = idle_code c.idle.kind;
  idle_states = in_32_bits (length (rows_of c.idle));
  perf_states = in_32_bits (count_of (scale_of Perf c));
  throttle_states = in_32_bits (count_of (scale_of Throttle c));
}

-- What is told of processor p: its numbers, its path at the front of the room, and how long that is; or the room is too small, and
-- the length alone is told; or the plan has no such processor.
unfoldable pub ToldCpu : Plan → ℕ → CpuNumbers × List ℕ × ℕ → CpuNumbers × List ℕ × ℕ → Status → Type 0
ToldCpu P p old new Done =
    let path = place_text (cpu_at P p).path.segs in
    (p < length P.cpus) × (length path ≤ length old.1) × (new ≡ (cpu_numbers (cpu_at P p), path ++ drop (length path) old.1, length path))
ToldCpu P p old new Room =
    let path = place_text (cpu_at P p).path.segs in
    (p < length P.cpus) × (length old.1 < length path) × (new ≡ (old.0, old.1, length path))
ToldCpu P p old new Range = (length P.cpus ≤ p) × (new ≡ old)
ToldCpu P p old new _ = ⊥
