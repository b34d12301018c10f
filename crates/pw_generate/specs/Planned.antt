-- The containers and processors of the machine that is generated, as a plan has them.
use Rattle.std.specs.Prelude.{◌/◌, ℕ, List, [], ◌∷◌, map, codes, Some, None}
use Rattle.std.specs.List.{range_with_len}
use Rattle.acpi_values.specs.declared.idle.IdleKind.TheVariants.{Lpi}
use Rattle.acpi_values.specs.declared.idle.IdleTable.{IdleTable}
use Rattle.acpi_values.specs.declared.lpi.Lpi.{Lpi as lpi_table}
use Rattle.acpi_values.specs.declared.performance.PState.{PState}
use Rattle.acpi_build.specs.Machine.{lpi_row}
use Rattle.pw_plan.specs.declared.parts.ContainerParts.{ContainerParts}
use Rattle.pw_plan.specs.declared.parts.CpuParts.{CpuParts}
use Rattle.pw_plan.specs.declared.parts.Scale.{Scale}
use Rattle.pw_generate.specs.declared.tables.TheConstants.{CPUS_EACH}
use Rattle.pw_generate.specs.Loads.{cpu_count}
use Rattle.pw_generate.specs.Names.{container_name, cpu_name}
use Rattle.pw_generate.specs.Tables.{container_idle, cpu_control, cpu_domain, cpu_idle, cpu_perf}

-- the idle states of a table of low power idle states
abbrev pub idle_by : lpi_table → IdleTable
idle_by lpi = record { kind = Lpi; rows = map lpi_row lpi.states }

-- container c: no container is around it
unfoldable pub machine_container : ℕ → ContainerParts
machine_container c = record {
  path = record { segs = codes "_SB_" ∷ container_name c ∷ [] };
  parent = None;
  idle = idle_by container_idle;
}

-- the containers, in their order
unfoldable pub machine_containers : ℕ → List ContainerParts
machine_containers n = map machine_container (range_with_len 0 n)

-- the container that processor p is one of
abbrev pub container_of : ℕ → ℕ
container_of p = p / CPUS_EACH

-- the performance states of a processor of container c
abbrev pub cpu_scale : ℕ → Scale
cpu_scale c = record {
  controls = map (λ (s : PState). s.control) cpu_perf;
  register = Some cpu_control.control;
  limit = 0;
  dependency = Some (cpu_domain c);
}

-- processor p
unfoldable pub machine_cpu : ℕ → CpuParts
machine_cpu p = record {
  path = record { segs = codes "_SB_" ∷ container_name (container_of p) ∷ cpu_name p ∷ [] };
  parent = Some (container_of p);
  idle = idle_by cpu_idle;
  csd = [];
  perf = Some (cpu_scale (container_of p));
  throttle = None;
  cpc = None;
}

-- the processors, in their order
unfoldable pub machine_cpus : ℕ → List CpuParts
machine_cpus n = map machine_cpu (range_with_len 0 (cpu_count n))
