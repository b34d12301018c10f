-- The header and the tables of the machine that is generated. Each container and each processor has the same, but for the
-- number of its domain.
use Rattle.std.specs.Prelude.{ℕ, List, [], ◌∷◌, codes}
use Rattle.acpi_values.specs.declared.dependency.Coord.TheVariants.{SwAll}
use Rattle.acpi_values.specs.declared.dependency.Dependency.{Dependency}
use Rattle.acpi_values.specs.declared.lpi.EntryMethod.{EntryMethod}
use Rattle.acpi_values.specs.declared.lpi.EntryMethod.TheVariants as entry
use Rattle.acpi_values.specs.declared.lpi.Lpi.{Lpi}
use Rattle.acpi_values.specs.declared.lpi.LpiState.{LpiState}
use Rattle.acpi_values.specs.declared.performance.ControlPair.{ControlPair}
use Rattle.acpi_values.specs.declared.performance.PState.{PState}
use Rattle.acpi_values.specs.declared.register.Register.{Register}
use Rattle.acpi_values.specs.Null.{null_register}
use Rattle.aml_block.specs.declared.block.Header.{Header}
use Rattle.aml_block.specs.declared.block.Signature.TheVariants.{Ssdt}
use Rattle.pw_generate.specs.declared.tables.TheConstants.{CPUS_EACH}

-- the header (ACPI 6.5, 5.2.11.2)
unfoldable pub machine_header : Header
machine_header = record {
  signature = Ssdt;
  revision = 2;
  oem_id = codes "POWER ";
  oem_table_id = codes "POWERTAB";
  oem_revision = 1;
  creator_id = codes "PWR ";
  creator_revision = 1;
}

-- # Idle states (ACPI 6.5, 8.4.3.3)

-- a register of the processor's own fixed hardware
abbrev pub hardware_register : ℕ → Register
hardware_register address = record { space = 127; width = 32; offset = 0; access = 3; address = address }

-- an enabled idle state that loses no context and has no counters
abbrev pub idle_state : (min_residency wake_latency parent : ℕ) → EntryMethod → (name : List ℕ) → LpiState
idle_state min_residency wake_latency parent entry name = record {
  min_residency = min_residency;
  wake_latency = wake_latency;
  flags = 1;
  lost = 0;
  frequency = 0;
  parent = parent;
  entry = entry;
  residency = null_register;
  usage = null_register;
  name = name;
}

-- what a container has
unfoldable pub container_idle : Lpi
container_idle = record {
  level = 0;
  states =
      idle_state 1000 100 0 (entry.Integer 16) (codes "K1")
      ∷ idle_state 5000 500 0 (entry.Integer 32) (codes "K2")
      ∷ [];
}

-- what a processor has
unfoldable pub cpu_idle : Lpi
cpu_idle = record {
  level = 0;
  states =
      idle_state 100 10 0 (entry.Register (hardware_register 1)) (codes "S1")
      ∷ idle_state 500 50 1 (entry.Register (hardware_register 2)) (codes "S2")
      ∷ idle_state 2000 200 2 (entry.Register (hardware_register 3)) (codes "S3")
      ∷ [];
}

-- # Performance states (ACPI 6.5, 8.4.5)

-- a performance state whose status is its control value
abbrev pub perf_state : (frequency power control : ℕ) → PState
perf_state frequency power control = record {
  frequency = frequency;
  power = power;
  latency = 10;
  bus_latency = 10;
  control = control;
  status = control;
}

-- what a processor has
unfoldable pub cpu_perf : List PState
cpu_perf =
    perf_state 2400 15000 16
    ∷ perf_state 2000 12000 17
    ∷ perf_state 1600 9000 18
    ∷ perf_state 1200 6000 19
    ∷ []

-- a port of a byte
abbrev pub port_register : ℕ → Register
port_register address = record { space = 1; width = 8; offset = 0; access = 1; address = address }

-- the registers that change and show the performance state
unfoldable pub cpu_control : ControlPair
cpu_control = record { control = port_register 178; status = port_register 179 }

-- the processors of container c are its domain: software sets the state on each of them
unfoldable pub cpu_domain : ℕ → Dependency
cpu_domain c = record { domain = c; coord = SwAll; processors = CPUS_EACH }
