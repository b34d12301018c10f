-- The block that is generated: containers of processors under `\_SB_` (ACPI 6.5, 8.4.2).
use Rattle.std.specs.Prelude.{◌*◌, ℕ, true, false, List, [], ◌∷◌, ◌++◌, map, codes}
use Rattle.std.specs.List.{range_with_len}
use Rattle.aml_data.specs.declared.data.Data.{Data}
use Rattle.aml_data.specs.declared.data.Data.TheVariants.{Text}
use Rattle.aml_data.specs.declared.path.Path.{Path}
use Rattle.aml_block.specs.declared.term.Term.{Term}
use Rattle.aml_block.specs.declared.term.Term.TheVariants.{Name, Scope, Device}
use Rattle.aml_block.specs.declared.block.Block.{Block}
use Rattle.acpi_idle.specs.Written.{lpi_object}
use Rattle.acpi_perf.specs.Written.{control_object, domain_object, pss_object}
use Rattle.pw_generate.specs.declared.tables.TheConstants.{CPUS_EACH}
use Rattle.pw_generate.specs.Names.{container_name, cpu_name}
use Rattle.pw_generate.specs.Tables.{container_idle, cpu_control, cpu_domain, cpu_idle, cpu_perf, machine_header}

-- the path from the root by one segment
abbrev pub from_root : List ℕ → Path
from_root seg = record { root = true; ups = 0; segs = seg ∷ [] }

-- the path of one segment from where it stands
abbrev pub from_here : List ℕ → Path
from_here seg = record { root = false; ups = 0; segs = seg ∷ [] }

-- an object of this name
abbrev pub named : List ℕ → Data → Term
named seg value = Name (from_here seg) value

-- the objects of a processor of container c
abbrev pub cpu_objects : ℕ → List Term
cpu_objects c =
    named (codes "_HID") (Text (codes "ACPI0007"))
    ∷ named (codes "_LPI") (lpi_object cpu_idle)
    ∷ named (codes "_PSS") (pss_object cpu_perf)
    ∷ named (codes "_PCT") (control_object cpu_control)
    ∷ named (codes "_PSD") (domain_object (cpu_domain c))
    ∷ []

-- processor p, which is one of container c
unfoldable pub cpu_term : ℕ → ℕ → Term
cpu_term c p = Device (from_here (cpu_name p)) (cpu_objects c)

-- the numbers of the processors of container c
abbrev pub cpus_of : ℕ → List ℕ
cpus_of c = range_with_len (CPUS_EACH * c) CPUS_EACH

-- the objects of a container
abbrev pub container_objects : List Term
container_objects =
    named (codes "_HID") (Text (codes "ACPI0010"))
    ∷ named (codes "_LPI") (lpi_object container_idle)
    ∷ []

-- container c: its objects, and then its processors
unfoldable pub container_term : ℕ → Term
container_term c = Device (from_here (container_name c)) (container_objects ++ map (cpu_term c) (cpus_of c))

-- the block of n containers
unfoldable pub machine_block : ℕ → Block
machine_block n = record {
  header = machine_header;
  terms = Scope (from_root (codes "_SB_")) (map container_term (range_with_len 0 n)) ∷ [];
}
