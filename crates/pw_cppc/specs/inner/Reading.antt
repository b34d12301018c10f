-- What is read of `_PSD` of a plan's processors.
use Rattle.std.specs.Prelude.{List, Option, None, Contains}
use Rattle.std.specs.Result.{result_ok}
use Rattle.aml_data.specs.declared.data.Width.{Width}
use Rattle.acpi_values.specs.declared.dependency.Dependency.{Dependency}
use Rattle.acpi_space.specs.Namespace.{Entry, places_of}
use Rattle.acpi_space.specs.Things.{Thing}
use Rattle.acpi_space.specs.Things.Thing.{data_object, device, processor, method, alias_of}
use Rattle.acpi_perf.specs.Meaning.{DomainMeans}
use Rattle.acpi_perf.specs.Objects.{domain_of}
use Rattle.acpi_build.specs.Sources.{IsTable}
use Rattle.pw_plan.specs.declared.parts.CpuParts.{CpuParts}
use Rattle.pw_cppc.specs.Machine.{dependency_place}

-- what a data object means as `_PSD`; none of any other object
abbrev pub dependency_in : Width → Thing → Option Dependency
dependency_in width (data_object d) = result_ok (domain_of width d)
dependency_in width device = None
dependency_in width processor = None
dependency_in width method = None
dependency_in width (alias_of name) = None

-- A processor that was read into a plan: it stands among the objects, and a data object at its `_PSD` means something.
pub record IsRead (entries : List Entry) (c : CpuParts) : Type 0 where
  pub among : Contains (places_of entries) c.path.segs
  pub dependency : Option Dependency
  pub meant : IsTable DomainMeans entries (dependency_place c) dependency
