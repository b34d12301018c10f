-- What stands at places of the namespace (ACPI 6.5, 5.3).
use Rattle.aml_data.specs.declared.data.Data.{Data}
use Rattle.aml_data.specs.declared.path.Path.{Path}
use Rattle.acpi_space.specs.declared.object.Object.{Object}
use Rattle.acpi_space.specs.declared.object.Object.TheVariants as objects

-- a data object, a device, a processor, a method, or a second name with the name of its object as it is written
pub data Thing : Type 0 where
  data_object : Data → Thing
  device : Thing
  processor : Thing
  method : Thing
  alias_of : Path → Thing

-- what an object is
abbrev pub thing : Object → Thing
thing (objects.Data value) = data_object value.now
thing objects.Device = device
thing objects.Processor = processor
thing objects.Method = method
thing (objects.Alias source) = alias_of source.now
