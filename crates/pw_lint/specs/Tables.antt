-- What is read of objects again, of which a plan keeps a part alone (ACPI 6.5, 8.4).
use Rattle.std.specs.Prelude.{ℕ, Bool, true, false, List, [], ◌∷◌, ◌++◌, codes, is_some, map, not, Ok, Err, Option, Some, None}
use Rattle.aml_data.specs.Meaning.{meaning}
use Rattle.aml_data.specs.declared.data.Data.{Data}
use Rattle.aml_data.specs.declared.data.Width.{Width}
use Rattle.aml_data.specs.declared.path.FullPath.{FullPath}
use Rattle.acpi_fields.specs.Reading.{Read}
use Rattle.acpi_values.specs.declared.dependency.Dependency.{Dependency}
use Rattle.acpi_values.specs.declared.idle.CState.{CState}
use Rattle.acpi_values.specs.declared.performance.ControlPair.{ControlPair}
use Rattle.acpi_values.specs.declared.performance.PState.{PState}
use Rattle.acpi_values.specs.declared.performance.TState.{TState}
use Rattle.acpi_idle.specs.CStates.{cst_of}
use Rattle.acpi_perf.specs.Objects.{control_of, domain_of}
use Rattle.acpi_perf.specs.Scales.{pss_of, tss_of}
use Rattle.acpi_space.specs.Lookup.{entry_in, number_at}
use Rattle.acpi_space.specs.Namespace.{Entry}
use Rattle.acpi_space.specs.Places.{Place}
use Rattle.acpi_space.specs.Things.{Thing}
use Rattle.acpi_space.specs.Things.Thing.{data_object, device, processor, method, alias_of}
use Rattle.acpi_build.specs.Tables.{Given}

-- the path of a segment below another
abbrev pub below : FullPath → List ℕ → FullPath
below path seg = record { segs = path.segs ++ seg ∷ [] }

-- whether an object stands there, of whatever sort
unfoldable pub stands : List Entry → FullPath → List ℕ → Bool
stands entries path seg = is_some (number_at entries (below path seg).segs)

-- a data object, and the width of its integers; none of any other thing
abbrev pub given_in : Width → Thing → Option Given
given_in width (data_object d) = Some (record { object = d; width = width })
given_in width device = None
given_in width processor = None
given_in width method = None
given_in width (alias_of name) = None

abbrev pub given_as : List Entry → Option ℕ → Option Given
given_as entries None = None
given_as entries (Some k) = given_in (entry_in entries k).width (entry_in entries k).object

-- the data object at a place
unfoldable pub given_at : List Entry → Place → Option Given
given_at entries place = given_as entries (number_at entries place)

-- # What isn't read

-- whether what stands at a place is of a sort
abbrev pub is_there : (Thing → Bool) → List Entry → Option ℕ → Bool
is_there test entries None = false
is_there test entries (Some k) = test (entry_in entries k).object

-- a method or an alias: what is meant isn't known
abbrev pub is_veiled : Thing → Bool
is_veiled (data_object d) = false
is_veiled device = false
is_veiled processor = false
is_veiled method = true
is_veiled (alias_of name) = true

-- whether it is known what stands at a segment below a path, if anything
unfoldable pub is_known : List Entry → FullPath → List ℕ → Bool
is_known entries path seg = not (is_there is_veiled entries (number_at entries (below path seg).segs))

-- # Numbers

abbrev pub number_of : Option Given → Option ℕ
number_of None = None
number_of (Some given) = meaning given.object given.width

-- the integer at a segment below a path
unfoldable pub integer_at : List Entry → FullPath → List ℕ → Option ℕ
integer_at entries path seg = number_of (given_at entries (below path seg).segs)

-- # States

-- those that are read, none where the object means nothing
abbrev pub states_read : {S : Type 0} → Read (List S) → List S
states_read (Ok states) = states
states_read (Err shape) = []

abbrev pub states_of : {S : Type 0} → (Width → Data → Read (List S)) → Option Given → List S
states_of reads None = []
states_of reads (Some given) = states_read (reads given.width given.object)

-- those of `_CST`, `_PSS` and `_TSS` below a path
unfoldable pub c_states : List Entry → FullPath → List CState
c_states entries path = states_of cst_of (given_at entries (below path (codes "_CST")).segs)

unfoldable pub p_states : List Entry → FullPath → List PState
p_states entries path = states_of pss_of (given_at entries (below path (codes "_PSS")).segs)

unfoldable pub t_states : List Entry → FullPath → List TState
t_states entries path = states_of tss_of (given_at entries (below path (codes "_TSS")).segs)

-- how fast they are, in MHz or percent
abbrev pub frequencies : List PState → List ℕ
frequencies states = map (λ (s : PState). s.frequency) states

abbrev pub percentages : List TState → List ℕ
percentages states = map (λ (s : TState). s.percent) states

-- # Registers

abbrev pub pair_read : Read ControlPair → Option ControlPair
pair_read (Ok pair) = Some pair
pair_read (Err shape) = None

abbrev pub pair_of : Option Given → Option ControlPair
pair_of None = None
pair_of (Some given) = pair_read (control_of given.object)

-- the registers of `_PCT` below a path
unfoldable pub registers : List Entry → FullPath → Option ControlPair
registers entries path = pair_of (given_at entries (below path (codes "_PCT")).segs)

-- # Domains

abbrev pub dependency_read : Read Dependency → Option Dependency
dependency_read (Ok d) = Some d
dependency_read (Err shape) = None

abbrev pub dependency_of : Option Given → Option Dependency
dependency_of None = None
dependency_of (Some given) = dependency_read (domain_of given.width given.object)

-- what `_PSD` below a path declares
unfoldable pub dependency : List Entry → FullPath → Option Dependency
dependency entries path = dependency_of (given_at entries (below path (codes "_PSD")).segs)
