-- The machine that objects tell of: its containers and processors with what they need for a plan.
use Rattle.std.specs.Prelude.{◌==◌, ◌%◌, ◌+◌, ℕ, true, List, [], ◌∷◌, ◌++◌, length, map, Ok, Err, Option, Some, None, unwrap_or, nat_lt, if◌then◌else◌}
use Rattle.std.specs.Option.{option_map}
use Rattle.std.specs.List.{list_any}
use Rattle.acpi_values.specs.declared.dependency.CDependency.{CDependency}
use Rattle.acpi_values.specs.declared.dependency.Dependency.{Dependency}
use Rattle.acpi_values.specs.declared.fault.Why.TheVariants.{Range}
use Rattle.acpi_values.specs.declared.idle.CState.{CState}
use Rattle.acpi_values.specs.declared.idle.IdleKind.TheVariants.{Lpi, Cst, Absent}
use Rattle.acpi_values.specs.declared.idle.IdleRow.{IdleRow}
use Rattle.acpi_values.specs.declared.idle.IdleTable.{IdleTable}
use Rattle.acpi_values.specs.declared.lpi.EntryMethod.TheVariants as entry
use Rattle.acpi_values.specs.declared.lpi.Lpi.{Lpi as lpi_table}
use Rattle.acpi_values.specs.declared.lpi.LpiState.{LpiState}
use Rattle.acpi_values.specs.declared.performance.ControlPair.{ControlPair}
use Rattle.acpi_values.specs.declared.performance.PState.{PState}
use Rattle.acpi_values.specs.declared.performance.TState.{TState}
use Rattle.acpi_values.specs.declared.register.Register.{Register}
use Rattle.acpi_values.specs.Null.{is_null}
use Rattle.acpi_fields.specs.Reading.{Read, place, shape}
use Rattle.acpi_space.specs.Places.{Place}
use Rattle.acpi_space.specs.Namespace.{Entry}
use Rattle.acpi_space.specs.Lookup.{path_in}
use Rattle.pw_plan.specs.declared.parts.ContainerParts.{ContainerParts}
use Rattle.pw_plan.specs.declared.parts.CpuParts.{CpuParts}
use Rattle.pw_plan.specs.declared.parts.Scale.{Scale}
use Rattle.pw_plan.specs.Parts.{is_entry}
use Rattle.acpi_build.specs.declared.names.Name.{Name}
use Rattle.acpi_build.specs.declared.names.Name.TheVariants as names
use Rattle.acpi_build.specs.declared.note.NoteKind.TheVariants.{Ignored, NoSuchState}
use Rattle.acpi_build.specs.Building.{◌>>=◌, Build, done, each, noted}
use Rattle.acpi_build.specs.Finding.{containers_of, parent_of, place_below, processors_of}
use Rattle.acpi_build.specs.Tables.{control_at, cpc_at, csd_at, cst_at, dependency_at, limit_at, lpi_at, pss_at, told, tss_at}

-- # Idle states

-- bit 0 of the flags: the state is enabled (ACPI 6.5, 8.4.3.3)
abbrev pub lpi_row : LpiState → IdleRow
lpi_row s = record {
  enabled = s.flags % 2 == 1;
  latency = s.wake_latency;
  residency = s.min_residency;
  parent = s.parent;
  entry = s.entry;
}

abbrev pub cst_row : CState → IdleRow
cst_row s = record { enabled = true; latency = s.latency; residency = 0; parent = 0; entry = entry.Register s.register }

-- the states of `_LPI`; where there are none, those of `_CST`
abbrev pub idle_table : Option lpi_table → Option (List CState) → IdleTable
idle_table (Some lpi) cst = record { kind = Lpi; rows = map lpi_row lpi.states }
idle_table None (Some cst) = record { kind = Cst; rows = map cst_row cst }
idle_table None None = record { kind = Absent; rows = [] }

-- a `_CST` beside an `_LPI` is noted
abbrev pub ignored : Place → Option lpi_table → Option (List CState) → Build (Unit {0})
ignored path (Some lpi) (Some cst) = noted path Ignored (tt {0})
ignored path (Some lpi) None = done (tt {0})
ignored path None cst = done (tt {0})

-- The entries of `_CSD` from the one of place k on, behind those that are kept so far. An entry about a C state that
-- isn't there is dropped; one that is kept and repeats a domain and a state means nothing.
abbrev pub kept_from : ℕ → ℕ → List CDependency → List CDependency → Read (List CDependency)
kept_from count k kept [] = Ok kept
kept_from count k kept (e ∷ es) =
    if nat_lt e.index count
    then (if list_any (is_entry e.domain e.index) kept then Err (shape (place k 3) Range)
    else kept_from count (k + 1) (kept ++ e ∷ []) es)
    else kept_from count (k + 1) kept es

-- each that is dropped is noted
abbrev pub dropped : Place → ℕ → List CDependency → Build (Unit {0})
dropped path count [] = done (tt {0})
dropped path count (e ∷ es) =
    if nat_lt e.index count then dropped path count es
    else noted path NoSuchState (tt {0}) >>= λ _. dropped path count es

abbrev pub with_dropped : Place → ℕ → List CDependency → Option (List CDependency) → Build (List CDependency)
with_dropped path count es None = done []
with_dropped path count es (Some kept) = dropped path count es >>= λ _. done kept

-- the entries of `_CSD` that are used: none beside an `_LPI`, or where one repeats another
abbrev pub kept_of : Place → Option lpi_table → Option (List CState) → Option (List CDependency)
    → Build (List CDependency)
kept_of path (Some lpi) cst csd = done []
kept_of path None cst csd =
    told path (kept_from (length (unwrap_or cst [])) 1 [] (unwrap_or csd []))
    >>= with_dropped path (length (unwrap_or cst [])) (unwrap_or csd [])

-- `_LPI`, `_CST` and `_CSD`: the idle states of processor k, and what it declares of their domains
unfoldable pub idle_of : List Entry → ℕ → Build (IdleTable × List CDependency)
idle_of entries k =
    lpi_at entries k >>= λ lpi.
    cst_at entries k >>= λ cst.
    ignored (place_below entries k names.Cst) lpi cst >>= λ _.
    csd_at entries k >>= λ csd.
    kept_of (place_below entries k names.Csd) lpi cst csd >>= λ kept.
    done (idle_table lpi cst, kept)

-- # Performance and throttling states

-- the control register, unless it is absent or null
abbrev pub register_in : Option ControlPair → Option Register
register_in None = None
register_in (Some pair) = if is_null pair.control then None else Some pair.control

abbrev pub scale_with : Option (List ℕ) → Option ControlPair → Option ℕ → Option Dependency → Option Scale
scale_with None control limit dependency = None
scale_with (Some controls) control limit dependency = Some (record {
  controls = controls;
  register = register_in control;
  limit = unwrap_or limit 0;
  dependency = dependency;
})

-- the control register, the opening limit and the domain, read whether there are states or not
unfoldable pub scale_of : List Entry → ℕ → Name → Name → Name → Option (List ℕ) → Build (Option Scale)
scale_of entries k control limit domain controls =
    control_at entries k control >>= λ pair.
    limit_at entries k limit >>= λ first.
    dependency_at entries k domain >>= λ dependency.
    done (scale_with controls pair first dependency)

unfoldable pub perf_of : List Entry → ℕ → Build (Option Scale)
perf_of entries k =
    pss_at entries k >>= λ states.
    scale_of entries k names.Pct names.Ppc names.Psd (option_map (map (λ (s : PState). s.control)) states)

unfoldable pub throttle_of : List Entry → ℕ → Build (Option Scale)
throttle_of entries k =
    tss_at entries k >>= λ states.
    scale_of entries k names.Ptc names.Tpc names.Tsd (option_map (map (λ (s : TState). s.control)) states)

-- # Containers and processors

unfoldable pub container_parts : List Entry → ℕ → Build ContainerParts
container_parts entries k =
    lpi_at entries k >>= λ lpi.
    done (record {
      path = record { segs = path_in entries k };
      parent = parent_of entries k;
      idle = idle_table lpi None;
    })

unfoldable pub cpu_parts : List Entry → ℕ → Build CpuParts
cpu_parts entries k =
    idle_of entries k >>= λ idle.
    perf_of entries k >>= λ perf.
    throttle_of entries k >>= λ throttle.
    cpc_at entries k >>= λ cpc.
    done (record {
      path = record { segs = path_in entries k };
      parent = parent_of entries k;
      idle = idle.0;
      csd = idle.1;
      perf = perf;
      throttle = throttle;
      cpc = cpc;
    })

pub record Parts : Type 0 where
  pub containers : List ContainerParts
  pub cpus : List CpuParts

-- all containers in their order, and then all processors in theirs
unfoldable pub parts_of : List Entry → Build Parts
parts_of entries =
    each (container_parts entries) (containers_of entries) >>= λ containers.
    each (cpu_parts entries) (processors_of entries) >>= λ cpus.
    done (record { containers = containers; cpus = cpus })
