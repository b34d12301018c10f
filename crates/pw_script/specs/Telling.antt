-- What a printed text tells of a history.
use Rattle.std.specs.Prelude.{◌<◌, ◌^◌, ℕ, Option}
use Rattle.std.specs.List.{AllByRecursion}
use Rattle.aml_data.specs.Segment.{IsSegment}
use Rattle.pw_history.specs.Telling as any
use Rattle.pw_plan.specs.declared.parts.CpuParts.{CpuParts}
use Rattle.pw_plan.specs.declared.plan.Plan.{Plan}
use Rattle.pw_model.specs.declared.entry.HistoryEntry.{HistoryEntry}

-- a processor's path is made of segments (ACPI 6.5, 20.2.2)
abbrev pub IsOfSegments : CpuParts → Type 0
IsOfSegments c = AllByRecursion IsSegment c.path.segs

-- Each path of a processor is.
pub record HasSegments (P : Plan) : Type 0 where
  pub cpus : AllByRecursion IsOfSegments P.cpus

-- # Numbers of 32 bits

-- those that an entry's text is about, besides its processor and its code
pub record IsNarrow (e : HistoryEntry) : Type 0 where
  pub argument : e.argument < 2 ^ 32
  pub tolerance : e.tolerance < 2 ^ 32
  pub fault : e.fault < 2 ^ 32

-- after how many operations a fault ended the opening, if one did
abbrev pub IsNarrowFault : Option ℕ → Type 0
IsNarrowFault = any.IsNarrowFault

-- # Seats

-- the entry, whoever made it
abbrev pub unseated : HistoryEntry → HistoryEntry
unseated e = record e { seat = 0 }
