-- What a printed text tells of a history of requests for performance.
use Rattle.std.specs.Prelude.{◌<◌, ◌^◌}
use Rattle.std.specs.List.{AllByRecursion}
use Rattle.aml_data.specs.Segment.{IsSegment}
use Rattle.aml_data.specs.declared.path.FullPath.{FullPath}
use Rattle.pw_cppc.specs.declared.plan.CppcPlan.{CppcPlan}
use Rattle.pw_cppc.specs.declared.request.CppcRequest.{CppcRequest}
use Rattle.pw_cppc.specs.declared.entry.CppcEntry.{CppcEntry}
use Rattle.pw_cppc.specs.Requests.{value_of}

-- a path is made of segments (ACPI 6.5, 20.2.2)
abbrev pub IsOfSegments : FullPath → Type 0
IsOfSegments path = AllByRecursion IsSegment path.segs

-- Each path of a processor is.
pub record HasSegments (P : CppcPlan) : Type 0 where
  pub paths : AllByRecursion IsOfSegments P.paths

-- # Numbers of 32 bits

-- those that an entry's text is about, besides its processor and its code
pub record IsNarrow (e : CppcEntry) : Type 0 where
  pub argument : e.argument < 2 ^ 32
  pub fault : e.fault < 2 ^ 32

-- that of a request
abbrev pub IsNarrowRequest : CppcRequest → Type 0
IsNarrowRequest q = value_of q < 2 ^ 32

-- # Seats

-- the entry, whoever made it
abbrev pub unseated : CppcEntry → CppcEntry
unseated e = record e { seat = 0 }
