-- What is found of containers and processors as devices: whether they are there (ACPI 6.5, 6.3.7), and their names for the
-- hardware (6.1.12).
use Rattle.std.specs.Prelude.{ℕ, ◌==◌, ◌&&◌, ◌/◌, ◌%◌, not, Bool, true, false, List, [], ◌∷◌, codes, length, map, position, take, slice_index_or, unwrap_or, Option, Some, None, if◌then◌else◌}
use Rattle.aml_data.specs.declared.path.FullPath.{FullPath}
use Rattle.acpi_space.specs.Lookup.{number_at}
use Rattle.acpi_space.specs.Namespace.{Entry}
use Rattle.acpi_space.specs.Things.{Thing}
use Rattle.acpi_space.specs.Things.Thing.{data_object, device, processor, method, alias_of}
use Rattle.pw_plan.specs.declared.parts.CpuParts.{CpuParts}
use Rattle.pw_plan.specs.Parts.{cpu_in}
use Rattle.pw_findings.specs.declared.finding.Finding.{Finding}
use Rattle.pw_findings.specs.declared.finding.FindingKind.TheVariants as kinds
use Rattle.pw_findings.specs.declared.finding.OfDevice.TheVariants.{NotPresent, NotEnabled, NoUid, SameUid}
use Rattle.pw_findings.specs.Findings.{finding, of_each, when}
use Rattle.pw_lint.specs.Tables.{integer_at, is_there, stands}

-- # `_STA`

-- whether a bit is set by the number of `_STA`: bit 0 where the device is present, bit 1 where it is enabled
abbrev pub is_present : ℕ → Bool
is_present status = status % 2 == 1

abbrev pub is_enabled : ℕ → Bool
is_enabled status = status / 2 % 2 == 1

abbrev pub by_status : FullPath → Option ℕ → List Finding
by_status path None = []
by_status path (Some status) = if is_present status
    then when (not (is_enabled status)) (finding path (kinds.Device (NotEnabled status)))
    else finding path (kinds.Device (NotPresent status)) ∷ []

-- a container or a processor that isn't present, or is and isn't enabled
unfoldable pub status_findings : List Entry → FullPath → List Finding
status_findings entries path = by_status path (integer_at entries path (codes "_STA"))

-- # `_UID`

abbrev pub is_device_itself : Thing → Bool
is_device_itself (data_object d) = false
is_device_itself device = true
is_device_itself processor = false
is_device_itself method = false
is_device_itself (alias_of name) = false

-- whether a device stands there: a processor that has a term of its own has its number in that
unfoldable pub is_device : List Entry → FullPath → Bool
is_device entries path = is_there is_device_itself entries (number_at entries path.segs)

-- a processor device without a name for the hardware
unfoldable pub unnamed : List Entry → FullPath → List Finding
unnamed entries path = when (is_device entries path && not (stands entries path (codes "_UID"))) (finding path (kinds.Device NoUid))

-- the number by which the hardware knows a processor device
unfoldable pub uid_of : List Entry → FullPath → Option ℕ
uid_of entries path = if is_device entries path then integer_at entries path (codes "_UID") else None

abbrev pub uids_of : List Entry → List CpuParts → List (Option ℕ)
uids_of entries cpus = map (λ (c : CpuParts). uid_of entries c.path) cpus

-- that of processor k
abbrev pub uid_in : List (Option ℕ) → ℕ → Option ℕ
uid_in uids k = slice_index_or uids k None

abbrev pub same_uid : Option ℕ → Option ℕ → Bool
same_uid None other = false
same_uid (Some uid) None = false
same_uid (Some uid) (Some other) = uid == other

-- the first processor before processor k that has its number
abbrev pub twin : List (Option ℕ) → ℕ → Option ℕ
twin uids k = position (same_uid (uid_in uids k)) (take k uids)

abbrev pub beside : List CpuParts → List (Option ℕ) → ℕ → Option ℕ → List Finding
beside cpus uids k None = []
beside cpus uids k (Some p) = finding (cpu_in cpus k).path (kinds.Device (SameUid (unwrap_or (uid_in uids k) 0) (cpu_in cpus p).path)) ∷ []

abbrev pub twin_at : List CpuParts → List (Option ℕ) → ℕ → List Finding
twin_at cpus uids k = beside cpus uids k (twin uids k)

-- each processor that has the number of an earlier one
unfoldable pub twin_findings : List Entry → List CpuParts → List Finding
twin_findings entries cpus = of_each (length cpus) (twin_at cpus (uids_of entries cpus))
