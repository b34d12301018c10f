-- The lines of findings, word by word. A code that begins with W tells of something wrong, one that begins with U of
-- something unwise.
use Rattle.std.specs.Prelude.{ℕ, ◌+◌, ◌==◌, List, [], ◌∷◌, ◌++◌, length, codes, decimal, Option, Some, None, if◌then◌else◌}
use Rattle.std.specs.List.{flat_map}
use Rattle.acpi_values.specs.declared.dependency.Coord.{Coord}
use Rattle.acpi_values.specs.declared.dependency.Coord.TheVariants.{SwAll, SwAny, HwAll}
use Rattle.acpi_values.specs.declared.fault.Place.{Place}
use Rattle.acpi_values.specs.declared.fault.Why.{Why}
use Rattle.acpi_values.specs.declared.fault.Why.TheVariants as whys
use Rattle.pw_text.specs.Text.{place_text}
use Rattle.pw_plan.specs.declared.domain.DomainKind.{DomainKind}
use Rattle.pw_plan.specs.declared.domain.DomainKind.TheVariants.{Perf, Throttle, Idle}
use Rattle.pw_findings.specs.declared.finding.DomainId.{DomainId}
use Rattle.pw_findings.specs.declared.finding.Finding.{Finding}
use Rattle.pw_findings.specs.declared.finding.FindingKind.{FindingKind}
use Rattle.pw_findings.specs.declared.finding.FindingKind.TheVariants as kinds
use Rattle.pw_findings.specs.declared.finding.OfControl.{OfControl}
use Rattle.pw_findings.specs.declared.finding.OfControl.TheVariants as controls
use Rattle.pw_findings.specs.declared.finding.OfCpc.{OfCpc}
use Rattle.pw_findings.specs.declared.finding.OfCpc.TheVariants as cpc
use Rattle.pw_findings.specs.declared.finding.OfCst.{OfCst}
use Rattle.pw_findings.specs.declared.finding.OfCst.TheVariants as cst
use Rattle.pw_findings.specs.declared.finding.OfDevice.{OfDevice}
use Rattle.pw_findings.specs.declared.finding.OfDevice.TheVariants as devices
use Rattle.pw_findings.specs.declared.finding.OfDomain.{OfDomain}
use Rattle.pw_findings.specs.declared.finding.OfDomain.TheVariants as domains
use Rattle.pw_findings.specs.declared.finding.OfEntry.{OfEntry}
use Rattle.pw_findings.specs.declared.finding.OfEntry.TheVariants as entries
use Rattle.pw_findings.specs.declared.finding.OfIdle.{OfIdle}
use Rattle.pw_findings.specs.declared.finding.OfIdle.TheVariants as idle
use Rattle.pw_findings.specs.declared.finding.OfLimit.{OfLimit}
use Rattle.pw_findings.specs.declared.finding.OfLimit.TheVariants as limits
use Rattle.pw_findings.specs.declared.finding.OfMember.{OfMember}
use Rattle.pw_findings.specs.declared.finding.OfMember.TheVariants as members
use Rattle.pw_findings.specs.declared.finding.OfObject.{OfObject}
use Rattle.pw_findings.specs.declared.finding.OfObject.TheVariants as objects
use Rattle.pw_findings.specs.declared.finding.OfParent.{OfParent}
use Rattle.pw_findings.specs.declared.finding.OfParent.TheVariants as parents
use Rattle.pw_findings.specs.declared.finding.OfRate.{OfRate}
use Rattle.pw_findings.specs.declared.finding.OfRate.TheVariants as rates
use Rattle.pw_findings.specs.declared.finding.OfScale.{OfScale}
use Rattle.pw_findings.specs.declared.finding.OfScale.TheVariants as scales
use Rattle.pw_findings.specs.declared.finding.Shared.{Shared}
use Rattle.pw_findings.specs.declared.finding.Shared.TheVariants.{States, Cpc}
use Rattle.pw_findings.specs.declared.finding.Unread.{Unread}
use Rattle.pw_findings.specs.declared.finding.Unread.TheVariants as unread
use Rattle.pw_findings.specs.declared.finding.Unused.{Unused}
use Rattle.pw_findings.specs.declared.finding.Unused.TheVariants as unused
use Rattle.pw_findings.specs.declared.putting.Word.{Word}
use Rattle.pw_findings.specs.declared.putting.Word.TheVariants as words
use Rattle.pw_findings.specs.declared.words.Name.{Name}
use Rattle.pw_findings.specs.declared.words.Name.TheVariants as names

-- # Words for what has a number or a name in tables

-- what states are of
abbrev pub states_word : DomainKind → List ℕ
states_word Perf = codes "performance"
states_word Throttle = codes "throttling"
states_word Idle = codes "idle"

-- what their rates are in, behind a space
abbrev pub unit_word : DomainKind → List ℕ
unit_word Perf = codes " MHz"
unit_word Throttle = codes " percent"
unit_word Idle = codes " us"

-- a state by its number, and how fast one is
abbrev pub state_words : DomainKind → ℕ → List ℕ
state_words kind state = states_word kind ++ (codes " state " ++ decimal state)

abbrev pub pace_words : DomainKind → ℕ → List ℕ
pace_words kind rate = decimal rate ++ unit_word kind

-- the control registers
abbrev pub control_word : DomainKind → List ℕ
control_word Perf = codes "_PCT"
control_word Throttle = codes "_PTC"
control_word Idle = codes "_CST"

-- the limit at the start
abbrev pub limit_word : DomainKind → List ℕ
limit_word Perf = codes "_PPC"
limit_word Throttle = codes "_TPC"
limit_word Idle = codes "_CST"

-- the declaration of a domain
abbrev pub domain_word : DomainKind → List ℕ
domain_word Perf = codes "_PSD"
domain_word Throttle = codes "_TSD"
domain_word Idle = codes "_CSD"

abbrev pub coord_word : Coord → List ℕ
coord_word SwAll = codes "SW_ALL"
coord_word SwAny = codes "SW_ANY"
coord_word HwAll = codes "HW_ALL"

-- a domain's number
abbrev pub number_words : Option ℕ → List ℕ
number_words None = codes "its own domain"
number_words (Some number) = codes "domain " ++ decimal number

-- what its members share; C states are counted from 1
abbrev pub shared_words : Shared → ℕ → List ℕ
shared_words (States Perf) index = codes " of performance"
shared_words (States Throttle) index = codes " of throttling"
shared_words (States Idle) index = codes " of C state " ++ decimal (index + 1)
shared_words Cpc index = codes " of _CPC"

abbrev pub domain_words : DomainId → List ℕ
domain_words d = number_words d.number ++ shared_words d.of d.index

-- where an object means nothing: an element, or an element of one, both counted from 1
abbrev pub place_words : Place → List ℕ
place_words place =
    if place.outer == 0 then codes "the object" else
    if place.inner == 0 then codes "element " ++ decimal place.outer else
    (codes "element " ++ decimal place.inner) ++ (codes " of element " ++ decimal place.outer)

abbrev pub why_words : Why → List ℕ
why_words whys.Kind = codes "is of the wrong kind"
why_words whys.Count = codes "has a wrong count"
why_words whys.Revision = codes "is no known revision"
why_words whys.Range = codes "is out of range"
why_words whys.Register = codes "is no register"

-- what a limit of plans bounds, by its number, and at how many
abbrev pub bounded_words : ℕ → List ℕ
bounded_words which =
    if which == 1 then codes "containers where this program takes 256" else
    if which == 2 then codes "processors where this program takes 256" else
    if which == 3 then codes "containers inside one another where this program takes 8" else
    if which == 4 then codes "children of a container where this program takes 255" else
    codes "states in a table where this program takes 255"

-- a level of performance, by its place in `_CPC` behind the first two elements
abbrev pub level_words : ℕ → List ℕ
level_words place =
    if place == 0 then codes "highest performance" else
    if place == 1 then codes "nominal performance" else
    if place == 2 then codes "lowest nonlinear performance" else
    codes "lowest performance"

-- a term that isn't read, with its code
abbrev pub unread_words : Unread → List ℕ
unread_words unread.If = codes "U-CODE has an If, which isn't run: what is in it counts as absent"
unread_words unread.Else = codes "U-CODE has an Else, which isn't run: what is in it counts as absent"
unread_words unread.While = codes "U-CODE has a While, which isn't run: what is in it counts as absent"
unread_words unread.PowerResource = codes "U-UNREAD has a power resource, which isn't read: what is in it counts as absent"
unread_words unread.ThermalZone = codes "U-UNREAD has a thermal zone, which isn't read: what is in it counts as absent"

-- the code of why an object isn't used, and what it says
abbrev pub unused_words : Unused → List ℕ
unused_words unused.Method = codes "U-METHOD is a method, which isn't run: it counts as absent"
unused_words unused.Alias = codes "U-ALIAS is an alias, which isn't followed: it counts as absent"
unused_words unused.Empty = codes "U-EMPTY has no states: it counts as absent"
unused_words unused.BesideLpi = codes "U-CST-UNUSED stands beside an _LPI: it isn't used"
unused_words unused.NoSuchState = codes "W-CSD-STATE has an entry about a C state that isn't there: it is dropped"
unused_words (unused.NoStates Perf) = codes "U-STATES-NONE stands without a _PSS: it isn't used"
unused_words (unused.NoStates Throttle) = codes "U-STATES-NONE stands without a _TSS: it isn't used"
unused_words (unused.NoStates Idle) = codes "U-STATES-NONE stands without a _CST: it isn't used"
unused_words (unused.Skipped term) = unread_words term

-- # Lines

-- a word that is one of a few texts
abbrev pub name_text : Name → List ℕ
name_text (names.States kind) = states_word kind
name_text (names.Control kind) = control_word kind
name_text (names.Limit kind) = limit_word kind
name_text (names.Domains kind) = domain_word kind
name_text (names.Coord coord) = coord_word coord
name_text (names.Why why) = why_words why
name_text (names.Bounded which) = bounded_words which
name_text (names.Level place) = level_words place
name_text (names.Unused why) = unused_words why

-- the text of a word
abbrev pub word_text : Word → List ℕ
word_text (words.Text text) = text.now
word_text (words.Number number) = decimal number
word_text (words.Byte number) = decimal number
word_text (words.Count count) = decimal count
word_text (words.Long number) = decimal number
word_text (words.Path path) = place_text path.now.segs
word_text (words.Place place) = place_words place
word_text (words.State kind state) = state_words kind state
word_text (words.Rate kind rate) = pace_words kind rate
word_text (words.Domain id) = domain_words id
word_text (words.Name name) = name_text name

-- each behind a space
abbrev pub behind : List (List ℕ) → List ℕ
behind texts = flat_map (λ t. 32 ∷ t) texts

-- The code of a finding, and what it says: of an object,
abbrev pub object_words : OfObject → List (List ℕ)
object_words (objects.Meaningless place why) = codes "W-OBJECT" ∷ place_words place ∷ why_words why ∷ []
object_words (objects.PastLimit which number) = codes "U-LARGE has" ∷ decimal number ∷ bounded_words which ∷ []
object_words (objects.Unused why) = unused_words why ∷ []

-- of a container or a processor as a device,
abbrev pub device_words : OfDevice → List (List ℕ)
device_words (devices.NotPresent status) =
    codes "U-STA-ABSENT isn't present by its _STA of" ∷ decimal status ∷ codes "and is counted" ∷ []
device_words (devices.NotEnabled status) =
    codes "U-STA-DISABLED is present and not enabled by its _STA of" ∷ decimal status ∷ codes "and is counted" ∷ []
device_words devices.NoUid = codes "W-UID-NONE has no _UID" ∷ []
device_words (devices.SameUid uid earlier) = codes "W-UID-TWICE has _UID" ∷ decimal uid ∷ codes "as" ∷ place_text earlier.segs ∷ []

-- of idle states,
abbrev pub idle_words : OfIdle → List (List ℕ)
idle_words (idle.LatencyFalls state latency before) =
    codes "U-IDLE-LATENCY wakes from idle state" ∷ decimal state ∷ codes "in" ∷ decimal latency
    ∷ codes "us, and from the one before it in" ∷ decimal before ∷ []
idle_words (idle.ResidencyFalls state residency before) =
    codes "U-LPI-RESIDENCY wants" ∷ decimal residency ∷ codes "us in idle state" ∷ decimal state
    ∷ codes "and in the one before it" ∷ decimal before ∷ []

abbrev pub cst_words : OfCst → List (List ℕ)
cst_words (cst.NoC1 kind) = codes "U-CST-C1 has no C1: C state 1 is of type" ∷ decimal kind ∷ []
cst_words (cst.TypeFalls state kind before) =
    codes "U-CST-TYPE has C state" ∷ decimal state ∷ codes "of type" ∷ decimal kind ∷ codes "and the one before it of type"
    ∷ decimal before ∷ []
cst_words (cst.PowerRises state power before) =
    codes "U-CST-POWER takes" ∷ decimal power ∷ codes "mW in C state" ∷ decimal state ∷ codes "and in the one before it"
    ∷ decimal before ∷ []

abbrev pub entry_words : OfEntry → List (List ℕ)
entry_words (entries.NullState state) = codes "W-CST-REGISTER has the null register for C state" ∷ decimal state ∷ []
entry_words (entries.IntegerState state) = codes "U-LPI-INTEGER has an integer for the entry of idle state" ∷ decimal state ∷ []
entry_words (entries.OtherCount count first there) =
    codes "U-CST-STATES has" ∷ decimal count ∷ codes "C states, and" ∷ place_text first.segs ∷ codes "has" ∷ decimal there ∷ []

abbrev pub parent_words : OfParent → List (List ℕ)
parent_words (parents.Past state enables parent count) =
    codes "W-LPI-PARENT enables in idle state" ∷ decimal state ∷ codes "state" ∷ decimal enables ∷ codes "of"
    ∷ place_text parent.segs ∷ codes "which has" ∷ decimal count ∷ []
parent_words (parents.Absent state enables) =
    codes "W-LPI-NOWHERE enables in idle state" ∷ decimal state ∷ codes "state" ∷ decimal enables
    ∷ codes "of a container, and is in none" ∷ []
parent_words (parents.Unreached parent count) =
    codes "U-LPI-NEVER never enables state" ∷ decimal count ∷ codes "of" ∷ place_text parent.segs ∷ []
parent_words (parents.Overflows state number enables parent added) =
    codes "W-LPI-SUM enters idle state" ∷ decimal state ∷ codes "at" ∷ decimal number ∷ codes "and enables state"
    ∷ decimal enables ∷ codes "of" ∷ place_text parent.segs ∷ codes "which adds" ∷ decimal added
    ∷ codes "and ends past 64 bits" ∷ []

-- of performance or throttling states,
abbrev pub scale_words : DomainKind → OfScale → List (List ℕ)
scale_words kind scales.OneState = codes "U-STATES-ONE has one" ∷ states_word kind ∷ codes "state alone" ∷ []
scale_words kind (scales.NoDomain other) =
    codes "U-DOMAIN-NONE has" ∷ states_word kind ∷ codes "states and no" ∷ domain_word kind ∷ codes "while one stands at"
    ∷ place_text other.segs ∷ []
scale_words kind (scales.ControlRepeats r) =
    codes "U-STATES-CONTROL has" ∷ state_words kind r.place ∷ codes "of control value" ∷ decimal r.number
    ∷ codes "as state" ∷ decimal r.earlier ∷ []
scale_words kind (scales.NoLatency state) =
    codes "U-STATES-LATENCY changes to" ∷ state_words kind state ∷ codes "in 0 us" ∷ []

abbrev pub rate_words : DomainKind → OfRate → List (List ℕ)
rate_words kind (rates.Zero state) =
    codes "W-STATES-ZERO has" ∷ state_words kind state ∷ codes "of" ∷ pace_words kind 0 ∷ []
rate_words kind (rates.Rises state rate before) =
    codes "W-STATES-ORDER has" ∷ state_words kind state ∷ codes "of" ∷ pace_words kind rate
    ∷ codes "and the one before it of" ∷ decimal before ∷ []
rate_words kind (rates.Repeats r) =
    codes "U-STATES-TWICE has" ∷ state_words kind r.place ∷ codes "of" ∷ pace_words kind r.number
    ∷ codes "as state" ∷ decimal r.earlier ∷ []

abbrev pub limit_words : DomainKind → OfLimit → List (List ℕ)
limit_words kind (limits.Past limit count) =
    codes "W-LIMIT-PAST has" ∷ decimal count ∷ states_word kind ∷ codes "states, and" ∷ limit_word kind ∷ codes "is"
    ∷ decimal limit ∷ []
limit_words kind (limits.AtStart limit) =
    codes "U-LIMIT-START may not use" ∷ states_word kind ∷ codes "states before state" ∷ decimal limit ∷ codes "at the start" ∷ []
limit_words kind limits.Absent = codes "U-LIMIT-NONE has" ∷ states_word kind ∷ codes "states and no" ∷ limit_word kind ∷ []

abbrev pub control_words : DomainKind → OfControl → List (List ℕ)
control_words kind controls.Absent =
    codes "W-STATES-REGISTER has" ∷ states_word kind ∷ codes "states and no control register in" ∷ control_word kind ∷ []
control_words kind controls.Shared =
    codes "U-REGISTER-SHARED has the control register of performance states in" ∷ control_word kind ∷ codes "too" ∷ []
control_words kind (controls.TwoSpaces control status) =
    codes "U-REGISTER-SPACES has in" ∷ control_word kind ∷ codes "a control register in space" ∷ decimal control
    ∷ codes "and a status register in space" ∷ decimal status ∷ []
control_words kind (controls.PastAccess end room) =
    codes "W-REGISTER-WIDTH has in" ∷ control_word kind ∷ codes "a control register of" ∷ decimal end
    ∷ codes "bits with its offset, where an access takes" ∷ decimal room ∷ []

-- of a domain,
abbrev pub declared_words : DomainId → OfDomain → List (List ℕ)
declared_words id (domains.OtherType coord other there) =
    codes "W-DOMAIN-TYPE declares" ∷ coord_word coord ∷ codes "for" ∷ domain_words id ∷ codes "and" ∷ place_text other.segs
    ∷ codes "declares" ∷ coord_word there ∷ []
declared_words id (domains.OtherNumber processors other there) =
    codes "W-DOMAIN-NUMBER declares" ∷ decimal processors ∷ codes "processors for" ∷ domain_words id ∷ codes "and"
    ∷ place_text other.segs ∷ codes "declares" ∷ decimal there ∷ []
declared_words id (domains.OtherSize processors count) =
    codes "W-DOMAIN-SIZE declares" ∷ decimal processors ∷ codes "processors for" ∷ domain_words id ∷ codes "which has"
    ∷ decimal count ∷ []

abbrev pub member_words : DomainId → OfMember → List (List ℕ)
member_words id (members.OtherLength count other there) =
    codes "W-DOMAIN-STATES has" ∷ decimal count ∷ codes "states in" ∷ domain_words id ∷ codes "and" ∷ place_text other.segs
    ∷ codes "has" ∷ decimal there ∷ []
member_words id (members.NoRegister other) =
    codes "W-DOMAIN-REGISTER is in" ∷ domain_words id ∷ codes "without a control register at" ∷ place_text other.segs ∷ []
member_words id (members.OtherRegister other) =
    codes "U-DOMAIN-APART is in" ∷ domain_words id ∷ codes "with another control register than" ∷ place_text other.segs ∷ []
member_words id (members.OtherControl state value other there) =
    codes "U-DOMAIN-CONTROL writes" ∷ decimal value ∷ codes "for state" ∷ decimal state ∷ codes "in" ∷ domain_words id
    ∷ codes "and" ∷ place_text other.segs ∷ codes "writes" ∷ decimal there ∷ []
member_words id (members.OtherRange lowest highest other from to) =
    codes "U-DOMAIN-RANGE goes from" ∷ decimal lowest ∷ codes "to" ∷ decimal highest ∷ codes "in" ∷ domain_words id
    ∷ codes "and" ∷ place_text other.segs ∷ codes "from" ∷ decimal from ∷ codes "to" ∷ decimal to ∷ []

-- or of continuous performance control
abbrev pub cpc_words : OfCpc → List (List ℕ)
cpc_words (cpc.Disorder upper number lower there) =
    codes "W-CPC-ORDER has" ∷ level_words lower ∷ decimal there ∷ codes "above" ∷ level_words upper ∷ decimal number ∷ []
cpc_words cpc.NoRange = codes "U-CPC-RANGE gives its highest or lowest performance by a register, whose value isn't known" ∷ []
cpc_words cpc.NoDesired = codes "W-CPC-DESIRED has no register for desired performance" ∷ []

abbrev pub kind_words : FindingKind → List (List ℕ)
kind_words (kinds.Object amiss) = object_words amiss
kind_words (kinds.Device amiss) = device_words amiss
kind_words (kinds.Idle amiss) = idle_words amiss
kind_words (kinds.Cst amiss) = cst_words amiss
kind_words (kinds.Entry amiss) = entry_words amiss
kind_words (kinds.Parent amiss) = parent_words amiss
kind_words (kinds.Scale kind amiss) = scale_words kind amiss
kind_words (kinds.Rate kind amiss) = rate_words kind amiss
kind_words (kinds.Limit kind amiss) = limit_words kind amiss
kind_words (kinds.Control kind amiss) = control_words kind amiss
kind_words (kinds.Domain id amiss) = declared_words id amiss
kind_words (kinds.Member id amiss) = member_words id amiss
kind_words (kinds.Cpc amiss) = cpc_words amiss

-- a line: the path of the object, the code, and what it says
abbrev pub finding_line : Finding → List ℕ
finding_line f = place_text f.path.segs ++ (behind (kind_words f.kind) ++ 10 ∷ [])

-- how many findings there are
abbrev pub count_line : ℕ → List ℕ
count_line count = codes "findings " ++ (decimal count ++ 10 ∷ [])

-- the text of findings: a line for each, in their order, and one for their number
unfoldable pub findings_text : List Finding → List ℕ
findings_text found = flat_map finding_line found ++ count_line (length found)
