-- What each command promises, in the words of the machine: `docs/PROMISES.md` has the same in sentences.
use Rattle.std.specs.Prelude.{◌≡◌, ◌<◌, ◌≤◌, ◌+◌, ◌^◌, ◌++◌, ◌∷◌, ℕ, Bool, true, false, List, [], length, map, take, slice_index_or, codes, Option, None, Some}
use Rattle.std.specs.List.{AllByRecursion}
use Rattle.acpi_values.specs.declared.dependency.Coord.TheVariants.{SwAll, SwAny, HwAll}
use Rattle.acpi_values.specs.declared.idle.IdleTable.{IdleTable}
use Rattle.acpi_values.specs.declared.lpi.LpiState.{LpiState}
use Rattle.acpi_values.specs.declared.operation.Op.{Op}
use Rattle.acpi_values.specs.declared.performance.PState.{PState}
use Rattle.pw_base.specs.Seen.{Grew, OfFiles}
use Rattle.aml_block.specs.declared.block.Block.{Block}
use Rattle.aml_block.specs.declared.block.Signature.TheVariants.{Ssdt}
use Rattle.pw_text.specs.Lines.{text_of}
use Rattle.pw_text.specs.declared.script.TheConstants.{MOST_OPERATIONS}
use Rattle.pw_plan.specs.declared.plan.Plan.{Plan}
use Rattle.pw_plan.specs.Groups.{has_member, is_software}
use Rattle.pw_plan.specs.Places.{domain_at}
use Rattle.pw_model.specs.declared.entry.HistoryEntry.{HistoryEntry}
use Rattle.pw_model.specs.declared.reply.Reply.{Reply}
use Rattle.pw_model.specs.declared.state.State.{State}
use Rattle.pw_model.specs.States.{ask_of, vote_of}
use Rattle.pw_model.specs.Containers.{container_vote}
use Rattle.pw_model.specs.Domains.{c_state, standing}
use Rattle.pw_model.specs.Answers.{answer}
use Rattle.pw_model.specs.Operations.{opening_ops, ops_of}
use Rattle.pw_model.specs.History.{history_ops, replay, request_of}
use Rattle.pw_model.specs.Laws.{AsksFrom, HasOwnRegisters, IsBehindOwn, IsFitMember, IsLastSetAmong, IsSetToStanding, LimitsWithin, MayEnter}
use Rattle.pw_model.specs.Laws.{MayIdle}
use Rattle.pw_model.specs.Operating.{StartsAll}
use Rattle.pw_regs.specs.Seen.{Operated}
use Rattle.pw_notice.specs.Limits.{own, requests}
use Rattle.pw_script.specs.declared.script.Line.{Line as line}
use Rattle.pw_script.specs.Asking.{IsNarrowRequest}
use Rattle.pw_script.specs.HistoryText.{history_lines, history_text, lines_from}
use Rattle.pw_script.specs.Lawful.{HasLine, IsRunOf}
use Rattle.pw_script.specs.Reading.{operations, refused, requests_of}
use Rattle.pw_script.specs.Telling.{unseated}
use Rattle.pw_script.specs.Wholes.{IsWhole}
use Rattle.pw_audit.specs.declared.form.Form.{Form}
use Rattle.pw_audit.specs.declared.form.Form.TheVariants.{History, Trace}
use Rattle.pw_audit.specs.Traces.{IsSortedFrom}
use Rattle.pw_drive.specs.Drives.{TellSeats}
use Rattle.pw_load.specs.Seen.{Seen}
use Rattle.pw_load.specs.Steps.{AreHeldBy}
use Rattle.pw_words.specs.declared.command.Task.{Task}
use Rattle.pw_tasks.specs.Tasks.{IsTextOf}
use Rattle.pw_generate.specs.Loads.{machine_load}
use Rattle.pw_generate.specs.Machines.{machine_block}
use Rattle.pw_generate.specs.Summary.{AddsUp, labelled, summary_text}
use Rattle.pw_generate.specs.Tables.{container_idle, cpu_idle, cpu_perf, machine_header}
use Rattle.pw_governor.specs.Choices.{IsLawful, Suits, choice}
use Rattle.pw_runs.specs.Histories.{HoldText, lawful_line}
use Rattle.pw_runs.specs.Scripts.{AreLinesIn}
use Rattle.pw_runs.specs.Trials.{IsSummaryOf}
use Rattle.pw_cli.specs.Machines.{IsMachineIn, IsMachineOf}
use Rattle.pw_cli.specs.Served.{IsRefusedFor, IsServed}

-- # Where a machine is

-- Each container is in the deepest enabled state that every child enables and bears, or it runs (ACPI 6.5, 8.4.3.2).
pub record ContainersStand (P : Plan) (S : State) : Type 0 where
  pub may : (n : ℕ) → 0 < (container_vote P S n).state → MayIdle P S n (container_vote P S n).state
  pub deepest : (n i : ℕ) → MayIdle P S n i → i ≤ (container_vote P S n).state

-- Each processor is in the deepest C state up to its vote that its domains let it enter (8.3).
pub record ProcessorsStand (P : Plan) (S : State) : Type 0 where
  pub within : (p : ℕ) → c_state P S p ≤ (vote_of S p).state
  pub may : (p : ℕ) → 0 < c_state P S p → MayEnter P S p (c_state P S p)
  pub deepest : (p j : ℕ) → j ≤ (vote_of S p).state → MayEnter P S p j → j ≤ c_state P S p

-- Each domain that software coordinates stands at the fastest state that a member asks for, or at the slowest limit where that
-- is slower; each member of one that hardware coordinates stands so by its own ask and its own limit (8.3).
pub record DomainsStand (P : Plan) (S : State) : Type 0 where
  pub limits : (d p : ℕ) → is_software (domain_at P d).coord ≡ true → LimitsWithin P S d (standing P S d p)
  pub no_slower : (d p q t : ℕ) → is_software (domain_at P d).coord ≡ true → has_member (domain_at P d).members q ≡ true
      → ask_of (domain_at P d).kind S q ≤ t → LimitsWithin P S d t → standing P S d p ≤ t
  pub no_faster : (d p t : ℕ) → is_software (domain_at P d).coord ≡ true → t ≤ 255 → AsksFrom P S d t → t ≤ standing P S d p
  pub own : (d p : ℕ) → (domain_at P d).coord ≡ HwAll → IsBehindOwn S (domain_at P d).kind p (standing P S d p)
  pub own_fastest : (d p t : ℕ) → (domain_at P d).coord ≡ HwAll → IsBehindOwn S (domain_at P d).kind p t → standing P S d p ≤ t

-- The control register of each member of a fit domain was last set to where the domain stands; of a SW_ANY domain that of the
-- member that was set last (8.4.4.1, 8.4.5.1). A processor that has one register for both kinds of states is left out.
pub record RegistersStand (P : Plan) (S : State) (ops : List Op) : Type 0 where
  pub all : (d p : ℕ) → IsFitMember P SwAll d p → HasOwnRegisters P p → IsSetToStanding P S d p ops
  pub each : (d p : ℕ) → IsFitMember P HwAll d p → HasOwnRegisters P p → IsSetToStanding P S d p ops
  pub any : (d p : ℕ) → IsFitMember P SwAny d p → ((q : ℕ) → has_member (domain_at P d).members q ≡ true → HasOwnRegisters P q)
      → IsLastSetAmong P (domain_at P d).kind (domain_at P d).members (standing P S d p) ops

-- All of it after these entries, with the operations that were done by then.
pub record MachineStands (P : Plan) (es : List HistoryEntry) : Type 0 where
  pub containers : ContainersStand P (replay P es)
  pub processors : ProcessorsStand P (replay P es)
  pub domains : DomainsStand P (replay P es)
  pub registers : RegistersStand P (replay P es) (opening_ops P ++ history_ops P es)

-- # What requests come to

-- Each of these entries is served as the standard says, in the state that the entries before it leave.
abbrev pub AreServed : Plan → List HistoryEntry → Type 0
AreServed P entries = (es later : List HistoryEntry) (e : HistoryEntry) → entries ≡ es ++ e ∷ later
    → IsServed P (replay P es) (replay P (es ++ e ∷ [])) (request_of e) (answer P (replay P es) (request_of e))
    (ops_of P (replay P es) (request_of e))

-- The lines of an entry stand behind those of the entries before it: its request, with the reply in the state that these leave, and its
-- operations.
abbrev pub IsPrinted : Plan → (before : List HistoryEntry) → HistoryEntry → (later : List HistoryEntry) → Type 0
IsPrinted P before e later =
    history_lines P None (before ++ e ∷ later)
    ≡ history_lines P None before ++ lines_from P (replay P before) (1 + length before) (e ∷ later)

-- What is held is a script with these lines, read for this machine.
pub record SaysLines (held : Option (List ℕ)) (P : Plan) (step : Bool) (lines : List line) : Type 0 where
  pub bytes : List ℕ
  pub is : held ≡ Some bytes
  pub good : refused P bytes ≡ None
  pub lines_are : AreLinesIn P step bytes lines
  -- where a line asks for a state within a latency and a residency, the deepest one that suits is chosen, if there is one
  pub suits : (t : IdleTable) (tolerance residency : ℕ) → IsLawful t tolerance residency (choice t tolerance residency)
  pub deepest : (t : IdleTable) (tolerance residency s : ℕ) → s < 2 ^ 32 → Suits t tolerance residency s → s ≤ choice t tolerance residency

-- # A drive

-- What `drive` promises where it ends with status 0, and files that tell.
pub record KeepsDrive (serial step : Bool) (script : List ℕ) (names : List (List ℕ)) (before after : Seen) : Type 0 where
  -- the plan is that of the machine which the blocks in the files describe, and the lines are the script's
  pub plan : Plan
  pub machine : IsMachineIn before.files names plan
  pub lines : List line
  pub scripted : OfFiles before.files (λ holds. SaysLines (holds script) plan step lines)
  -- there is one history, whose text was printed, and no other run of the script has this text
  pub entries : List HistoryEntry
  pub printed : Grew before.outputs.out after.outputs.out (history_text plan None entries)
  pub one : AllByRecursion IsNarrowRequest (requests_of lines) → (other : List HistoryEntry) → IsRunOf plan (requests_of lines) other
      → history_text plan None entries ≡ history_text plan None other → map unseated entries ≡ map unseated other
  -- each processor's requests are its lines, once and in order; of a serial drive all are in the script's order
  pub asked : (p : ℕ) → p < length plan.cpus → own p (requests entries) ≡ own p (requests_of lines)
  pub in_order : serial ≡ true → requests entries ≡ requests_of lines
  -- each is that of a line, made where its processor's limits are those that the line was read with
  pub line_of : (es later : List HistoryEntry) (e : HistoryEntry) → entries ≡ es ++ e ∷ later → HasLine plan (requests_of lines) es e
  -- each reply is that of the state which the entries before it leave
  pub told : (es later : List HistoryEntry) (e : HistoryEntry) → entries ≡ es ++ e ∷ later → IsPrinted plan es e later
  -- it refuses for the first of the standard's reasons that stands, and exactly then, and else tells what then stands
  pub served : AreServed plan entries
  pub refused : (es : List HistoryEntry) (e : HistoryEntry) (why : Reply) → IsRefusedFor plan (replay plan es) (request_of e) why
      → answer plan (replay plan es) (request_of e) ≡ why
  -- after every beginning of the history the machine stands as the standard says
  pub stands : (k : ℕ) → MachineStands plan (take k entries)
  -- the registers were operated as the start and the history say, not otherwise, and not more often than in any script
  pub starts : StartsAll plan (opening_ops plan)
  pub operated : Operated before.regs after.regs (opening_ops plan ++ history_ops plan entries)
  pub few : length (opening_ops plan ++ history_ops plan entries) ≤ MOST_OPERATIONS
  -- by workers: one for each processor
  pub workers : serial ≡ false → TellSeats entries

-- # A load

-- What the containers and the processors of a load may do: the wake latencies of their idle states, in microseconds, and the
-- frequencies, in MHz. Its block is a SSDT of revision 2.
pub record HasLoadTables : Type 0 where
  pub signature : machine_header.signature ≡ Ssdt
  pub revision : machine_header.revision ≡ 2
  pub containers : map (λ (s : LpiState). s.wake_latency) container_idle.states ≡ 100 ∷ 500 ∷ []
  pub processors : map (λ (s : LpiState). s.wake_latency) cpu_idle.states ≡ 10 ∷ 50 ∷ 200 ∷ []
  pub frequencies : map (λ (s : PState). s.frequency) cpu_perf ≡ 2400 ∷ 2000 ∷ 1600 ∷ 1200 ∷ []

-- A line of the summary says of each container in which state it is after these entries.
pub record TellsContainers (P : Plan) (es : List HistoryEntry) (text : List ℕ) : Type 0 where
  pub first : List (List ℕ)
  pub states : List ℕ
  pub rest : List (List ℕ)
  pub says : text ≡ text_of (first ++ labelled (codes "containers") states ∷ rest)
  pub all : length states ≡ length P.containers
  pub are : (n : ℕ) → n < length P.containers → slice_index_or states n 0 ≡ (container_vote P (replay P es) n).state

-- What `generate N` promises where it ends with status 0.
pub record KeepsGenerate (n : ℕ) (before after : Seen) : Type 0 where
  -- the plan is that of the machine of this size, which the generated block describes
  pub plan : Plan
  pub machine : IsMachineOf (machine_block n ∷ []) plan
  pub tables : HasLoadTables
  -- there is one history, in which each processor's requests are those of the load, once and in order
  pub entries : List HistoryEntry
  pub asked : (p : ℕ) → p < length plan.cpus → own p (requests entries) ≡ own p (requests_of (machine_load n).lines)
  -- its summary was printed, which is the one of this size, whatever the order was
  pub text : List ℕ
  pub summary : IsSummaryOf n text
  pub of_history : text ≡ summary_text plan entries
  pub adds_up : AddsUp plan entries
  pub tells : TellsContainers plan entries text
  pub one : (other : List ℕ) → IsSummaryOf n other → other ≡ text
  pub printed : Grew before.outputs.out after.outputs.out text
  pub served : AreServed plan entries
  pub stands : (k : ℕ) → MachineStands plan (take k entries)
  pub operated : Operated before.regs after.regs (opening_ops plan ++ history_ops plan entries)
  pub workers : TellSeats entries

-- # An audit

-- What `audit` promises where it ends with status 0, and files that tell, of a history and of a trace.
pub record KeepsAudit (form : Form) (step : Bool) (script history : List ℕ) (names : List (List ℕ)) (before after : Seen) : Type 0 where
  pub plan : Plan
  pub machine : IsMachineIn before.files names plan
  pub lines : List line
  pub scripted : OfFiles before.files (λ holds. SaysLines (holds script) plan step lines)
  pub few : operations plan lines ≤ MOST_OPERATIONS
  -- the history's file has the whole text of a run of this script, and this many entries are in it, which is what was printed
  pub entries : ℕ
  pub held : HoldText form before.files history plan (requests_of lines) entries
  -- without `--trace` it is the text of a history, and with it the same once its operations are sorted
  pub plain : form ≡ History → IsWhole plan (requests_of lines) held.bytes
  pub sorts : form ≡ Trace → (text : List ℕ) × IsWhole plan (requests_of lines) text × IsSortedFrom plan held.bytes text
  pub printed : Grew before.outputs.out after.outputs.out (lawful_line entries)
  pub still : after.regs ≡ before.regs

-- # Blocks

-- What `show`, `show --json`, `rewrite`, `check` and `lint` promise where they end with status 0, and files that tell.
pub record KeepsTask (task : Task) (names : List (List ℕ)) (before after : Seen) : Type 0 where
  -- the files hold these blocks, and no others
  pub blocks : List Block
  pub held : AreHeldBy before.files names blocks
  pub only : (other : List Block) → AreHeldBy before.files names other → other ≡ blocks
  -- the task's text of them, which is the only one, was printed
  pub text : List ℕ
  pub made : IsTextOf task blocks text
  pub one : (other : List ℕ) → IsTextOf task blocks other → other ≡ text
  pub printed : Grew before.outputs.out after.outputs.out text
  pub still : after.regs ≡ before.regs
