-- What came of a script's lines, as a history.
use Rattle.std.proofs.Common.{◌≡◌, ℕ, Bool, true, false, cond, List, [], ◌∷◌, Option, Some, None, refl, ap, ◌∙◌, ◌==◌, arith}
use Rattle.std.specs.List.{AllByRecursion}
use Rattle.std.proofs.lemmas.Bool.{eqb-true, eqb-false}
use Rattle.pw_regs.specs.Seen.{RegistersSeen}
use Rattle.pw_cppc.specs.declared.plan.CppcPlan.{CppcPlan}
use Rattle.pw_cppc.specs.declared.request.CppcRequest.{CppcRequest}
use Rattle.pw_cppc.specs.declared.request.CppcRequest.TheVariants.{Desired, Minimum, Maximum}
use Rattle.pw_cppc.specs.declared.entry.CppcEntry.{CppcEntry}
use Rattle.pw_cppc.specs.History.{Faultless, StatesRequest, entry_of, request_of, requests, stopped_at}
use Rattle.pw_cppc.proofs.Joining.{fault_none}
use Rattle.pw_cppc_drive.specs.declared.script.CppcLine.{CppcLine}
use Rattle.pw_cppc_drive.specs.HistoryText.{history_text}
use Rattle.pw_cppc_drive.specs.Reading.{requests_of}
use Rattle.pw_cppc_drive.specs.Lawful.{Lawful}
use Rattle.pw_runs.specs.CppcRuns.{IsSerialRun, entries_of}

-- the entries of a history that lines allow state requests
pub entries_state : (P : CppcPlan) (asked : List CppcRequest) (opening : Option ℕ) (es : List CppcEntry) → Lawful P asked opening es
    → AllByRecursion (StatesRequest P) es
entries_state P asked (Some k) es run = rw run.1 tt
entries_state P asked None es run = run.0.well_formed.entries

-- an entry that is no fault is that of its request
of_request : (P : CppcPlan) (e : CppcEntry) → StatesRequest P e → e.seat ≡ 0 → e.fault ≡ 0 → entry_of 0 (request_of e) ≡ e
of_request P e states seat fault = by (e.code == 1) (e.code == 2) refl refl
  where
    made : (k : ℕ) → e.code ≡ k → record { seat = 0; cpu = e.cpu; code = k; argument = e.argument; fault = 0 } ≡ e
    made k c =
        let same : record { seat = 0; cpu = e.cpu; code = k; argument = e.argument; fault = 0 }
        ≡ record { seat = e.seat; cpu = e.cpu; code = e.code; argument = e.argument; fault = e.fault } = cc in
        same

    by : (a b : Bool) → (e.code == 1) ≡ a → (e.code == 2) ≡ b
        → entry_of 0 (cond a (Desired e.cpu e.argument) (cond b (Minimum e.cpu e.argument) (Maximum e.cpu e.argument))) ≡ e
    by true b k1 k2 = made 1 (eqb-true e.code 1 k1)
    by false true k1 k2 = made 2 (eqb-true e.code 2 k2)
    by false false k1 k2 =
        let from = states.code_from in
        let to = states.code_to in
        let n1 = eqb-false e.code 1 k1 in
        let n2 = eqb-false e.code 2 k2 in
        made 3 (omega arith)

-- such entries are those of their requests
entries_back : (P : CppcPlan) (es : List CppcEntry) → AllByRecursion (StatesRequest P) es → AllByRecursion (λ (e : CppcEntry). e.seat ≡ 0) es → Faultless es
    → es ≡ entries_of (requests es)
entries_back P [] states seats faults = refl
entries_back P (e ∷ es) states seats faults =
    let first : entry_of 0 (request_of e) ≡ e = of_request P e states.0 seats.0 faults.0 in
    let rest : es ≡ entries_of (requests es) = entries_back P es states.1 seats.1 faults.1 in
    cc

-- a run of lines in which no register failed has the entries of their requests
whole_entries : (P : CppcPlan) (lines : List CppcLine) (opening : Option ℕ) (es : List CppcEntry) (old new : RegistersSeen) → IsSerialRun P lines opening es old new
    → stopped_at opening es ≡ None → es ≡ entries_of (requests_of lines)
whole_entries P lines (Some k) es old new run none = absurd (cc)
whole_entries P lines None es old new run none =
    let faultless = fault_none es none in
    entries_back P es run.lawful.legal.well_formed.entries run.seats faultless ∙ ap entries_of (run.lawful.whole faultless)

-- And so their history.
pub whole_history : (P : CppcPlan) (lines : List CppcLine) (opening : Option ℕ) (es : List CppcEntry) (old new : RegistersSeen) → IsSerialRun P lines opening es old new
    → stopped_at opening es ≡ None → history_text P opening es ≡ history_text P None (entries_of (requests_of lines))
whole_history P lines (Some k) es old new run none = absurd (cc)
whole_history P lines None es old new run none = ap (λ (l : List CppcEntry). history_text P None l) (whole_entries P lines None es old new run none)
