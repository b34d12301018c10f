-- What came of a script's lines, as a history.
use Rattle.std.proofs.Common.{◌≡◌, ◌≢◌, ℕ, Bool, true, false, cond, List, [], ◌∷◌, Option, Some, None, refl, sym, ap, ◌∙◌, ◌==◌, arith}
use Rattle.std.specs.List.{AllByRecursion}
use Rattle.std.proofs.lemmas.Bool.{eqb-true, eqb-false}
use Rattle.pw_plan.specs.declared.plan.Plan.{Plan}
use Rattle.pw_plan.specs.declared.request.Request.{Request}
use Rattle.pw_plan.specs.declared.request.Request.TheVariants.{Idle, Wake, Perf, Throttle, PerfLimit, ThrottleLimit}
use Rattle.pw_model.specs.declared.entry.HistoryEntry.{HistoryEntry}
use Rattle.pw_model.specs.States.{any_latency}
use Rattle.pw_model.specs.History.{Faultless, IsEntry, StatesRequest, entry_of, request_of}
use Rattle.pw_model.proofs.Joining.{fault_none}
use Rattle.pw_notice.specs.Limits.{requests}
use Rattle.pw_regs.specs.Seen.{RegistersSeen}
use Rattle.pw_script.specs.declared.script.Line.{Line as line}
use Rattle.pw_script.specs.HistoryText.{history_text}
use Rattle.pw_script.specs.Lawful.{Lawful}
use Rattle.pw_script.specs.Reading.{requests_of}
use Rattle.pw_drive.specs.Driven.{stopped_at}
use Rattle.pw_runs.specs.Runs.{IsSerialRun, entries_of}
use Rattle.pw_base.proofs.Facts.{weaker}

-- the entries of a history that lines allow state requests
pub entries_state : (P : Plan) (asked : List Request) (opening : Option ℕ) (es : List HistoryEntry) → Lawful P asked opening es
    → AllByRecursion (StatesRequest P) es
entries_state P asked (Some k) es run = rw run.1 tt
entries_state P asked None es run = weaker (IsEntry P) (StatesRequest P) (λ e is. is.states) es run.legal.well_formed.entries

-- what is known of an entry that the run of a script made, and that is no fault
record IsMade (P : Plan) (e : HistoryEntry) : Type 0 where
  pub is : IsEntry P e
  pub seat : e.seat ≡ 0
  pub fault : e.fault ≡ 0

-- such an entry is that of its request
of_request : (P : Plan) (e : HistoryEntry) → IsMade P e → entry_of 0 (request_of e) ≡ e
of_request P e m = by (e.code == 1) (e.code == 2) (e.code == 3) (e.code == 4) (e.code == 5) refl refl refl refl refl
  where
    is : IsEntry P e
    is = m.is

    any : (k : ℕ) → e.code ≡ k → k ≢ 1 → e.tolerance ≡ any_latency
    any k at ne = is.others (λ one. ne (sym at ∙ one))

    made : (k a t : ℕ) → e.code ≡ k → e.argument ≡ a → e.tolerance ≡ t → record { seat = 0; cpu = e.cpu; code = k; argument = a; tolerance = t; fault = 0 } ≡ e
    made k a t c h g =
        let s = m.seat in
        let f = m.fault in
        let same : record { seat = 0; cpu = e.cpu; code = k; argument = a; tolerance = t; fault = 0 }
        ≡ record { seat = e.seat; cpu = e.cpu; code = e.code; argument = e.argument; tolerance = e.tolerance; fault = e.fault } = cc in
        same

    by : (a b c d f : Bool) → (e.code == 1) ≡ a → (e.code == 2) ≡ b → (e.code == 3) ≡ c → (e.code == 4) ≡ d → (e.code == 5) ≡ f
        → entry_of 0 (cond a (Idle e.cpu e.argument e.tolerance) (cond b (Wake e.cpu) (cond c (Perf e.cpu e.argument) (cond d (Throttle e.cpu e.argument)
        (cond f (PerfLimit e.cpu e.argument) (ThrottleLimit e.cpu e.argument)))))) ≡ e
    by true b c d f k1 k2 k3 k4 k5 = made 1 e.argument e.tolerance (eqb-true e.code 1 k1) refl refl
    by false true c d f k1 k2 k3 k4 k5 = let k = eqb-true e.code 2 k2 in made 2 0 any_latency k (is.wake k) (any 2 k (omega arith))
    by false false true d f k1 k2 k3 k4 k5 = let k = eqb-true e.code 3 k3 in made 3 e.argument any_latency k refl (any 3 k (omega arith))
    by false false false true f k1 k2 k3 k4 k5 = let k = eqb-true e.code 4 k4 in made 4 e.argument any_latency k refl (any 4 k (omega arith))
    by false false false false true k1 k2 k3 k4 k5 = let k = eqb-true e.code 5 k5 in made 5 e.argument any_latency k refl (any 5 k (omega arith))
    by false false false false false k1 k2 k3 k4 k5 =
        let from = is.states.code_from in
        let to = is.states.code_to in
        let n1 = eqb-false e.code 1 k1 in
        let n2 = eqb-false e.code 2 k2 in
        let n3 = eqb-false e.code 3 k3 in
        let n4 = eqb-false e.code 4 k4 in
        let n5 = eqb-false e.code 5 k5 in
        let k : e.code ≡ 6 = omega arith in
        made 6 e.argument any_latency k refl (any 6 k (omega arith))

-- such entries are those of their requests
entries_back : (P : Plan) (es : List HistoryEntry) → AllByRecursion (IsEntry P) es → AllByRecursion (λ (e : HistoryEntry). e.seat ≡ 0) es → Faultless es
    → es ≡ entries_of (requests es)
entries_back P [] is seats faults = refl
entries_back P (e ∷ es) is seats faults =
    let first : entry_of 0 (request_of e) ≡ e = of_request P e (record { is = is.0; seat = seats.0; fault = faults.0 }) in
    let rest : es ≡ entries_of (requests es) = entries_back P es is.1 seats.1 faults.1 in
    cc

-- A run of lines in which no register failed has the entries of their requests.
pub whole_entries : (P : Plan) (lines : List line) (opening : Option ℕ) (es : List HistoryEntry) (old new : RegistersSeen) → IsSerialRun P lines opening es old new
    → stopped_at opening es ≡ None → es ≡ entries_of (requests_of lines)
whole_entries P lines (Some k) es old new run none = absurd (cc)
whole_entries P lines None es old new run none =
    let faultless = fault_none es none in
    let legal = run.lawful.legal in
    entries_back P es legal.well_formed.entries run.seats faultless ∙ ap entries_of (run.lawful.whole faultless)

-- And so their history.
pub whole_history : (P : Plan) (lines : List line) (opening : Option ℕ) (es : List HistoryEntry) (old new : RegistersSeen) → IsSerialRun P lines opening es old new
    → stopped_at opening es ≡ None → history_text P opening es ≡ history_text P None (entries_of (requests_of lines))
whole_history P lines (Some k) es old new run none = absurd (cc)
whole_history P lines None es old new run none = ap (λ (l : List HistoryEntry). history_text P None l) (whole_entries P lines None es old new run none)
