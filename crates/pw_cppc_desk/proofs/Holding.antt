-- What is held once the start was operated, and once a request was made.
use Rattle.std.proofs.Common.{◌≡◌, ◌+◌, ◌++◌, ◌∷◌, ℕ, List, [], Some, None, Option, Result, Ok, Err, take, refl, sym, ap, ◌∙◌, subst, append-nil, append_assoc, arith}
use Rattle.std.specs.Prelude.{IfErr, OnOk}
use Rattle.std.specs.Result.{result_err}
use Rattle.std.proofs.lemmas.List.Sums.{sum_by_push}
use Rattle.acpi_values.specs.declared.operation.Op.{Op}
use Rattle.pw_regs.specs.declared.registers.Registers.{Ghosts as Registers}
use Rattle.pw_regs.specs.Seen.{registers_seen}
use Rattle.pw_regs.specs.Doing.{Did}
use Rattle.pw_regs.proofs.Operating.{did_as, did_more}
use Rattle.pw_kind.specs.History as histories
use Rattle.pw_cppc.specs.declared.plan.CppcPlan.{CppcPlan}
use Rattle.pw_cppc.specs.declared.request.CppcRequest.{CppcRequest}
use Rattle.pw_cppc.specs.Requests.{opening_bound, ops_bound}
use Rattle.pw_cppc.specs.declared.entry.CppcEntry.{CppcEntry}
use Rattle.pw_cppc.specs.History.{Faultless, entry_ops, fault_at, history_ops, replay, request_of, run_ops, stopped_at}
use Rattle.pw_cppc.specs.Operations.{opening_ops, ops_of}
use Rattle.pw_cppc.proofs.Joining.{faultless_none, request_of-entry}
use Rattle.pw_cppc_desk.specs.Entries.{done_of, entry_as}
use Rattle.pw_cppc_desk.specs.Ledgered.{IsLedgerOf, Ledgered}
use Rattle.pw_cppc_desk.proofs.Entering.{fault_of_stopped, faultless_done, ops_done, ops_more, ops_stopped}
use Rattle.pw_cppc_desk.specs.Slots.{Given, IsHeld, bound_of}

pub no_ops : (P : CppcPlan) → history_ops P [] ≡ []
unfolding histories.history_ops
no_ops P = refl

module _ {R : Type 0} (by : Registers R) (given : Given) where
  -- The operations of the start were done.
  pub held_first : (w : Ledgered R) (old : R) → IsLedgerOf given.plan w → w.entries ≡ [] → w.capacity ≡ given.capacity
      → registers_seen by old ≡ given.regs
      → Did (opening_bound given.plan) (opening_ops given.plan) None (registers_seen by old) (registers_seen by w.regs) → IsHeld by given w
  held_first w old of empty capacity was did =
      let P = given.plan in let new = registers_seen by w.regs in
      let ops : opening_ops P ≡ run_ops P None [] = sym (append-nil (opening_ops P)) ∙ ap (λ (os : List Op). opening_ops P ++ os) (sym (no_ops P)) in
      let all : Did (bound_of P []) (run_ops P None []) None given.regs new =
      subst (λ n. Did n (run_ops P None []) None given.regs new) (let e : opening_bound P ≡ bound_of P [] = omega arith in e)
      (did_as (opening_bound P) (opening_ops P) (run_ops P None []) None None given.regs new ops refl
      (subst (λ s. Did (opening_bound P) (opening_ops P) None s new) was did)) in
      record {
        of = of;
        capacity = capacity;
        did = subst (λ es. Did (bound_of P es) (run_ops P None es) (stopped_at None es) given.regs new) (sym empty) all;
      }

  -- One more request was made, of whose operations those of its entry were done.
  pub held_more : (old new : Ledgered R) (e : CppcEntry) → IsHeld by given old → Faultless old.entries → IsLedgerOf given.plan new
      → new.capacity ≡ old.capacity → new.entries ≡ old.entries ++ e ∷ []
      → Did (ops_bound given.plan (request_of e)) (entry_ops given.plan (replay given.plan old.entries) e) (fault_at new.entries)
      (registers_seen by old.regs) (registers_seen by new.regs)
      → IsHeld by given new
  held_more old new e h none of capacity entry did =
      let P = given.plan in let es = old.entries in let fs = new.entries in let mid = registers_seen by old.regs in let now = registers_seen by new.regs in
      let before : Did (bound_of P es) (run_ops P None es) None given.regs mid = subst (λ s. Did (bound_of P es) (run_ops P None es) s given.regs mid)
      (faultless_none es none) h.did in
      let last = entry_ops P (replay P es) e in
      let ops : run_ops P None es ++ last ≡ run_ops P None (es ++ e ∷ []) = append_assoc (opening_ops P) (history_ops P es) last
      ∙ ap (λ (os : List Op). opening_ops P ++ os) (sym (ops_more P es e)) in
      let bound : bound_of P es + ops_bound P (request_of e) ≡ bound_of P (es ++ e ∷ []) =
      let s = sum_by_push (λ (e : CppcEntry). ops_bound P (request_of e)) es e in omega (arith, s) in
      let all : Did (bound_of P (es ++ e ∷ [])) (run_ops P None (es ++ e ∷ [])) (fault_at fs) given.regs now =
      subst (λ n. Did n (run_ops P None (es ++ e ∷ [])) (fault_at fs) given.regs now) bound
      (subst (λ os. Did (bound_of P es + ops_bound P (request_of e)) os (fault_at fs) given.regs now) ops
      (did_more (bound_of P es) (ops_bound P (request_of e)) (run_ops P None es) last (fault_at fs) given.regs mid now before did)) in
      record {
        of = of;
        capacity = capacity ∙ h.capacity;
        did = subst (λ l. Did (bound_of P l) (run_ops P None l) (fault_at fs) given.regs now) (sym entry) all;
      }

  held_entry : (old new : Ledgered R) (seat : ℕ) (q : CppcRequest) (fault : ℕ) (done : List Op) (stopped : Option ℕ) → IsHeld by given old
      → Faultless old.entries → IsLedgerOf given.plan new → new.capacity ≡ old.capacity
      → new.entries ≡ old.entries ++ entry_as seat q fault ∷ []
      → done ≡ entry_ops given.plan (replay given.plan old.entries) (entry_as seat q fault) → stopped ≡ fault_at new.entries
      → Did (ops_bound given.plan q) done stopped (registers_seen by old.regs) (registers_seen by new.regs) → IsHeld by given new
  held_entry old new seat q fault done stopped h none of capacity entry ops last did =
      let P = given.plan in let e = entry_as seat q fault in let was = registers_seen by old.regs in let now = registers_seen by new.regs in
      let part = entry_ops P (replay P old.entries) e in
      held_more old new e h none of capacity entry (subst (λ r. Did (ops_bound P r) part (fault_at new.entries) was now)
      (sym (request_of-entry seat fault q)) (did_as (ops_bound P q) done part stopped (fault_at new.entries) was now ops last did))

  -- So it is where the work of a turn made a request, whatever came of it.
  pub held_made : {X : Type 0} (old new : Ledgered R) (seat : ℕ) (q : CppcRequest) (result : Result X ℕ) → IsHeld by given old
      → Faultless old.entries → IsLedgerOf given.plan new → new.capacity ≡ old.capacity
      → OnOk result (new.entries ≡ old.entries ++ entry_as seat q 0 ∷ [])
      → IfErr result (λ k. new.entries ≡ old.entries ++ entry_as seat q (k + 1) ∷ [])
      → Did (ops_bound given.plan q) (done_of result (ops_of given.plan (replay given.plan old.entries) q)) (result_err result)
      (registers_seen by old.regs) (registers_seen by new.regs)
      → IsHeld by given new
  held_made old new seat q (Ok x) h none of capacity entry fault did =
      let S = replay given.plan old.entries in
      held_entry old new seat q 0 (ops_of given.plan S q) None h none of capacity entry (sym (ops_done given.plan S seat q))
      (sym (ap fault_at entry ∙ faultless_none (old.entries ++ entry_as seat q 0 ∷ []) (faultless_done old.entries seat q none))) did
  held_made old new seat q (Err k) h none of capacity entry fault did =
      let S = replay given.plan old.entries in
      held_entry old new seat q (k + 1) (take k (ops_of given.plan S q)) (Some k) h none of capacity fault
      (sym (ops_stopped given.plan S seat q k)) (sym (ap fault_at fault ∙ fault_of_stopped old.entries seat q k none)) did
