-- What the work did, as a run tells it.
use Rattle.std.proofs.Common.{◌≡◌, ◌+◌, ◌++◌, ◌∷◌, ℕ, true, List, [], take, Some, None, Result, Ok, Err, refl, sym, arith}
use Rattle.std.specs.Prelude.{IfErr, OnOk, is_some}
use Rattle.std.specs.Result.{result_err}
use Rattle.pw_regs.specs.Seen.{RegistersSeen}
use Rattle.pw_regs.specs.Doing.{Did}
use Rattle.pw_regs.proofs.Operating.{did_as, did_more, did_within}
use Rattle.pw_cppc.specs.declared.plan.CppcPlan.{CppcPlan}
use Rattle.pw_cppc.specs.declared.request.CppcRequest.{CppcRequest}
use Rattle.pw_cppc.specs.Requests.{opening_bound, ops_bound}
use Rattle.pw_cppc.specs.declared.entry.CppcEntry.{CppcEntry}
use Rattle.pw_cppc.specs.declared.reply.CppcReply.{CppcReply}
use Rattle.pw_cppc.specs.History.{Faultless, Legal, entry_ops, fault_at, history_ops, replay}
use Rattle.pw_cppc.specs.Operations.{opening_ops, ops_of}
use Rattle.pw_cppc.proofs.Joining.{faultless_none, request_of-entry}
use Rattle.pw_cppc_desk.specs.Entries.{done_of, entry_as}
use Rattle.pw_cppc_desk.proofs.Entering.{fault_of_stopped, faultless_done, ops_done, ops_stopped, seat_of-entry}
use Rattle.pw_cppc_drive.specs.declared.script.CppcLine.{CppcLine as line}
use Rattle.pw_cppc_drive.specs.Reading.{operations}
use Rattle.pw_cppc_drive.specs.inner.Running.{Ran, Turned}
use Rattle.pw_cppc_drive.specs.Driven.{OperatesFor}

-- # A request

module _ (P : CppcPlan) (q : CppcRequest) (es fs : List CppcEntry) (old new : RegistersSeen) (none : Faultless es) (legal : Legal P fs) where
  pub turned : (result : Result CppcReply ℕ) → OnOk result (fs ≡ es ++ entry_as 0 q 0 ∷ []) → IfErr result (λ k. fs ≡ es ++ entry_as 0 q (k + 1) ∷ [])
      → Did (ops_bound P q) (done_of result (ops_of P (replay P es) q)) (result_err result) old new → Turned P q es fs old new
  turned (Ok reply) done fault did = record {
    entry = entry_as 0 q 0;
    is = done;
    seat = seat_of-entry 0 q 0;
    request = request_of-entry 0 0 q;
    legal = legal;
    did = did_as (ops_bound P q) (ops_of P (replay P es) q) (entry_ops P (replay P es) (entry_as 0 q 0)) None (fault_at fs) old new
        (sym (ops_done P (replay P es) 0 q)) (sym (faultless_none fs (rw done (faultless_done es 0 q none)))) did;
  }
  turned (Err k) done fault did = record {
    entry = entry_as 0 q (k + 1);
    is = fault;
    seat = seat_of-entry 0 q (k + 1);
    request = request_of-entry 0 (k + 1) q;
    legal = legal;
    did = did_as (ops_bound P q) (take k (ops_of P (replay P es) q)) (entry_ops P (replay P es) (entry_as 0 q (k + 1))) (Some k) (fault_at fs) old new
        (sym (ops_stopped P (replay P es) 0 q k)) (sym (rw fault (fault_of_stopped es 0 q k none))) did;
  }

  pub goes_on : fs ≡ es ++ entry_as 0 q 0 ∷ [] → Faultless fs
  goes_on done = rw done (faultless_done es 0 q none)

  pub stops : (k : ℕ) → fs ≡ es ++ entry_as 0 q (k + 1) ∷ [] → is_some (fault_at fs) ≡ true
  stops k fault = rw (fault, fault_of_stopped es 0 q k none) refl

-- # A run

module _ (P : CppcPlan) (lines : List line) (old mid new : RegistersSeen) where
  -- the start was ended by a fault
  pub ended : (k : ℕ) → Did (opening_bound P) (take k (opening_ops P)) (Some k) old new → OperatesFor P (operations P lines) (Some k) [] old new
  ended k did = did_within (opening_bound P) (operations P lines) (take k (opening_ops P)) (Some k) old new (omega arith) did

  pub ran_on : (es : List CppcEntry) → Did (opening_bound P) (opening_ops P) None old mid → Ran P lines es mid new → OperatesFor P (operations P lines) None es old new
  ran_on es did ran = did_more (opening_bound P) _ (opening_ops P) (history_ops P es) (fault_at es) old mid new did ran.did
