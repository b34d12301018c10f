-- One request on records and registers.
use Rattle.std.proofs.Common.{◌≡◌, ◌≤◌, ◌<◌, ◌++◌, ◌∷◌, ◌∙◌, ℕ, List, [], length, take, Some, None, Result, Ok, Err, refl, ap, sym, subst, arith}
use Rattle.std.specs.Prelude.{IfErr, OnErr, OnOk}
use Rattle.std.specs.Result.{result_err}
use Rattle.acpi_values.specs.declared.operation.Op.{Op}
use Rattle.pw_plan.specs.declared.plan.Plan.{Plan}
use Rattle.pw_plan.specs.declared.request.Request.{Request}
use Rattle.pw_plan.specs.Requests.{Has, opening_bound, ops_bound}
use Rattle.pw_kind.specs.History as histories
use Rattle.pw_model.specs.declared.entry.HistoryEntry.{HistoryEntry}
use Rattle.pw_model.specs.declared.reply.Reply.{Reply}
use Rattle.pw_model.specs.Answers.{after, answer}
use Rattle.pw_model.specs.History.{Faultless, Legal, entry_of, entry_ops, fault_at, replay, replies}
use Rattle.pw_model.specs.Operations.{opening_ops, ops_of}
use Rattle.pw_model.proofs.Bounds.{opening_ops-length, ops_of-le}
use Rattle.pw_model.proofs.Joining.{faultless_none, legal-empty, request_of-entry}
use Rattle.pw_model.specs.Locality.{AllTold}
use Rattle.pw_model.specs.Records.{IsRecord, Record, part_of}
use Rattle.pw_model.specs.Calls.{opening_part}
use Rattle.pw_model.proofs.Calls.{opens_right}
use Rattle.pw_journal.specs.Entries.{fault_entry}
use Rattle.pw_regs.specs.Seen.{RegistersSeen}
use Rattle.pw_drive.specs.declared.records.Records.{Records}
use Rattle.pw_regs.specs.Doing.{Did}
use Rattle.pw_drive.specs.Keeping.{AreRecordsOf, part_in}
use Rattle.pw_drive.specs.inner.Running.{Keeps, Stands, Turned, opening_done}
use Rattle.pw_drive.specs.inner.Midway.{Undone}
use Rattle.pw_drive.proofs.Entering.{faultless_done, legal_done, legal_stopped, ops_done, ops_stopped, replay_done, replay_stopped, replies_done, replies_stopped, seat_of-entry, stopped_last}
use Rattle.pw_regs.proofs.Operating.{did_as, did_within, ops_by}

module _ (P : Plan) (q : Request) (es : List HistoryEntry) (has : Has P q) (legal : Legal P es) (faultless : Faultless es) where
  pub few_ops : (ops : List Op) → ops ≡ ops_of P (replay P es) q → length ops ≤ ops_bound P q
  few_ops ops is = let le = ops_of-le P (replay P es) q in let same = ap length is in omega (arith, le, same)

  turned_done : (ops : List Op) (fs : List HistoryEntry) (old new : RegistersSeen) → ops ≡ ops_of P (replay P es) q → fs ≡ es ++ entry_of 0 q ∷ []
      → Did (length ops) ops None old new → Turned P q es fs old new
  turned_done ops fs old new is entries did = rw entries (record {
    entry = entry_of 0 q;
    is = refl;
    seat = seat_of-entry 0 q;
    request = request_of-entry 0 q;
    legal = legal_done P es q legal faultless has;
    did = did_as (ops_bound P q) ops (entry_ops P (replay P es) (entry_of 0 q)) None (fault_at (es ++ entry_of 0 q ∷ [])) old new
        (is ∙ sym (ops_done P (replay P es) q)) (sym (faultless_none (es ++ entry_of 0 q ∷ []) (faultless_done es q faultless)))
        (did_within (length ops) (ops_bound P q) ops None old new (few_ops ops is) did);
  })

  turned_stopped : (ops : List Op) (k : ℕ) (fs : List HistoryEntry) (old new : RegistersSeen) → ops ≡ ops_of P (replay P es) q → fs ≡ es ++ fault_entry 0 q k ∷ [] → k < length ops
      → Did (length ops) (take k ops) (Some k) old new → Turned P q es fs old new
  turned_stopped ops k fs old new is entries lt did = rw entries (record {
    entry = fault_entry 0 q k;
    is = refl;
    seat = seat_of-entry 0 q;
    request = request_of-entry 0 q;
    legal = legal_stopped P es q k legal faultless has (subst (λ (os : List Op). k < length os) is lt);
    did = did_as (ops_bound P q) (take k ops) (entry_ops P (replay P es) (fault_entry 0 q k)) (Some k) (fault_at (es ++ fault_entry 0 q k ∷ [])) old new
        (ap (take k) is ∙ sym (ops_stopped P (replay P es) q k)) (sym (stopped_last es q k faultless))
        (did_within (length ops) (ops_bound P q) (take k ops) (Some k) old new (few_ops ops is) did);
  })

  -- however the journal's call ended
  pub turned : {X : Type 0} (ops : List Op) (result : Result X ℕ) (fs : List HistoryEntry) (old new : RegistersSeen) → ops ≡ ops_of P (replay P es) q
      → OnOk result (fs ≡ es ++ entry_of 0 q ∷ []) → IfErr result (λ k. fs ≡ es ++ fault_entry 0 q k ∷ []) → IfErr result (λ k. k < length ops)
      → Did (length ops) (ops_by ops result) (result_err result) old new → Turned P q es fs old new
  turned ops (Ok x) fs old new is entry fault within did = turned_done ops fs old new is entry did
  turned ops (Err k) fs old new is entry fault within did = turned_stopped ops k fs old new is fault within did

  -- # The records, once the journal's call ended

  module _ {X : Type 0} (fs : List HistoryEntry) (R : Records) (are : AreRecordsOf P R) where
    pub stands_after : (result : Result X ℕ) → OnOk result (fs ≡ es ++ entry_of 0 q ∷ []) → AllTold P (after P (replay P es) q) (part_in R)
        → OnOk result (Stands P fs R)
    stands_after (Ok x) entry told = rw entry (record {
      legal = legal_done P es q legal faultless has;
      faultless = faultless_done es q faultless;
      keeps = record { of = are; told = λ r is. ap (λ S. part_of P S r) (replay_done P es q) ∙ told r is };
    })
    stands_after (Err k) entry told = tt

    pub undone_after : (result : Result X ℕ) → IfErr result (λ k. fs ≡ es ++ fault_entry 0 q k ∷ []) → OnErr result (Undone P es fs R R)
    undone_after (Ok x) fault = tt
    undone_after (Err k) fault = record {
      of = are;
      parts = λ r is. refl;
      state = ap (replay P) fault ∙ replay_stopped P es q k;
      stopped = rw (fault, stopped_last es q k faultless) refl;
    }

-- the reply, where the journal's call ended well, and none where it didn't
pub replied_done : (P : Plan) (es fs : List HistoryEntry) (q : Request) (reply : Reply) → fs ≡ es ++ entry_of 0 q ∷ [] → reply ≡ answer P (replay P es) q → replies P fs ≡ replies P es ++ reply ∷ []
replied_done P es fs q reply entry is = ap (replies P) entry ∙ replies_done P es q ∙ ap (λ r. replies P es ++ r ∷ []) (sym is)

pub replied_stopped : (P : Plan) (es fs : List HistoryEntry) (q : Request) (k : ℕ) → fs ≡ es ++ fault_entry 0 q k ∷ [] → replies P fs ≡ replies P es
replied_stopped P es fs q k entry = ap (replies P) entry ∙ replies_stopped P es q k

-- what the records keep, however a request ended
pub keeps_after : {T E : Type 0} (P : Plan) (es fs : List HistoryEntry) (was now : Records) (result : Result T E) → Keeps P es was
    → OnOk result (Stands P fs now) → OnErr result (Undone P es fs was now) → Keeps P fs now
keeps_after P es fs was now (Ok x) keeps stands undone = stands.keeps
keeps_after P es fs was now (Err k) keeps stands undone = record {
  of = undone.of;
  told = λ r is. ap (λ S. part_of P S r) undone.state ∙ keeps.told r is ∙ sym (undone.parts r is);
}

-- # At the start

pub opening_did : {X : Type 0} (P : Plan) (ops : List Op) (result : Result X ℕ) (old new : RegistersSeen) → ops ≡ opening_ops P
    → Did (length ops) (ops_by ops result) (result_err result) old new → Did (opening_bound P) (opening_done P (result_err result)) (result_err result) old new
opening_did P ops (Ok x) old new is did = did_as (opening_bound P) ops (opening_ops P) None None old new is refl (rw (ap length is ∙ opening_ops-length P) at did)
opening_did P ops (Err k) old new is did =
    did_as (opening_bound P) (take k ops) (take k (opening_ops P)) (Some k) (Some k) old new (ap (take k) is) refl (rw (ap length is ∙ opening_ops-length P) at did)

pub opening_few : (P : Plan) (ops : List Op) → ops ≡ opening_ops P → length ops ≡ opening_bound P
opening_few P ops is = ap length is ∙ opening_ops-length P

-- the records at the start
pub stands_first : (P : Plan) (R : Records) → AreRecordsOf P R → ((r : Record) → IsRecord P r → part_in R r ≡ opening_part P r) → Stands P [] R
unfolding histories.replay
stands_first P R of parts = record { legal = legal-empty P; faultless = tt; keeps = record { of = of; told = λ r is. opens_right P r ∙ sym (parts r is) } }
