-- What the caller said of its operations: that all were done, or after how many a register failed.
use Rattle.std.proofs.Common.{◌≡◌, ◌++◌, ◌∷◌, [], ℕ, List, Result, Ok, Err, OnOk, OnErr, IfErr, refl, subst}
use Rattle.acpi_values.specs.declared.operation.Op.{Op}
use Rattle.pw_plan.specs.declared.request.Request.{Request}
use Rattle.pw_model.specs.declared.entry.HistoryEntry.{HistoryEntry}
use Rattle.pw_model.specs.declared.reply.Reply.{Reply}
use Rattle.pw_model.specs.History.{replay}
use Rattle.pw_model.specs.Operations.{ops_of}
use Rattle.pw_machine.specs.declared.view.View.{View}
use Rattle.pw_machine.specs.Machine.{Given}
use Rattle.pw_machine.specs.Steps.{Kind, release_with_entry}
use Rattle.pw_turns.specs.Asked.{entry_as}
use Rattle.pw_turns.specs.Begun.{fault_by, told_by}
use Rattle.pw_turns.specs.Finished.{try_of}
use Rattle.pw_turns.specs.Listed.{Lists}
use Rattle.pw_turns.specs.Told.{KeepsMet, Told}
use Rattle.pw_turns.specs.Went.{OneMore}
use Rattle.pw_turns.specs.declared.waited.Done.{Done}
use Rattle.pw_turns.specs.declared.waited.Done.TheVariants.{Answer, RegisterFault}

pub on_ok : {P : Type 0} (d : Result Unit ℕ) (u : Unit) → d ≡ Ok u → OnOk d P → P
on_ok (Ok v) u e p = p
on_ok (Err k) u e p = absurd (cc)

pub on_err : {P : Type 0} (d : Result Unit ℕ) (k : ℕ) → d ≡ Err k → OnErr d P → P
on_err (Ok v) k e p = absurd (cc)
on_err (Err l) k e p = p

pub if_err : (F : ℕ → Type 0) (d : Result Unit ℕ) (k : ℕ) → d ≡ Err k → IfErr d F → F k
if_err F (Ok v) k e p = absurd (cc)
if_err F (Err l) k e p = let same : l ≡ k = cc in subst F same p

pub keeps_told : (given : Given) (v : View) (q : Request) (reply : Reply) (done : Result Unit ℕ) (w : View) → Told given v q (told_by reply done) w
    → KeepsMet v w
keeps_told given v q reply (Ok done) w t = t.1
keeps_told given v q reply (Err k) w t = t.1

-- the step that gives the journal back has the entry's number and fault
pub more_as : (n m : ℕ) (q : Request) (fault said : ℕ) (count : ℕ) (o o1 : List Kind) → n ≡ m → fault ≡ said
    → OneMore o (release_with_entry (entry_as n q fault) count) o1 → (count : ℕ) × OneMore o (release_with_entry (entry_as m q said) count) o1
more_as n m q fault said count o o1 same told more = (
  count,
  subst (λ f. OneMore o (release_with_entry (entry_as m q f) count) o1) told
      (subst (λ n. OneMore o (release_with_entry (entry_as n q fault) count) o1) same more),
)

-- the operations are those of the entry
pub lists_said : (given : Given) (number : ℕ) (q : Request) (reply : Reply) (done : Result Unit ℕ) (history seen : List HistoryEntry) (ops : List Op)
    → seen ≡ history ++ entry_as number q (fault_by done) ∷ [] → ops ≡ ops_of given.plan (replay given.plan history) q
    → Lists given number q (told_by reply done) seen ops
lists_said given number q reply (Ok done) history seen ops is are = record { history = history; is = is; are = are }
lists_said given number q reply (Err k) history seen ops is are = record { history = history; is = is; are = are }

-- a request that waits is told the same
abbrev pub said : Reply → Result Unit ℕ → Done
said reply (Ok done) = Answer reply
said reply (Err k) = RegisterFault k

pub said_is : (reply : Reply) (done : Result Unit ℕ) → told_by reply done ≡ try_of (said reply done)
said_is reply (Ok done) = refl
said_is reply (Err k) = refl
