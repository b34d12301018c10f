-- Operations on registers, one after the other.
use Rattle.std.proofs.Common.{◌≡◌, ◌≤◌, ◌<◌, ◌+◌, ◌++◌, ◌∙◌, ℕ, true, List, [], length, take, Option, None, Result, Ok, Err, refl, ap, sym, arith, append_assoc, append-nil}
use Rattle.std.specs.Prelude.{IfErr, OnErr, OnOk}
use Rattle.std.specs.Result.{result_err}
use Rattle.acpi_values.specs.declared.operation.Op.{Op}
use Rattle.pw_base.specs.Outside.{Rose}
use Rattle.pw_regs.specs.Seen.{RegistersSeen}
use Rattle.pw_regs.specs.Doing.{Did}

-- nothing was done
pub did_nothing : (s : RegistersSeen) → Did 0 [] None s s
did_nothing s = record {
  same_told = refl;
  count = omega arith;
  log = λ told. sym (append-nil s.log);
  fault = λ e. cc;
  promised = λ le. (refl, refl);
  left = omega arith;
}

rose_later : (a b c : ℕ) → a ≤ b → Rose b c → Rose a c
rose_later a b c le rose = λ few. let lt = rose few in omega (arith, le, lt)

-- first these, of which none failed, and then those
pub did_more : (m n : ℕ) (a b : List Op) (stopped : Option ℕ) (old mid new : RegistersSeen) → Did m a None old mid → Did n b stopped mid new → Did (m + n) (a ++ b) stopped old new
did_more m n a b stopped old mid new f l =
    let first = f.left in
    let last = l.left in
    let lower = f.count in
    let upper = l.count in
    record {
      same_told = l.same_told ∙ f.same_told;
      count = omega arith;
      log = λ told. l.log (f.same_told ∙ told) ∙ ap (λ (ops : List Op). ops ++ b) (f.log told) ∙ append_assoc old.log a b;
      fault = λ e. rose_later old.faults mid.faults new.faults lower (l.fault e);
      promised = λ le.
          let before = f.promised (omega arith) in
          let after = l.promised (omega arith) in
          (after.0, after.1 ∙ before.1);
      left = omega arith;
    }

-- of at most so many
pub did_within : (m n : ℕ) (a : List Op) (stopped : Option ℕ) (old new : RegistersSeen) → m ≤ n → Did m a stopped old new → Did n a stopped old new
did_within m n a stopped old new le d =
    let left = d.left in
    record {
      same_told = d.same_told;
      count = d.count;
      log = d.log;
      fault = d.fault;
      promised = λ most. d.promised (omega arith);
      left = omega arith;
    }

-- the same operations, and the same fault
pub did_as : (m : ℕ) (a b : List Op) (s t : Option ℕ) (old new : RegistersSeen) → a ≡ b → s ≡ t → Did m a s old new → Did m b t old new
did_as m a b s t old new ops stopped d = rw (← ops, ← stopped) d

-- # Operations that a journal did

-- those that were done where there were these to do, and they ended so
abbrev pub ops_by : {X : Type 0} → List Op → Result X ℕ → List Op
ops_by ops (Ok x) = ops
ops_by ops (Err k) = take k ops

pub did_by : {X : Type 0} (ops : List Op) (result : Result X ℕ) (old new : RegistersSeen) → new.told ≡ old.told → old.faults ≤ new.faults
    → OnOk result (old.told ≡ true → new.log ≡ old.log ++ ops) → IfErr result (λ k. old.told ≡ true → new.log ≡ old.log ++ take k ops)
    → OnErr result (Rose old.faults new.faults) → OnErr result (old.room < length ops)
    → (length ops ≤ old.room → new.faults ≡ old.faults) → old.room ≤ new.room + length ops
    → Did (length ops) (ops_by ops result) (result_err result) old new
did_by ops (Ok x) old new told count done part failed promised steady left = record {
  same_told = told;
  count = count;
  log = done;
  fault = λ e. cc;
  promised = λ le. (refl, steady le);
  left = left;
}
did_by ops (Err k) old new told count done part failed promised steady left = record {
  same_told = told;
  count = count;
  log = part;
  fault = λ e. failed;
  promised = λ le. absurd (omega (arith, le, promised));
  left = left;
}
