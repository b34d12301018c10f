-- One more entry in a history.
use Rattle.std.proofs.Common.{◌≡◌, ◌≤◌, ◌<◌, ◌+◌, ◌-◌, ◌==◌, ◌++◌, ◌∷◌, ◌∙◌, ℕ, suc, zero, Bool, true, false, Option, List, [], length, take, Some, None, refl, ap, sym, inl, inr, arith, append-nil}
use Rattle.std.specs.Prelude.{is_some, nat_lt}
use Rattle.std.proofs.lemmas.Bool.Decides.{nat_tests}
use Rattle.acpi_values.specs.declared.operation.Op.{Op}
use Rattle.pw_plan.proofs.Lists.{each_append}
use Rattle.pw_cppc.specs.declared.plan.CppcPlan.{CppcPlan}
use Rattle.pw_cppc.specs.declared.request.CppcRequest.{CppcRequest}
use Rattle.pw_cppc.specs.declared.request.CppcRequest.TheVariants.{Desired, Minimum, Maximum}
use Rattle.pw_cppc.specs.Requests.{Has}
use Rattle.pw_cppc.specs.declared.entry.CppcEntry.{CppcEntry}
use Rattle.pw_cppc.specs.declared.numbers.CppcNumbers.{CppcNumbers}
use Rattle.pw_cppc.specs.Answers.{after}
use Rattle.pw_cppc.specs.History.{Faultless, Legal, MayFollow, entry_ops, fault_at, history_ops, replay, request_of}
use Rattle.pw_cppc.specs.Operations.{ops_of}
use Rattle.pw_cppc.proofs.Joining.{entry_states, fault_last, fault_none, faultless_none, history_ops-append, legal-more, replay-append, request_of-entry}
use Rattle.pw_cppc_desk.specs.Entries.{entry_as}

pub seat_of-entry : (seat : ℕ) (q : CppcRequest) (fault : ℕ) → (entry_as seat q fault).seat ≡ seat
seat_of-entry seat (Desired p v) fault = refl
seat_of-entry seat (Minimum p v) fault = refl
seat_of-entry seat (Maximum p v) fault = refl

some_is : (k : ℕ) → (k + 1 == 0) ≡ false
some_is k = grind (arith, nat_tests)

-- # Behind a history without a fault

module _ (P : CppcPlan) (es : List CppcEntry) (seat : ℕ) (q : CppcRequest) (none : Faultless es) (has : Has P q) where
  pub follows_done : MayFollow P es (entry_as seat q 0)
  follows_done = record { faultless = none; entry = entry_states P seat 0 q has; fits = inl refl }

  pub follows_stopped : (k : ℕ) → k < length (ops_of P (replay P es) q) → MayFollow P es (entry_as seat q (k + 1))
  follows_stopped k lt =
      let within : k + 1 ≤ length (ops_of P (replay P es) (request_of (entry_as seat q (k + 1)))) = rw (request_of-entry seat (k + 1) q) (omega (arith, lt)) in
      record { faultless = none; entry = entry_states P seat (k + 1) q has; fits = inr within }

  pub legal_done : Legal P es → Legal P (es ++ entry_as seat q 0 ∷ [])
  legal_done legal = legal-more P es (entry_as seat q 0) legal follows_done

  pub legal_stopped : Legal P es → (k : ℕ) → k < length (ops_of P (replay P es) q) → Legal P (es ++ entry_as seat q (k + 1) ∷ [])
  legal_stopped legal k lt = legal-more P es (entry_as seat q (k + 1)) legal (follows_stopped k lt)

pub faultless_done : (es : List CppcEntry) (seat : ℕ) (q : CppcRequest) → Faultless es → Faultless (es ++ entry_as seat q 0 ∷ [])
faultless_done es seat q none = each_append (λ (e : CppcEntry). e.fault ≡ 0) es (entry_as seat q 0 ∷ []) none (refl, tt)

pub fault_of_stopped : (es : List CppcEntry) (seat : ℕ) (q : CppcRequest) (k : ℕ) → Faultless es → fault_at (es ++ entry_as seat q (k + 1) ∷ []) ≡ Some k
fault_of_stopped es seat q k none = fault_last es (entry_as seat q (k + 1)) k none refl

-- whether there is a fault
pub running : (es : List CppcEntry) (b : Bool) → b ≡ is_some (fault_at es) → b ≡ false → Faultless es
running es b is none = fault_none es (step (fault_at es) (sym is ∙ none))
  where
    step : (o : Option ℕ) → is_some o ≡ false → o ≡ None
    step None e = refl
    step (Some k) e = cc

pub stopped : (es : List CppcEntry) (b : Bool) → b ≡ is_some (fault_at es) → b ≡ true → Faultless es → ⊥
stopped es b is some none = let e = faultless_none es none in let f = sym is ∙ some in let there = rw e at f in cc

-- whether there is one then
pub is_stopped : (es : List CppcEntry) (seat : ℕ) (q : CppcRequest) (fault : ℕ) → Faultless es → nat_lt 0 fault ≡ is_some (fault_at (es ++ entry_as seat q fault ∷ []))
is_stopped es seat q fault none = step fault
  where
    step : (fault : ℕ) → nat_lt 0 fault ≡ is_some (fault_at (es ++ entry_as seat q fault ∷ []))
    step zero = rw (faultless_none (es ++ entry_as seat q 0 ∷ []) (faultless_done es seat q none)) refl
    step (suc k) = let some : nat_lt 0 (suc k) ≡ true = grind (arith, nat_tests) in rw (some, fault_last es (entry_as seat q (suc k)) k none (omega arith)) refl

-- the numbers after it are those after the request
pub replay_done : (P : CppcPlan) (es : List CppcEntry) (seat : ℕ) (q : CppcRequest) → replay P (es ++ entry_as seat q 0 ∷ []) ≡ after P (replay P es) q
replay_done P es seat q = replay-append P es (entry_as seat q 0 ∷ []) ∙ ap (after P (replay P es)) (request_of-entry seat 0 q)

-- where a register failed they are as before
pub replay_stopped : (P : CppcPlan) (es : List CppcEntry) (seat : ℕ) (q : CppcRequest) (k : ℕ) → replay P (es ++ entry_as seat q (k + 1) ∷ []) ≡ replay P es
replay_stopped P es seat q k = replay-append P es (entry_as seat q (k + 1) ∷ []) ∙ rw (some_is k) refl

pub ops_done : (P : CppcPlan) (S : CppcNumbers) (seat : ℕ) (q : CppcRequest) → entry_ops P S (entry_as seat q 0) ≡ ops_of P S q
ops_done P S seat q = ap (ops_of P S) (request_of-entry seat 0 q)

pub ops_stopped : (P : CppcPlan) (S : CppcNumbers) (seat : ℕ) (q : CppcRequest) (k : ℕ) → entry_ops P S (entry_as seat q (k + 1)) ≡ take k (ops_of P S q)
ops_stopped P S seat q k =
    let same : (k + 1) - 1 ≡ k = omega arith in
    rw (some_is k, same, request_of-entry seat (k + 1) q) refl

-- the operations of one entry more
pub ops_more : (P : CppcPlan) (es : List CppcEntry) (e : CppcEntry) → history_ops P (es ++ e ∷ []) ≡ history_ops P es ++ entry_ops P (replay P es) e
ops_more P es e = history_ops-append P es (e ∷ []) ∙ ap (λ (ops : List Op). history_ops P es ++ ops) (append-nil (entry_ops P (replay P es) e))
