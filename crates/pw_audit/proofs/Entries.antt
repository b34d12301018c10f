-- The line of an entry, and the entries that may have it.
use Rattle.std.proofs.Common.{◌≡◌, ◌<◌, ◌≤◌, ◌==◌, ◌+◌, ◌-◌, ◌∙◌, ℕ, cond, List, [], ◌∷◌, ◌++◌, take, drop, length, refl, ap, ap₂, sym, subst, inl, inr, arith, append_assoc, append-nil, take-append-drop, Bool, true, false}
use Rattle.std.proofs.lemmas.List.{append_cancel_left, length-append}
use Rattle.acpi_values.specs.declared.operation.Op.{Op}
use Rattle.pw_kind.specs.History as histories
use Rattle.pw_kind.proofs.Joining.{each_first}
use Rattle.pw_text.specs.Lines.{text_of, with_feed}
use Rattle.pw_text.specs.Behind.{behind}
use Rattle.pw_text.proofs.Printed.{asked_text}
use Rattle.pw_history.specs.Wording.{Wording}
use Rattle.pw_history.specs.Asked.{Begins}
use Rattle.pw_history.specs.HistoryText.{entry_line, op_line, outcome_words, request_line}
use Rattle.pw_history.specs.Telling.{EntriesFit, EntriesMade}
use Rattle.pw_audit.specs.declared.answer.AuditFault.{AuditFault}
use Rattle.pw_audit.specs.declared.form.Form.{Form}
use Rattle.pw_audit.specs.Tracing.{TellsOps, op_cpu}
use Rattle.pw_audit.specs.inner.Heading.{head_text}
use Rattle.pw_audit.specs.inner.Outcomes.{OpsWithin}
use Rattle.pw_audit.specs.inner.Queues.{AreWithin, IsNext, Takes, left_of}
use Rattle.pw_audit.specs.inner.Stopping.{EntryRead, FitsAt, MayCome, NoEntry, OpsRead, StopsBehind, StopsInOps, outcome_at}
use Rattle.pw_audit.specs.inner.Walking.{Steps}
use Rattle.pw_audit.proofs.Passing.{shorter}

-- the operations that were done before the fault
abbrev pub done_of : List Op → ℕ → List Op
done_of ops f = cond (f == 0) ops (take (f - 1) ops)

-- # How many lines

-- what stands behind the line of an entry is shorter
pub line_less : (head later outcome rest left : List ℕ) → left ≡ head ++ later → later ≡ with_feed outcome ++ rest → length rest + 1 ≤ length left
line_less head later outcome rest left is goes =
    let less = shorter later rest outcome goes in
    let whole : length left ≡ length head + length later = ap length is ∙ length-append head later in
    omega arith

pub lines_few : (ls : List (List ℕ)) → length ls ≤ length (text_of ls)
lines_few [] = omega arith
lines_few (l ∷ ls) =
    let few = lines_few ls in
    let whole : length (text_of (l ∷ ls)) ≡ length (with_feed l) + length (text_of ls) = length-append (with_feed l) (text_of ls) in
    let line : length (with_feed l) ≡ length l + 1 = length-append l (10 ∷ []) in
    omega arith

module _ {Plan Request Reply Entry State : Type 0} (W : Wording Plan Request Reply Entry State) where
  pub fits_le : (plan : Plan) (S : State) (q : Request) (f : ℕ) (ops : List Op) → ops ≡ W.kind.ops plan S q → FitsAt W plan S q f → f ≤ length ops
  fits_le plan S q f ops is (inl z) = omega arith
  fits_le plan S q f ops is (inr le) = let size = ap (λ (os : List Op). length os) is in omega arith

  pub counted : (form : Form) (plan : Plan) (left first rest next : List ℕ) (done : List Op) → left ≡ with_feed first ++ rest → (read : OpsRead W form plan done rest next)
      → length read.lines ≡ length done → length done + 1 ≤ length left
  counted form plan left first rest next done head read size =
      let few = lines_few read.lines in
      let a : length left ≡ length (with_feed first) + length rest = ap length head ∙ length-append (with_feed first) rest in
      let b : length (with_feed first) ≡ length first + 1 = length-append first (10 ∷ []) in
      let d : length rest ≡ length (text_of read.lines) + length next = ap length read.is ∙ length-append (text_of read.lines) next in
      omega arith

  pub done_within : (plan : Plan) → OpsWithin W plan → (S : State) (q : Request) (f : ℕ) → W.cpu q < W.cpus plan → AreWithin (W.cpus plan) (done_of (W.kind.ops plan S q) f)
  done_within plan within S q f has = step (f == 0)
    where
      step : (b : Bool) → AreWithin (W.cpus plan) (cond b (W.kind.ops plan S q) (take (f - 1) (W.kind.ops plan S q)))
      step true = within S q has
      step false =
          each_first (λ o. op_cpu o < W.cpus plan) (take (f - 1) (W.kind.ops plan S q)) (drop (f - 1) (W.kind.ops plan S q))
          (subst (AreWithin (W.cpus plan)) (sym (take-append-drop (f - 1) (W.kind.ops plan S q))) (within S q has))

module _ {Plan Request Reply Entry State : Type 0} {W : Wording Plan Request Reply Entry State} {plan : Plan} (fit : EntriesFit W plan) where
  -- # The line of an entry

  line_is : (n : ℕ) (q : Request) (out : List (List ℕ)) → with_feed (request_line W plan n (W.cpu q) q out) ≡ head_text W plan n q ++ with_feed (behind out)
  line_is n q out = sym (append-nil (with_feed (request_line W plan n (W.cpu q) q out))) ∙ sym (asked_text (op_line W plan) n (W.path plan (W.cpu q)) (W.request_words q) out [])

  pub any_line : (S : State) (n : ℕ) (e : Entry)
      → with_feed (entry_line W plan S n e) ≡ head_text W plan n (W.kind.request e) ++ with_feed (behind (outcome_at W plan S (W.kind.request e) (W.kind.fault e)))
  any_line S n e =
      ap (λ (p : ℕ). with_feed (request_line W plan n p (W.kind.request e) (outcome_words W plan S e))) (sym (fit.asker e)) ∙ line_is n (W.kind.request e) (outcome_words W plan S e)

  has_cpu : (e : Entry) → W.kind.IsEntry plan e → W.cpu (W.kind.request e) < W.cpus plan
  has_cpu e is = subst (λ c. c < W.cpus plan) (sym (fit.asker e)) (fit.within e is)

  -- # What may come

  module _ (S : State) (n : ℕ) (queues : List (List Request)) (left : List ℕ) where
    heads : (e : Entry) → Begins (with_feed (entry_line W plan S n e)) left → Begins (head_text W plan n (W.kind.request e)) left
    heads e b =
        let outcome = with_feed (behind (outcome_at W plan S (W.kind.request e) (W.kind.fault e))) in
        record { rest = outcome ++ b.rest; is = b.is ∙ ap (λ (l : List ℕ). l ++ b.rest) (any_line S n e) ∙ append_assoc (head_text W plan n (W.kind.request e)) outcome b.rest }

    pub no_head : ((q : Request) → W.cpu q < W.cpus plan → IsNext W queues q → Begins (head_text W plan n q) left → ⊥) → NoEntry W plan S n queues left
    no_head none e may b = none (W.kind.request e) (has_cpu e may.entry) may.next (heads e b)

    module _ (q : Request) (later : List ℕ) (head : left ≡ head_text W plan n q ++ later)
        (only : (r : Request) → W.cpu r < W.cpus plan → IsNext W queues r → Begins (head_text W plan n r) left → r ≡ q) where
      pub no_end : ((f : ℕ) → FitsAt W plan S q f → Begins (with_feed (behind (outcome_at W plan S q f))) later → ⊥) → NoEntry W plan S n queues left
      no_end none e may b =
          let f = W.kind.fault e in
          let same : W.kind.request e ≡ q = only (W.kind.request e) (has_cpu e may.entry) may.next (heads e b) in
          let outcome = with_feed (behind (outcome_at W plan S q f)) in
          let whole : left ≡ head_text W plan n q ++ (outcome ++ b.rest) =
          b.is ∙ ap (λ (l : List ℕ). l ++ b.rest) (any_line S n e ∙ ap (λ (r : Request). head_text W plan n r ++ with_feed (behind (outcome_at W plan S r f))) same)
          ∙ append_assoc (head_text W plan n q) outcome b.rest in
          none f (subst (λ (r : Request). FitsAt W plan S r f) same may.fits)
          (record { rest = b.rest; is = append_cancel_left (head_text W plan n q) later (outcome ++ b.rest) (sym head ∙ whole) })

      -- # The entry of a request with a fault

      module _ (made : EntriesMade W plan) (f : ℕ) (rest : List ℕ) (has : W.cpu q < W.cpus plan) (new : List (List Request)) (takes : Takes queues (W.cpu q) q new) (fits : FitsAt W plan S q f)
          (outcome : later ≡ with_feed (behind (outcome_at W plan S q f)) ++ rest) where
        with_ops : histories.entry_ops W.kind plan S (W.faulted q f) ≡ done_of (W.kind.ops plan S q) f
        with_ops = ap₂ (λ (r : Request) (k : ℕ). done_of (W.kind.ops plan S r) k) (made.request q f) (made.fault q f)

        with_cpu : W.cpu q ≡ W.asker (W.faulted q f)
        with_cpu = ap W.cpu (sym (made.request q f)) ∙ fit.asker (W.faulted q f)

        with_fits : histories.FaultFits W.kind plan S (W.faulted q f)
        with_fits = subst (λ (k : ℕ). FitsAt W plan S (W.kind.request (W.faulted q f)) k) (sym (made.fault q f)) (subst (λ (r : Request). FitsAt W plan S r f) (sym (made.request q f)) fits)

        with_line : with_feed (entry_line W plan S n (W.faulted q f)) ≡ head_text W plan n q ++ with_feed (behind (outcome_at W plan S q f))
        with_line =
            any_line S n (W.faulted q f)
            ∙ ap₂ (λ (r : Request) (k : ℕ). head_text W plan n r ++ with_feed (behind (outcome_at W plan S r k))) (made.request q f) (made.fault q f)

        next_is : IsNext W queues (W.kind.request (W.faulted q f))
        next_is = subst (IsNext W queues) (sym (made.request q f)) (record { later = left_of new (W.cpu q); is = takes.first })

        may_come : MayCome W plan S queues (W.faulted q f)
        may_come = record { entry = made.entry q f has; fits = with_fits; next = next_is }

        pub line_read : left ≡ with_feed (entry_line W plan S n (W.faulted q f)) ++ rest
        line_read =
            head ∙ ap (λ (l : List ℕ). head_text W plan n q ++ l) outcome ∙ sym (append_assoc (head_text W plan n q) (with_feed (behind (outcome_at W plan S q f))) rest)
            ∙ ap (λ (l : List ℕ). l ++ rest) (sym with_line)

        entry_read : (form : Form) (done : List Op) (next : List ℕ) → done ≡ done_of (W.kind.ops plan S q) f → OpsRead W form plan done rest next → EntryRead W form plan S n (W.faulted q f) left next
        entry_read form done next is read =
            let first = with_feed (entry_line W plan S n (W.faulted q f)) in
            record {
              ops = read.lines;
              tells = subst (λ (os : List Op). TellsOps W form plan os read.lines) (is ∙ sym with_ops) read.tells;
              is = line_read ∙ ap (λ (l : List ℕ). first ++ l) read.is ∙ sym (append_assoc first (text_of read.lines) next);
            }

        pub entry_steps : (Fits : Plan → State → Type 0) (form : Form) (done : List Op) (T : State) (before : ℕ) (next : List ℕ) → done ≡ done_of (W.kind.ops plan S q) f
            → OpsRead W form plan done rest next → T ≡ cond (f == 0) (W.kind.after plan S q) S → Fits plan T
            → Steps W Fits form plan S n queues before left (W.faulted q f) T new (before + 1 + length done) next
        entry_steps Fits form done T before next is read state fit_t = record {
          may = may_come;
          seat = made.seat q f;
          read = entry_read form done next is read;
          lines = ap (λ (os : List Op). before + 1 + length os) (is ∙ sym with_ops);
          takes = subst (λ (r : Request). Takes queues (W.asker (W.faulted q f)) r new) (sym (made.request q f)) (subst (λ (p : ℕ). Takes queues p q new) with_cpu takes);
          after = state ∙ ap₂ (λ (r : Request) (k : ℕ). cond (k == 0) (W.kind.after plan S r) S) (sym (made.request q f)) (sym (made.fault q f));
          fits = fit_t;
        }

        pub stops_behind : (form : Form) (done : List Op) (before : ℕ) (fault : AuditFault) → done ≡ done_of (W.kind.ops plan S q) f → StopsInOps W form plan done (before + 1) rest fault
            → StopsBehind W form plan S n queues before left fault
        stops_behind form done before fault is stops = record {
          entry = W.faulted q f;
          may = may_come;
          rest = rest;
          is = line_read;
          stops = subst (λ (os : List Op). StopsInOps W form plan os (before + 1) rest fault) (is ∙ sym with_ops) stops;
        }
