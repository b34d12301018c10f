-- What the answer for a kind tells, by what the audit found.
use Rattle.std.proofs.Common.{◌≡◌, ◌≢◌, ℕ, List, Option, Result, Ok, Err, ap}
use Rattle.std.specs.Prelude.{◌↔◌, IfOk, IsOk}
use Rattle.pw_audit.specs.declared.answer.AuditFault.{AuditFault}
use Rattle.pw_audit.specs.declared.answer.AuditFault.TheVariants.{Memory}
use Rattle.pw_audit.specs.inner.Answering.{answer_by}

module _ {Entry A : Type 0} (make : Option ℕ → List Entry → A) where
  abbrev Found : Type 0
  Found = Result (Option ℕ × List Entry) AuditFault

  with_memory : (r : Found) → answer_by make r ≢ Err Memory → r ≢ Err Memory
  with_memory (Ok (o, entries)) m e = cc
  with_memory (Err fault) m e = m (let same : fault ≡ Memory = cc in ap Err same)

  pub answer_shown : (X : Option ℕ → List Entry → Type 0) (S : A → Type 0) → ((o : Option ℕ) (entries : List Entry) → X o entries → S (make o entries))
      → (r : Found) → IfOk r (λ a. X a.0 a.1) → IfOk (answer_by make r) S
  answer_shown X S gives (Ok (o, entries)) x = gives o entries x
  answer_shown X S gives (Err fault) x = tt

  pub answer_ok : {X : Type 0} (r : Found) → (r ≢ Err Memory → IsOk r ↔ X) → answer_by make r ≢ Err Memory → IsOk (answer_by make r) ↔ X
  answer_ok (Ok (o, entries)) f m = f (with_memory (Ok (o, entries)) m)
  answer_ok (Err fault) f m = f (with_memory (Err fault) m)

  pub answer_err : {X : Type 0} (e : AuditFault) (r : Found) → (r ≢ Err Memory → r ≡ Err e ↔ X) → answer_by make r ≢ Err Memory → answer_by make r ≡ Err e ↔ X
  answer_err e (Ok (o, entries)) f m = let both = f (with_memory (Ok (o, entries)) m) in (λ h. cc, λ x. let h = both.1 x in cc)
  answer_err e (Err d) f m =
      let both = f (with_memory (Err d) m) in
      (λ h. both.0 (let same : d ≡ e = cc in ap Err same), λ x. let h = both.1 x in let same : d ≡ e = cc in ap Err same)
