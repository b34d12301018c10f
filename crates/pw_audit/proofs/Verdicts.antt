-- The causes of an audit's answers exclude each other.
use Rattle.std.proofs.Common.{◌≡◌, ◌≢◌, ◌<◌, ◌∙◌, ℕ, true, false, List, Option, take, length, Result, Ok, Err, refl, ap, sym, subst, inl, inr, arith, length-take}
use Rattle.std.specs.Prelude.{◌↔◌, IsOk, IfErr, IfOk}
use Rattle.std.proofs.lemmas.Bool.{cases_order}
use Rattle.std.proofs.lemmas.List.{take_min}
use Rattle.pw_audit.specs.declared.answer.AuditFault.{AuditFault}
use Rattle.pw_audit.specs.declared.answer.AuditFault.TheVariants.{TooLong, Wrong, Unfinished, Memory}
use Rattle.pw_audit.specs.declared.answer.TheConstants.{MOST_BYTES}
use Rattle.pw_audit.specs.declared.form.Form.{Form}
use Rattle.pw_audit.specs.inner.Stopping.{Refuses}
use Rattle.pw_audit.proofs.Showing.{begins_shorter}
use Rattle.pw_history.specs.Wholes.{pieces_of}
use Rattle.pw_history.specs.Wording.{Wording}
use Rattle.pw_audit.specs.Tracing.{BeginsAs, IsUnfinishedAs, IsWholeAs, IsWrongAs, ShowsAs}
use Rattle.pw_audit.specs.Judging.{IsShort, Told}

module _ {Plan Request Reply Entry State : Type 0} (W : Wording Plan Request Reply Entry State) where
  module _ (form : Form) (plan : Plan) (asked : List Request) (text : List ℕ) where
    pub told_of : (r : Result (Option ℕ × List Entry) AuditFault) → IsShort text → IfOk r (λ a. ShowsAs W form plan asked text a.0 a.1) → IfErr r (Refuses W form plan asked text)
        → Told W form plan asked text r
    told_of (Ok a) short shown refuses = (short, shown)
    told_of (Err (TooLong b)) short shown refuses = absurd refuses
    told_of (Err (Wrong k)) short shown refuses = (short, refuses)
    told_of (Err (Unfinished n)) short shown refuses = (short, refuses.0, refuses.1)
    told_of (Err Memory) short shown refuses = tt

    -- # What excludes what

    whole_begins : IsWholeAs W form plan asked text → (k : ℕ) → BeginsAs W form plan asked (take k (pieces_of text))
    whole_begins w k = record {
      text = text;
      whole = w;
      first = ap (λ (n : ℕ). take n (pieces_of text)) (length-take k (pieces_of text)) ∙ take_min k (pieces_of text);
    }

    shows_whole : (o : Option ℕ) (entries : List Entry) → ShowsAs W form plan asked text o entries → IsWholeAs W form plan asked text
    shows_whole o entries h = record { o = o; entries = entries; lawful = h.lawful; is = h.is }

    wrong_whole : (k : ℕ) → IsWrongAs W form plan asked text k → IsWholeAs W form plan asked text → ⊥
    wrong_whole k h w = h.wrong (whole_begins w k)

    wrong_unfinished : (k : ℕ) → IsWrongAs W form plan asked text k → IsUnfinishedAs W form plan asked text → ⊥
    wrong_unfinished k h u = h.wrong (begins_shorter W form plan asked (pieces_of text) k u.begins)

    one_wrong : (j k : ℕ) → IsWrongAs W form plan asked text j → IsWrongAs W form plan asked text k → j ≡ k
    one_wrong j k g h = elim (cases_order j k) [
      | inl same ↦ same
      | inr order ↦ elim order [
        | inl lt ↦ absurd (g.wrong (h.least j lt))
        | inr gt ↦ absurd (h.wrong (g.least k gt))
      ]
    ]

    not_both : IsShort text → MOST_BYTES < length text → ⊥
    not_both short long = absurd (omega arith)

    differ : false ≡ true → ⊥
    differ e = cc

    pub told_shown : (r : Result (Option ℕ × List Entry) AuditFault) → Told W form plan asked text r → IfOk r (λ a. ShowsAs W form plan asked text a.0 a.1)
    told_shown (Ok a) t = t.1
    told_shown (Err e) t = tt

    pub told_whole : (r : Result (Option ℕ × List Entry) AuditFault) → Told W form plan asked text r → r ≢ Err Memory → IsOk r ↔ (IsShort text × IsWholeAs W form plan asked text)
    told_whole (Ok a) t m = (λ ok. (t.0, shows_whole a.0 a.1 t.1), λ h. refl)
    told_whole (Err (TooLong b)) t m = (λ ok. absurd (differ ok), λ h. absurd (not_both h.0 t.1))
    told_whole (Err (Wrong k)) t m = (λ ok. absurd (differ ok), λ h. absurd (wrong_whole k t.1 h.1))
    told_whole (Err (Unfinished n)) t m = (λ ok. absurd (differ ok), λ h. absurd (t.2.lacks h.1))
    told_whole (Err Memory) t m = absurd (m refl)

    pub told_long : (b : ℕ) (r : Result (Option ℕ × List Entry) AuditFault) → Told W form plan asked text r → r ≢ Err Memory → r ≡ Err (TooLong b) ↔ ((b ≡ MOST_BYTES) × (MOST_BYTES < length text))
    told_long b (Ok a) t m = (λ e. cc, λ h. absurd (not_both t.0 h.1))
    told_long b (Err (TooLong d)) t m = (λ e. let same : d ≡ b = cc in (sym same ∙ t.0, t.1), λ h. ap (λ (x : ℕ). Err (TooLong x)) (t.0 ∙ sym h.0))
    told_long b (Err (Wrong k)) t m = (λ e. cc, λ h. absurd (not_both t.0 h.1))
    told_long b (Err (Unfinished n)) t m = (λ e. cc, λ h. absurd (not_both t.0 h.1))
    told_long b (Err Memory) t m = absurd (m refl)

    pub told_wrong : (k : ℕ) (r : Result (Option ℕ × List Entry) AuditFault) → Told W form plan asked text r → r ≢ Err Memory → r ≡ Err (Wrong k) ↔ (IsShort text × IsWrongAs W form plan asked text k)
    told_wrong k (Ok a) t m = (λ e. cc, λ h. absurd (wrong_whole k h.1 (shows_whole a.0 a.1 t.1)))
    told_wrong k (Err (TooLong b)) t m = (λ e. cc, λ h. absurd (not_both h.0 t.1))
    told_wrong k (Err (Wrong j)) t m = (λ e. let same : j ≡ k = cc in (t.0, subst (IsWrongAs W form plan asked text) same t.1), λ h. ap (λ (x : ℕ). Err (Wrong x)) (one_wrong j k t.1 h.1))
    told_wrong k (Err (Unfinished n)) t m = (λ e. cc, λ h. absurd (wrong_unfinished k h.1 t.2))
    told_wrong k (Err Memory) t m = absurd (m refl)

    pub told_unfinished : (n : ℕ) (r : Result (Option ℕ × List Entry) AuditFault) → Told W form plan asked text r → r ≢ Err Memory
        → r ≡ Err (Unfinished n) ↔ (IsShort text × (n ≡ length (pieces_of text)) × IsUnfinishedAs W form plan asked text)
    told_unfinished n (Ok a) t m = (λ e. cc, λ h. absurd (h.2.lacks (shows_whole a.0 a.1 t.1)))
    told_unfinished n (Err (TooLong b)) t m = (λ e. cc, λ h. absurd (not_both h.0 t.1))
    told_unfinished n (Err (Wrong k)) t m = (λ e. cc, λ h. absurd (wrong_unfinished k t.1 h.2))
    told_unfinished n (Err (Unfinished j)) t m = (λ e. let same : j ≡ n = cc in (t.0, sym same ∙ t.1, t.2), λ h. ap (λ (x : ℕ). Err (Unfinished x)) (t.1 ∙ sym h.1))
    told_unfinished n (Err Memory) t m = absurd (m refl)
