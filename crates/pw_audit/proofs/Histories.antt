-- What is said of texts as histories is what is said of the texts of histories, and a trace has more of them.
use Rattle.std.proofs.Common.{◌≡◌, ◌≢◌, ◌<◌, ◌∙◌, ◌+◌, ◌++◌, ◌∷◌, ℕ, List, [], map, Option, Result, Ok, Err, length, refl, ap, sym}
use Rattle.std.specs.Prelude.{◌↔◌, IfOk, IsOk}
use Rattle.pw_text.specs.Lines.{text_of}
use Rattle.pw_audit.specs.declared.form.Form.{Form}
use Rattle.pw_audit.specs.declared.form.Form.TheVariants.{History, Trace}
use Rattle.pw_audit.specs.declared.answer.AuditFault.{AuditFault}
use Rattle.pw_audit.specs.declared.answer.AuditFault.TheVariants.{TooLong, Wrong, Unfinished, Memory}
use Rattle.pw_audit.specs.declared.answer.TheConstants.{MOST_BYTES}
use Rattle.pw_audit.proofs.Told.{opens_listed, tells_listed}
use Rattle.pw_audit.specs.inner.Stopping.{}
use Rattle.pw_audit.proofs.Verdicts.{told_long, told_unfinished, told_whole, told_wrong}
use Rattle.pw_kind.specs.History as histories
use Rattle.pw_history.specs.HistoryText.{entry_line, history_text, lines_from, op_line, opening_lines}
use Rattle.pw_history.specs.Wholes.{BeginsWhole, IsWhole, pieces_of}
use Rattle.pw_history.specs.Wording.{Wording}
use Rattle.pw_audit.specs.Tracing.{BeginsAs, IsSortedFrom, IsUnfinishedAs, IsWholeAs, IsWrongAs, ShowsAs, Tells, TextTells}
use Rattle.pw_audit.specs.Judging.{IsShort, IsUnfinished, IsWrong, Shows, Told}
use Rattle.pw_history.specs.HistoryText as texts

module _ {Plan Request Reply Entry State : Type 0} (W : Wording Plan Request Reply Entry State) where
  told_listed : (plan : Plan) (es : List Entry) (S : State) (n : ℕ) (ls : List (List ℕ)) → Tells W History plan S n es ls → ls ≡ lines_from W plan S n es
  told_listed plan [] S n ls t = t
  told_listed plan (e ∷ es) S n ls t =
      let T = histories.after_entry W.kind plan S e in
      t.is ∙ ap (λ (os : List (List ℕ)). entry_line W plan S n e ∷ os ++ t.later) t.tells
      ∙ ap (λ (more : List (List ℕ)). entry_line W plan S n e ∷ map (op_line W plan) (histories.entry_ops W.kind plan S e) ++ more) (told_listed plan es T (n + 1) t.later t.goes_on)

  module _ (plan : Plan) where
    text_is : (o : Option ℕ) (es : List Entry) → history_text W plan o es ≡ text_of (opening_lines W plan o ++ lines_from W plan (W.kind.opening plan) 1 es)
    unfolding texts.history_text texts.history_lines
    text_is o es = refl

    pub text_tells : (form : Form) (o : Option ℕ) (es : List Entry) (text : List ℕ) → text ≡ history_text W plan o es → TextTells W form plan o es text
    text_tells form o es text is = record {
      first = opening_lines W plan o;
      later = lines_from W plan (W.kind.opening plan) 1 es;
      opens = opens_listed W form plan o;
      tells = tells_listed W form plan es (W.kind.opening plan) 1;
      is = is ∙ text_is o es;
    }

    pub told_text : (o : Option ℕ) (es : List Entry) (text : List ℕ) → TextTells W History plan o es text → text ≡ history_text W plan o es
    told_text o es text t =
        t.is ∙ ap (λ (ls : List (List ℕ)). text_of (ls ++ t.later)) t.opens
        ∙ ap (λ (ls : List (List ℕ)). text_of (opening_lines W plan o ++ ls)) (told_listed plan es (W.kind.opening plan) 1 t.later t.tells) ∙ sym (text_is o es)

    module _ (asked : List Request) where
      pub whole_as : (form : Form) (text : List ℕ) → IsWhole W plan asked text → IsWholeAs W form plan asked text
      whole_as form text w = record { o = w.opening; entries = w.entries; lawful = w.lawful; is = text_tells form w.opening w.entries text w.is }

      pub whole_of : (text : List ℕ) → IsWholeAs W History plan asked text → IsWhole W plan asked text
      whole_of text w = record { opening = w.o; entries = w.entries; lawful = w.lawful; is = told_text w.o w.entries text w.is }

      pub begins_as : (form : Form) (ls : List (List ℕ)) → BeginsWhole W plan asked ls → BeginsAs W form plan asked ls
      begins_as form ls b = record { text = b.text; whole = whole_as form b.text b.whole; first = b.first }

      begins_of : (ls : List (List ℕ)) → BeginsAs W History plan asked ls → BeginsWhole W plan asked ls
      begins_of ls b = record { text = b.text; whole = whole_of b.text b.whole; first = b.first }

      -- a whole trace, sorted
      pub sorts : (trace : List ℕ) → IsWholeAs W Trace plan asked trace → (history : List ℕ) × IsWhole W plan asked history × IsSortedFrom W plan trace history
      sorts trace w = (
        history_text W plan w.o w.entries,
        record { opening = w.o; entries = w.entries; lawful = w.lawful; is = refl },
        record { o = w.o; entries = w.entries; tells = w.is; is = refl },
      )

      module _ (text : List ℕ) where
        pub shows_of : (o : Option ℕ) (entries : List Entry) → ShowsAs W History plan asked text o entries → Shows W plan asked text o entries
        shows_of o entries h = record { lawful = h.lawful; is = told_text o entries text h.is; seats = h.seats }

        pub is_whole : IsWholeAs W History plan asked text ↔ IsWhole W plan asked text
        is_whole = (whole_of text, whole_as History text)

        pub is_wrong : (k : ℕ) → IsWrongAs W History plan asked text k ↔ IsWrong W plan asked text k
        is_wrong k = (
          λ h. record { some = h.some; within = h.within; wrong = λ b. h.wrong (begins_as History _ b); least = λ j lt. begins_of _ (h.least j lt) },
          λ h. record { some = h.some; within = h.within; wrong = λ b. h.wrong (begins_of _ b); least = λ j lt. begins_as History _ (h.least j lt) },
        )

        pub is_unfinished : IsUnfinishedAs W History plan asked text ↔ IsUnfinished W plan asked text
        is_unfinished = (
          λ h. record { begins = begins_of _ h.begins; lacks = λ w. h.lacks (whole_as History text w) },
          λ h. record { begins = begins_as History _ h.begins; lacks = λ w. h.lacks (whole_of text w) },
        )

  -- # What an audit of a history answers

  module _ (plan : Plan) (asked : List Request) (text : List ℕ) where
    same_answer : {A B C : Type 0} → A ↔ (C × B) → {D : Type 0} → B ↔ D → A ↔ (C × D)
    same_answer h g = (λ a. let x = h.0 a in (x.0, g.0 x.1), λ x. h.1 (x.0, g.1 x.1))

    pub audited_shown : (r : Result (Option ℕ × List Entry) AuditFault) → Told W History plan asked text r → IfOk r (λ a. Shows W plan asked text a.0 a.1)
    audited_shown (Ok a) t = shows_of plan asked text a.0 a.1 t.1
    audited_shown (Err e) t = tt

    pub audited_whole : (r : Result (Option ℕ × List Entry) AuditFault) → Told W History plan asked text r → r ≢ Err Memory → IsOk r ↔ (IsShort text × IsWhole W plan asked text)
    audited_whole r t m = same_answer (told_whole W History plan asked text r t m) (is_whole plan asked text)

    pub audited_long : (b : ℕ) (r : Result (Option ℕ × List Entry) AuditFault) → Told W History plan asked text r → r ≢ Err Memory
        → r ≡ Err (TooLong b) ↔ ((b ≡ MOST_BYTES) × (MOST_BYTES < length text))
    audited_long b r t m = told_long W History plan asked text b r t m

    pub audited_wrong : (k : ℕ) (r : Result (Option ℕ × List Entry) AuditFault) → Told W History plan asked text r → r ≢ Err Memory → r ≡ Err (Wrong k) ↔ (IsShort text × IsWrong W plan asked text k)
    audited_wrong k r t m = same_answer (told_wrong W History plan asked text k r t m) (is_wrong plan asked text k)

    pub audited_unfinished : (n : ℕ) (r : Result (Option ℕ × List Entry) AuditFault) → Told W History plan asked text r → r ≢ Err Memory
        → r ≡ Err (Unfinished n) ↔ (IsShort text × (n ≡ length (pieces_of text)) × IsUnfinished W plan asked text)
    audited_unfinished n r t m =
        let h = told_unfinished W History plan asked text n r t m in
        let g = is_unfinished plan asked text in
        (λ e. let x = h.0 e in (x.0, x.1, g.0 x.2), λ x. h.1 (x.0, x.1, g.1 x.2))
