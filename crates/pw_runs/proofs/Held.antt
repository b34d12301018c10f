-- A file that is too long to hold a history is refused by its first bytes just as by all of them.
use Rattle.std.proofs.Common.{◌≡◌, ◌<◌, ◌+◌, ℕ, Bool, true, false, List, length, take, Option, Some, None, Result, Ok, Err, IfOk, IfErr, inl, inr, refl, sym, subst, ◌∙◌, arith}
use Rattle.std.specs.Prelude.{IsSomeAnd}
use Rattle.std.proofs.lemmas.Bool.{false≢true}
use Rattle.pw_base.specs.Seen.{FilesSeen, OfFiles}
use Rattle.aml_block.specs.Answers.{IsHeldAnd}
use Rattle.pw_history.specs.Wording.{Wording}
use Rattle.pw_audit.specs.declared.form.Form.{Form}
use Rattle.pw_audit.specs.declared.answer.AuditFault.{AuditFault}
use Rattle.pw_audit.specs.declared.answer.AuditFault.TheVariants.{TooLong, Wrong, Unfinished, Memory}
use Rattle.pw_audit.specs.declared.answer.TheConstants.{MOST_BYTES}
use Rattle.pw_audit.specs.Judging.{Told}
use Rattle.pw_runs.specs.Texts.{HoldText, IsNoText, IsText}
use Rattle.pw_runs.specs.Texts.IsNoText.{too_long, wrong, unfinished}
use Rattle.pw_runs.specs.declared.history.Unlawful.{Unlawful}
use Rattle.pw_runs.specs.declared.history.Unlawful.TheVariants.{Unread, Fault}
use Rattle.pw_runs.specs.inner.AuditParts.{IsWhy, IsWhyNone, IsWhyUnlawful}
use Rattle.pw_runs.proofs.Cuts.{cut_or_long}

module _ {Plan Request Reply Entry State : Type 0} (W : Wording Plan Request Reply Entry State) where
  -- # What an audit answers

  module _ (form : Form) (plan : Plan) (asked : List Request) (bytes : List ℕ) where
    pub audited : (r : Result (Option ℕ × List Entry) AuditFault) → Told W form plan asked bytes r → IfOk r (λ a. IsText W form plan asked bytes (length a.1))
    audited (Ok a) told =
        record { short = told.0; whole = record { o = a.0; entries = a.1; lawful = told.1.lawful; is = told.1.is }; count = refl }
    audited (Err fault) told = tt

    pub unaudited : (r : Result (Option ℕ × List Entry) AuditFault) → Told W form plan asked bytes r → IfErr r (IsWhy W form plan asked bytes)
    unaudited (Ok a) told = tt
    unaudited (Err (TooLong b)) told = λ own. subst (λ (m : ℕ). IsNoText W form plan asked bytes (TooLong m)) (sym told.0) (too_long told.1)
    unaudited (Err (Wrong k)) told = λ own. wrong told.0 told.1
    unaudited (Err (Unfinished n)) told = λ own. subst (λ (m : ℕ). IsNoText W form plan asked bytes (Unfinished m)) (sym told.1) (unfinished told.0 told.2)
    unaudited (Err Memory) told = λ own. absurd (own refl)

  -- # The first bytes

  module _ (form : Form) (plan : Plan) (asked : List Request) (content : List ℕ) where
    abbrev first : List ℕ
    first = take (MOST_BYTES + 1) content

    -- what the first bytes are, all are
    cut_is : (entries : ℕ) → IsText W form plan asked first entries → IsText W form plan asked content entries
    cut_is entries is =
        let short = is.short in
        elim (cut_or_long MOST_BYTES content) [
          | inl same ↦ subst (λ (b : List ℕ). IsText W form plan asked b entries) same is
          | inr long ↦ (let l = long.0 in absurd (omega (arith, short, l)))
        ]

    cut_fails : (fault : AuditFault) → IsNoText W form plan asked first fault → IsNoText W form plan asked content fault
    cut_fails fault fails =
        elim (cut_or_long MOST_BYTES content) [
          | inl same ↦ subst (λ (b : List ℕ). IsNoText W form plan asked b fault) same fails
          | inr long ↦ of_long long.0 long.1 fault fails
        ]
      where
        of_long : MOST_BYTES < length first → MOST_BYTES < length content → (f : AuditFault) → IsNoText W form plan asked first f → IsNoText W form plan asked content f
        of_long l all _ (too_long more) = too_long all
        of_long l all _ (wrong short is) = absurd (omega (arith, short, l))
        of_long l all _ (unfinished short is) = absurd (omega (arith, short, l))

  -- # What is held, of which so many bytes were read

  module _ (form : Form) (plan : Plan) (asked : List Request) (before after : FilesSeen) (name read : List ℕ) where
    abbrev Reads : Option (List ℕ) → Type 0
    Reads held = IsSomeAnd held (λ content. read ≡ take (MOST_BYTES + 1) content)

    -- something, and what is held is that, where files tell
    abbrev Holds : (List ℕ → Type 0) → Type 0
    Holds T = (bytes : List ℕ) × OfFiles before (λ holds. holds name ≡ Some bytes) × T bytes

    all_of : (T : List ℕ → Type 0) → ((content : List ℕ) → T (take (MOST_BYTES + 1) content) → T content) → T read
        → (held : Option (List ℕ)) → before.holds name ≡ held → Reads held → Holds T
    all_of T grows is (Some content) e reads = (content, λ tells. e, grows content (subst T reads is))
    all_of T grows is None e reads = absurd reads

    held_by : (T : List ℕ → Type 0) → ((content : List ℕ) → T (take (MOST_BYTES + 1) content) → T content) → T read
        → (told : Bool) → before.told ≡ told → IsHeldAnd told (before.holds name) (λ content. read ≡ take (MOST_BYTES + 1) content) → Holds T
    held_by T grows is true e content = all_of T grows is (before.holds name) refl (content refl)
    held_by T grows is false e content = (read, λ tells. absurd (false≢true (sym e ∙ tells)), is)

    module _ (content : IsHeldAnd before.told (before.holds name) (λ content. read ≡ take (MOST_BYTES + 1) content)) where
      pub held_if : {E : Type 0} (r : Result ℕ E) → IfOk r (IsText W form plan asked read) → IfOk r (HoldText W form before name plan asked)
      held_if (Ok n) is =
          let h = held_by (λ bytes. IsText W form plan asked bytes n) (λ content first. cut_is form plan asked content n first) is before.told refl content in
          record { bytes = h.0; held = h.1; is = h.2 }
      held_if (Err e) is = tt

      pub held_why : (r : Result ℕ Unlawful) → IfErr r (IsWhyNone W form plan asked read) → IfErr r (IsWhyUnlawful W form before after name plan asked)
      held_why (Ok n) why = tt
      held_why (Err Unread) why = absurd why
      held_why (Err (Fault fault)) why = λ own.
          let h = held_by (λ bytes. IsNoText W form plan asked bytes fault) (λ content first. cut_fails form plan asked content fault first) (why own) before.told refl content in
          record { bytes = h.0; held = h.1; fails = h.2 }
