-- The end of the line of an entry, behind its arrow.
use Rattle.std.proofs.Common.{◌≡◌, ◌≢◌, ◌<◌, ◌==◌, ◌-◌, ◌∙◌, ℕ, Bool, true, false, cond, List, ◌++◌, length, codes, decimal, refl, ap, sym, arith, append_assoc, inl, inr}
use Rattle.std.proofs.lemmas.Bool.{eqb-false}
use Rattle.std.proofs.lemmas.List.{append_cancel_left}
use Rattle.pw_text.specs.Lines.{with_feed}
use Rattle.pw_text.specs.HistoryText.{fault_words}
use Rattle.pw_text.specs.Behind.{behind}
use Rattle.pw_history.specs.Wording.{Wording}
use Rattle.pw_history.specs.Asked.{Begins}
use Rattle.pw_audit.specs.inner.Outcomes.{RepliesTell}
use Rattle.pw_audit.specs.inner.Stopping.{FitsAt, outcome_at}

abbrev lead : List ℕ
lead = codes " register fault after "

regroup : (a b c : List ℕ) → with_feed (a ++ b) ++ c ≡ a ++ (with_feed b ++ c)
regroup a b c = simp append_assoc

module _ {Plan Request Reply Entry State : Type 0} (W : Wording Plan Request Reply Entry State) (plan : Plan) (S : State) (q : Request) (left : List ℕ) where
  -- what f says, at each value of its test
  abbrev outcome_by : Bool → ℕ → List (List ℕ)
  outcome_by b f = cond b (W.reply_words (W.kind.answer plan S q)) (fault_words (f - 1))

  pub no_reply : (Begins lead left → ⊥) → (Begins (with_feed (behind (W.reply_words (W.kind.answer plan S q)))) left → ⊥)
      → (f : ℕ) → FitsAt W plan S q f → Begins (with_feed (behind (outcome_at W plan S q f))) left → ⊥
  no_reply no_fault other f fits b = step (f == 0) b.rest b.is
    where
      step : (t : Bool) (rest : List ℕ) → left ≡ with_feed (behind (outcome_by t f)) ++ rest → ⊥
      step true rest is = other (record { rest = rest; is = is })
      step false rest is = no_fault (record { rest = with_feed (decimal (f - 1)) ++ rest; is = is ∙ regroup lead (decimal (f - 1)) rest })

  pub no_count : RepliesTell W → (later : List ℕ) → left ≡ lead ++ later → ((k : ℕ) → k < length (W.kind.ops plan S q) → Begins (with_feed (decimal k)) later → ⊥)
      → (f : ℕ) → FitsAt W plan S q f → Begins (with_feed (behind (outcome_at W plan S q f))) left → ⊥
  no_count tell later e none f fits b = step (f == 0) refl b.rest b.is
    where
      within : f ≢ 0 → FitsAt W plan S q f → f - 1 < length (W.kind.ops plan S q)
      within ne (inl z) = absurd (ne z)
      within ne (inr le) = omega arith

      step : (t : Bool) → (f == 0) ≡ t → (rest : List ℕ) → left ≡ with_feed (behind (outcome_by t f)) ++ rest → ⊥
      step true z rest is = tell (W.kind.answer plan S q) rest (record { rest = later; is = sym is ∙ e })
      step false z rest is =
          none (f - 1) (within (eqb-false f 0 z) fits)
          (record { rest = rest; is = append_cancel_left lead later (with_feed (decimal (f - 1)) ++ rest) (sym e ∙ is ∙ regroup lead (decimal (f - 1)) rest) })
