-- Each history of a script without a fault leaves the same state and has the same summary.
use Rattle.std.proofs.Common.{◌≡◌, ◌==◌, ◌+◌, ℕ, Bool, true, cond, List, [], ◌∷◌, length, map, count_by, None, refl, ap, sym, ◌∙◌, inl, inr, arith, eq-eqb}
use Rattle.std.specs.List.{AllByRecursion}
use Rattle.std.proofs.lemmas.Bool.{cases_lt}
use Rattle.std.proofs.lemmas.List.{length-map}
use Rattle.std.proofs.lemmas.List.Sums.{sum_by-cons}
use Rattle.pw_plan.specs.declared.plan.Plan.{Plan}
use Rattle.pw_plan.specs.declared.request.Request.{Request}
use Rattle.pw_plan.specs.declared.request.Request.TheVariants.{Idle}
use Rattle.pw_plan.specs.Requests.{Has}
use Rattle.pw_kind.specs.History as histories
use Rattle.pw_model.specs.declared.entry.HistoryEntry.{HistoryEntry}
use Rattle.pw_model.specs.declared.reply.Reply.{Reply}
use Rattle.pw_model.specs.declared.state.State.{State}
use Rattle.pw_model.specs.States.{opening}
use Rattle.pw_model.specs.Answers.{accepted, after, answer}
use Rattle.pw_model.specs.History.{Faultless, entry_of, replay, replay_from, replies, replies_from, request_of}
use Rattle.pw_notice.specs.Limits.{made_from, own, requests}
use Rattle.pw_script.specs.HistoryText.{power_words}
use Rattle.pw_script.specs.Lawful.{Lawful}
use Rattle.pw_script.specs.Completing.{IsStart}
use Rattle.pw_history.proofs.Completions.{completed-run, entries_faultless}
use Rattle.pw_history.proofs.Firsts.{own-past}
use Rattle.pw_script.proofs.Told.{power_fits}
use Rattle.pw_generate.specs.Summary.{is_entered, is_refused, is_running, is_stands, script_summary, summary_text}
use Rattle.pw_generate.proofs.Apart.{IsOfKind, answer-kept}
use Rattle.pw_generate.proofs.Orders.{SameOwn, same-made, same-total, total}

-- # Without a fault

module _ (P : Plan) where
  replayed : (es : List HistoryEntry) (S : State) → Faultless es → replay_from P S es ≡ made_from P S (requests es)
  replayed [] S none = refl
  replayed (e ∷ es) S none = let f : (e.fault == 0) ≡ true = eq-eqb e.fault 0 none.0 in rw f (replayed es (after P S (request_of e)) none.1)

  abbrev one_if : (Reply → Bool) → State → Request → ℕ
  one_if t S q = cond (t (answer P S q)) 1 0

  count_total : (t : Reply → Bool) (es : List HistoryEntry) (S : State) → Faultless es
      → count_by t (replies_from P S es) ≡ total P (one_if t) S (requests es)
  count_total t [] S none = refl
  count_total t (e ∷ es) S none =
      let f : (e.fault == 0) ≡ true = eq-eqb e.fault 0 none.0 in
      rw f (sum_by-cons (λ r. cond (t r) 1 0) (answer P S (request_of e)) (replies_from P (after P S (request_of e)) es)
      ∙ ap (λ n. cond (t (answer P S (request_of e))) 1 0 + n) (count_total t es (after P S (request_of e)) none.1))

  length_made : (qs : List Request) (S : State) → total P (λ S q. 1) S qs ≡ length qs
  length_made [] S = refl
  length_made (q ∷ qs) S = let later = length_made qs (after P S q) in omega (arith, later)

  length_total : (es : List HistoryEntry) (S : State) → length es ≡ total P (λ S q. 1) S (requests es)
  length_total es S = sym (length_made (requests es) S ∙ length-map es request_of)

-- # Kinds of replies

entered_is : IsOfKind is_entered
unfolding accepted
entered_is P S T (Idle p s t) = refl
entered_is P S T q = refl

running_is : IsOfKind is_running
unfolding accepted
running_is P S T (Idle p s t) = refl
running_is P S T q = refl

stands_is : IsOfKind is_stands
unfolding accepted
stands_is P S T (Idle p s t) = refl
stands_is P S T q = refl

refused_is : IsOfKind is_refused
unfolding accepted
refused_is P S T (Idle p s t) = refl
refused_is P S T q = refl

-- # Two histories of a script

module _ (P : Plan) (asked : List Request) (H G : List HistoryEntry)
    (h : Lawful P asked None H) (h_none : Faultless H) (g : Lawful P asked None G) (g_none : Faultless G) where
  same_own : SameOwn (requests H) (requests G)
  same_own p = elim (cases_lt p (length P.cpus)) [
    | inl lt ↦ h.whole h_none p lt ∙ sym (g.whole g_none p lt)
    | inr le ↦ own-past power_words (power_fits P) H p h.legal.well_formed.entries le ∙ sym (own-past power_words (power_fits P) G p g.legal.well_formed.entries le)
  ]

  pub same-end : replay P H ≡ replay P G
  unfolding histories.replay
  same-end =
      replayed P H (opening P) h_none
      ∙ same-made P (requests H) (requests G) (opening P) same_own
      ∙ sym (replayed P G (opening P) g_none)

  same_count : (t : Reply → Bool) → IsOfKind t → count_by t (replies P H) ≡ count_by t (replies P G)
  unfolding histories.replies
  same_count t kind =
      count_total P t H (opening P) h_none
      ∙ same-total P (one_if P t) (λ S q r ne. ap (λ b. cond b 1 0) (answer-kept P t kind S q r ne))
      (requests H) (requests G) (opening P) same_own
      ∙ sym (count_total P t G (opening P) g_none)

  same_length : length H ≡ length G
  same_length =
      length_total P H (opening P)
      ∙ same-total P (λ S q. 1) (λ S q r ne. refl) (requests H) (requests G) (opening P) same_own
      ∙ sym (length_total P G (opening P))

  pub same-summary : summary_text P H ≡ summary_text P G
  unfolding summary_text
  same-summary =
      let a = same_length in
      let b = same_count is_entered entered_is in
      let c = same_count is_running running_is in
      let d = same_count is_stands stands_is in
      let e = same_count is_refused refused_is in
      let f = same-end in
      rw (a, b, c, d, e, f) refl

-- # The lines in their order

pub nothing_starts : (P : Plan) (asked : List Request) → IsStart P asked []
nothing_starts P asked = record {
  legal = record { well_formed = record { entries = tt; fault = tt }; faults = tt };
  begins = λ p lt. record { rest = own p asked; is = refl };
}

pub summary-script : (P : Plan) (asked : List Request) (H : List HistoryEntry) → AllByRecursion (Has P) asked → Lawful P asked None H
    → Faultless H → summary_text P H ≡ script_summary P asked
unfolding script_summary
summary-script P asked H has h none =
    let in_order = completed-run (power_fits P) asked [] has tt (nothing_starts P asked) in
    same-summary P asked H (map (entry_of 0) asked) h none in_order (entries_faultless (power_fits P) asked)
