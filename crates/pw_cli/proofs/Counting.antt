-- A history has no more operations than may come of the lines that it asks.
use Rattle.std.proofs.Common.{◌≡◌, ◌≤◌, ◌++◌, ◌∷◌, ℕ, List, [], length, refl, sym, ap, arith, inl, inr, eq-eqb}
use Rattle.std.specs.Prelude.{sum_by}
use Rattle.std.proofs.lemmas.Bool.{cases_lt}
use Rattle.std.proofs.lemmas.List.{length-append}
use Rattle.std.proofs.lemmas.List.Sums.{sum_by-cons}
use Rattle.pw_plan.specs.declared.plan.Plan.{Plan}
use Rattle.pw_plan.specs.declared.request.Request.{Request}
use Rattle.pw_plan.specs.Requests.{cpu_of, ops_bound}
use Rattle.pw_kind.specs.History as histories
use Rattle.pw_model.specs.declared.entry.HistoryEntry.{HistoryEntry}
use Rattle.pw_model.specs.declared.state.State.{State}
use Rattle.pw_model.specs.States.{opening}
use Rattle.pw_model.specs.Operations.{opening_ops, ops_of}
use Rattle.pw_model.specs.History.{Faultless, after_entry, entry_ops, history_ops, ops_from, request_of}
use Rattle.pw_model.proofs.Bounds.{opening_ops-length, ops_of-le}
use Rattle.pw_notice.specs.Limits.{own, requests}
use Rattle.pw_books.specs.Books.{Begins}
use Rattle.pw_books.proofs.Sums.{sum-begun, sum-map_by}
use Rattle.pw_script.specs.declared.script.Line.{Line as line}
use Rattle.pw_script.specs.HistoryText.{power_words}
use Rattle.pw_script.specs.Lawful.{IsRunOf}
use Rattle.pw_script.specs.Reading.{operations, requests_of}
use Rattle.pw_history.proofs.Firsts.{own-past}
use Rattle.pw_script.proofs.Told.{power_fits}

from_few : (P : Plan) (es : List HistoryEntry) (S : State) → Faultless es → length (ops_from P S es) ≤ sum_by (ops_bound P) (requests es)
from_few P [] S none = omega arith
from_few P (e ∷ es) S none =
    let all_done : entry_ops P S e ≡ ops_of P S (request_of e) = rw (eq-eqb e.fault 0 none.0) refl in
    let here = ap length all_done in
    let both = length-append (entry_ops P S e) (ops_from P (after_entry P S e) es) in
    let first = ops_of-le P S (request_of e) in
    let later = from_few P es (after_entry P S e) none.1 in
    let all = sum_by-cons (ops_bound P) (request_of e) (requests es) in
    omega (arith, here, both, first, later, all)

module _ (P : Plan) (lines : List line) (es : List HistoryEntry) (run : IsRunOf P (requests_of lines) es) (none : Faultless es) where
  begins : (p : ℕ) → Begins (own p (requests_of lines)) (own p (requests es))
  begins p = elim (cases_lt p (length P.cpus)) [
    | inl lt ↦ ((run.begins p lt).rest, (run.begins p lt).is)
    | inr le ↦ (own p (requests_of lines), ap (λ (l : List Request). l ++ own p (requests_of lines)) (sym (own-past power_words (power_fits P) es p run.legal.well_formed.entries le)))
  ]

  -- as many as may come of the lines
  pub ops_few : length (opening_ops P ++ history_ops P es) ≤ operations P lines
  unfolding histories.history_ops
  ops_few =
      let both = length-append (opening_ops P) (ops_from P (opening P) es) in
      let start = opening_ops-length P in
      let later = from_few P es (opening P) none in
      let asked = sum-begun cpu_of (ops_bound P) (requests es) (requests_of lines) begins in
      let each = sum-map_by (ops_bound P) (λ (l : line). l.request) lines in
      omega (arith, both, start, later, asked, each)
