-- A worker's requests, one by one.
use Rattle.std.proofs.Common.{◌≡◌, ◌≤◌, ◌<◌, ◌+◌, ℕ, true, false, List, [], ◌∷◌, ◌++◌, take, length, get_or}
use Rattle.std.proofs.Common.{sym, ◌∙◌, subst, arith, refl, inl, inr}
use Rattle.std.proofs.lemmas.Bool.{false≢true, true≢false}
use Rattle.pw_books.specs.declared.view.View.{View}
use Rattle.pw_books.specs.Books.{grown}
use Rattle.pw_books.specs.Workers.{HasAsked}
use Rattle.pw_books.proofs.Lines.{asked_next, faults, filled_part, worked_part}
use Rattle.pw_cppc.specs.declared.plan.CppcPlan.{CppcPlan}
use Rattle.pw_cppc.specs.declared.request.CppcRequest.{CppcRequest}
use Rattle.pw_cppc.specs.declared.request.CppcRequest.TheVariants.{Desired, Minimum, Maximum}
use Rattle.pw_cppc.specs.declared.entry.CppcEntry.{CppcEntry}
use Rattle.pw_cppc.specs.History.{Faultless}
use Rattle.pw_cppc.proofs.Joining.{request_of-entry}
use Rattle.pw_cppc_desk.specs.Entries.{entry_as}
use Rattle.pw_cppc_desk.specs.Finished.{Finished}
use Rattle.pw_cppc_desk.specs.declared.serving.CppcDone.{CppcDone}
use Rattle.pw_cppc_desk.specs.declared.serving.CppcDone.TheVariants.{Answer, Full, RegisterFault, Stopped}
use Rattle.pw_cppc_drive.specs.Lawful.{telling}
use Rattle.pw_cppc_drive.specs.inner.Workers.{MadeLines, is_answer}

as_seat : (n : ℕ) (q : CppcRequest) (fault : ℕ) → (entry_as n q fault).seat ≡ n
as_seat n (Desired p v) fault = refl
as_seat n (Minimum p v) fault = refl
as_seat n (Maximum p v) fault = refl

-- one more request is made
module _ (lines : List CppcRequest) (k : ℕ) (q : CppcRequest) (lt : k < length lines) (z : CppcRequest) (is : q ≡ get_or lines k z) (v w : View CppcEntry)
    (number : w.number ≡ v.number) (asked : HasAsked telling (take k lines) v.number v.book) where
  one_more : (fault : ℕ) → w.book ≡ grown telling.seat v.book (entry_as v.number q fault) → HasAsked telling (take (k + 1) lines) w.number w.book
  one_more fault book = subst (λ n. HasAsked telling (take (k + 1) lines) n w.book) (sym number) (subst (HasAsked telling (take (k + 1) lines) v.number) (sym book)
      (asked_next telling lines k v.number v.book (entry_as v.number q fault) z asked lt (sym is ∙ sym (request_of-entry v.number fault q)) (as_seat v.number q fault)))

  same_lines : w.book ≡ v.book → HasAsked telling (take k lines) w.number w.book
  same_lines book = subst (λ n. HasAsked telling (take k lines) n w.book) (sym number) (subst (HasAsked telling (take k lines) v.number) (sym book) asked)

module _ (P : CppcPlan) (room : ℕ) (lines : List CppcRequest) (k : ℕ) (q : CppcRequest) (lt : k < length lines) (z : CppcRequest) (is : q ≡ get_or lines k z)
    (v w : View CppcEntry) (asked : HasAsked telling (take k lines) v.number v.book) where
  -- it was answered
  pub goes_on : (d : CppcDone) → Finished P room v q d w → is_answer d ≡ true → HasAsked telling (take (k + 1) lines) w.number w.book
  goes_on (Answer reply) told e = one_more lines k q lt z is v w told.0.0 asked 0 told.1.book
  goes_on (Full capacity) told e = absurd (false≢true e)
  goes_on (RegisterFault done) told e = absurd (false≢true e)
  goes_on (Stopped at) told e = absurd (false≢true e)

  pub same_parts : (d : CppcDone) → Finished P room v q d w → w.parts ≡ v.parts
  same_parts (Answer reply) told = told.0.1
  same_parts (Full capacity) told = told.0.1
  same_parts (RegisterFault done) told = told.0.1
  same_parts (Stopped at) told = told.0.1

  filled : length w.seen ≡ room → room ≤ length w.seen
  filled e = omega (arith, e)

  stopped : (fault : ℕ) → w.number ≡ v.number → (before : List CppcEntry) → w.seen ≡ before ++ entry_as v.number q (fault + 1) ∷ []
      → w.book ≡ grown telling.seat v.book (entry_as v.number q (fault + 1))
      → MadeLines lines room w
  stopped fault number before seen book = inl (worked_part telling lines (k + 1) w.number w.book w.seen (one_more lines k q lt z is v w number asked (fault + 1) book)
      (λ none. faults telling before (entry_as v.number q (fault + 1)) (λ e. absurd (omega (arith, e))) (subst Faultless seen none)))

  -- it was not answered
  pub ends_here : (d : CppcDone) → Finished P room v q d w → is_answer d ≡ false → MadeLines lines room w
  ends_here (Answer reply) told e = absurd (true≢false e)
  ends_here (Full capacity) told e =
      inr (filled_part telling lines room k w.number w.book w.seen (same_lines lines k q lt z is v w told.0.0 asked told.1.book) (filled (told.3 ∙ told.2)))
  ends_here (RegisterFault done) told e = let x = told.1 in stopped done told.0.0 (v.seen ++ x.between) x.seen x.book
  ends_here (Stopped at) told e =
      inl (worked_part telling lines k w.number w.book w.seen (same_lines lines k q lt z is v w told.0.0 asked told.1.book) told.2)
