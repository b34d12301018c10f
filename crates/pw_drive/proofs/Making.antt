-- A worker's requests, one by one.
use Rattle.std.proofs.Common.{◌≡◌, ◌≢◌, ◌≤◌, ◌<◌, ◌+◌, ℕ, List, [], ◌∷◌, ◌++◌, take, length, get_or, Some, None}
use Rattle.std.proofs.Common.{sym, ◌∙◌, subst, arith, inl, inr}
use Rattle.std.proofs.lemmas.Option.{none-some}
use Rattle.pw_plan.specs.declared.request.Request.{Request}
use Rattle.pw_plan.specs.declared.request.Request.TheVariants.{Idle, Wake, Perf, Throttle, PerfLimit, ThrottleLimit}
use Rattle.pw_model.specs.declared.entry.HistoryEntry.{HistoryEntry}
use Rattle.pw_model.specs.declared.reply.Reply.{Reply}
use Rattle.pw_model.specs.History.{Faultless}
use Rattle.pw_journal.specs.Entries.{fault_place}
use Rattle.pw_journal.proofs.Places.{faultless_none}
use Rattle.pw_machine.specs.declared.view.View.{View}
use Rattle.pw_books.specs.Books.{grown}
use Rattle.pw_machine.specs.Machine.{Given}
use Rattle.pw_turns.specs.Asked.{entry_as}
use Rattle.pw_turns.specs.Finished.{Finished}
use Rattle.pw_turns.specs.declared.waited.Done.{Done}
use Rattle.pw_turns.specs.declared.waited.Done.TheVariants.{Answer, Full, RegisterFault, Stopped}
use Rattle.pw_turns.proofs.Entries.{asks_for, entry_seat}
use Rattle.pw_books.specs.Workers.{HasAsked}
use Rattle.pw_books.proofs.Lines.{asked_next, faults, filled_part, worked_part}
use Rattle.pw_drive.specs.inner.Replying.{reply_in}
use Rattle.pw_drive.specs.inner.Workers.{MadeLines}
use Rattle.pw_drive.specs.inner.Telling.{telling}

-- one more request is made
module _ (lines : List Request) (k : ℕ) (q : Request) (lt : k < length lines) (z : Request) (is : q ≡ get_or lines k z) (v w : View) (number : w.number ≡ v.number)
    (asked : HasAsked telling (take k lines) v.number v.book) where
  one_more : (fault : ℕ) → w.book ≡ grown telling.seat v.book (entry_as v.number q fault) → HasAsked telling (take (k + 1) lines) w.number w.book
  one_more fault book = subst (λ n. HasAsked telling (take (k + 1) lines) n w.book) (sym number) (subst (HasAsked telling (take (k + 1) lines) v.number) (sym book)
      (asked_next telling lines k v.number v.book (entry_as v.number q fault) z asked lt (sym is ∙ sym (asks_for v.number q fault)) (entry_seat v.number q fault)))

  same_lines : w.book ≡ v.book → HasAsked telling (take k lines) w.number w.book
  same_lines book = subst (λ n. HasAsked telling (take k lines) n w.book) (sym number) (subst (HasAsked telling (take k lines) v.number) (sym book) asked)

module _ (given : Given) (lines : List Request) (k : ℕ) (q : Request) (lt : k < length lines) (z : Request) (is : q ≡ get_or lines k z) (v w : View)
    (asked : HasAsked telling (take k lines) v.number v.book) where
  -- it was answered
  pub goes_on : (d : Done) (r : Reply) → Finished given v q d w → reply_in d ≡ Some r → HasAsked telling (take (k + 1) lines) w.number w.book
  goes_on (Answer reply) r told e = one_more lines k q lt z is v w told.0.0 asked 0 told.1.book
  goes_on (Full capacity) r told e = absurd (none-some r e)
  goes_on (RegisterFault done) r told e = absurd (none-some r e)
  goes_on (Stopped at) r told e = absurd (none-some r e)

  pub same_parts : (d : Done) → Finished given v q d w → w.parts ≡ v.parts
  same_parts (Answer reply) told = told.0.1
  same_parts (Full capacity) told = told.0.1
  same_parts (RegisterFault done) told = told.0.1
  same_parts (Stopped at) told = told.0.1

  room : length w.seen ≡ given.capacity → given.capacity ≤ length w.seen
  room e = omega (arith, e)

  faulty : (at : ℕ) → fault_place w.seen ≡ Some at → Faultless w.seen → ⊥
  faulty at e none = none-some at (sym (faultless_none w.seen none) ∙ e)

  stopped : (fault : ℕ) → w.number ≡ v.number → (before : List HistoryEntry) → w.seen ≡ before ++ entry_as v.number q (fault + 1) ∷ []
      → w.book ≡ grown telling.seat v.book (entry_as v.number q (fault + 1))
      → MadeLines lines given.capacity w
  stopped fault number before seen book = inl (worked_part telling lines (k + 1) w.number w.book w.seen (one_more lines k q lt z is v w number asked (fault + 1) book)
      (λ none. faults telling before (entry_as v.number q (fault + 1)) (as_fault v.number q fault) (subst Faultless seen none)))
    where
      as_fault : (n : ℕ) (r : Request) (f : ℕ) → (entry_as n r (f + 1)).fault ≢ 0
      as_fault n (Idle p s t) f e = omega (arith, e)
      as_fault n (Wake p) f e = omega (arith, e)
      as_fault n (Perf p i) f e = omega (arith, e)
      as_fault n (Throttle p i) f e = omega (arith, e)
      as_fault n (PerfLimit p i) f e = omega (arith, e)
      as_fault n (ThrottleLimit p i) f e = omega (arith, e)

  -- it was not answered
  pub ends_here : (d : Done) → Finished given v q d w → reply_in d ≡ None → MadeLines lines given.capacity w
  ends_here (Answer reply) told e = absurd (none-some reply (sym e))
  ends_here (Full capacity) told e =
      inr (filled_part telling lines given.capacity k w.number w.book w.seen (same_lines lines k q lt z is v w told.0.0 asked told.1.book) (room (told.3 ∙ told.2)))
  ends_here (RegisterFault done) told e = let x = told.1 in stopped done told.0.0 (v.seen ++ x.between) x.seen x.book
  ends_here (Stopped at) told e =
      inl (worked_part telling lines k w.number w.book w.seen (same_lines lines k q lt z is v w told.0.0 asked told.1.book) (faulty at told.2))
