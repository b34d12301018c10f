-- The replies that a worker keeps are those to its seat's entries.
use Rattle.std.proofs.Common.{◌≡◌, ◌≢◌, ◌<◌, ◌+◌, ℕ, true, cond, List, [], ◌∷◌, ◌++◌, Option, Some, None, refl, ap, sym, ◌∙◌, subst, eq-eqb, append-nil, arith}
use Rattle.std.proofs.lemmas.List.{append_cancel_left}
use Rattle.pw_plan.specs.declared.plan.Plan.{Plan}
use Rattle.pw_plan.specs.declared.request.Request.{Request}
use Rattle.pw_plan.specs.declared.request.Request.TheVariants.{Idle, Wake, Perf, Throttle, PerfLimit, ThrottleLimit}
use Rattle.pw_model.specs.declared.entry.HistoryEntry.{HistoryEntry}
use Rattle.pw_model.specs.declared.reply.Reply.{Reply}
use Rattle.pw_model.specs.Answers.{answer}
use Rattle.pw_model.specs.History.{replay}
use Rattle.pw_machine.specs.declared.view.View.{View}
use Rattle.pw_machine.specs.Machine.{Given, seat_of}
use Rattle.pw_books.specs.declared.calls.Calls.{Calls}
use Rattle.pw_books.specs.Books.{Begins, Knows, calls_of, count_in, entries_of, grown}
use Rattle.pw_books.proofs.Books.{entries_of-append}
use Rattle.pw_books.proofs.Lists.{one}
use Rattle.pw_turns.specs.Asked.{entry_as}
use Rattle.pw_turns.specs.Finished.{Finished}
use Rattle.pw_turns.specs.Told.{Looks}
use Rattle.pw_turns.specs.declared.waited.Done.{Done}
use Rattle.pw_turns.specs.declared.waited.Done.TheVariants.{Answer, Full, RegisterFault, Stopped}
use Rattle.pw_turns.proofs.Entries.{asks_for, entry_seat}
use Rattle.pw_drive.specs.inner.Replying.{HasReplies, KeepsReplies, is_by, picked, reply_in}
use Rattle.pw_drive.proofs.Picking.{by_none, picked_fault, picked_last, picked_nil, picked_others}

-- a reply behind the others, if there is one
abbrev pub with_reply : List Reply → Option Reply → List Reply
with_reply rs (Some r) = rs ++ r ∷ []
with_reply rs None = rs

entry_fault : (seat : ℕ) (q : Request) (fault : ℕ) → (entry_as seat q fault).fault ≡ fault
entry_fault seat (Idle p s t) fault = refl
entry_fault seat (Wake p) fault = refl
entry_fault seat (Perf p i) fault = refl
entry_fault seat (Throttle p i) fault = refl
entry_fault seat (PerfLimit p i) fault = refl
entry_fault seat (ThrottleLimit p i) fault = refl

pub replied_none : (P : Plan) (v : View) (rs : List Reply) → v.book ≡ calls_of v.number [] ∷ [] → v.seen ≡ [] → rs ≡ [] → KeepsReplies P rs v
replied_none P v rs fresh unseen none = record {
  entries = [];
  alone = fresh;
  known = ap (entries_of seat_of v.number) unseen;
  are = none ∙ sym (picked_nil P (is_by v.number)) ∙ ap (picked P (is_by v.number)) (sym unseen);
}

module _ (P : Plan) (n : ℕ) (book : List (Calls HistoryEntry)) (seen : List HistoryEntry) (rs : List Reply) (h : HasReplies P rs n book seen) where
  -- its number stands in its book
  in_book : 0 < count_in n book
  in_book = subst (λ (b : List (Calls HistoryEntry)). 0 < count_in n b) (sym h.alone) (omega (arith, one n n refl))

  -- it has seen others' entries
  module _ (between : List HistoryEntry) (none : (m : ℕ) → 0 < count_in m book → entries_of seat_of m between ≡ []) where
    know_more : entries_of seat_of n (seen ++ between) ≡ h.entries
    know_more = entries_of-append seat_of n seen between ∙ ap (λ (es : List HistoryEntry). entries_of seat_of n seen ++ es) (none n in_book) ∙ append-nil (entries_of seat_of n seen) ∙ h.known

    are_still : rs ≡ picked P (is_by n) (seen ++ between)
    are_still = h.are ∙ sym (picked_others P (is_by n) seen between (by_none n between (none n in_book)))

    pub has_looked : HasReplies P rs n book (seen ++ between)
    has_looked = record { entries = h.entries; alone = h.alone; known = know_more; are = are_still }

    -- and has made one
    module _ (q : Request) (fault : ℕ) where
      abbrev e : HistoryEntry
      e = entry_as n q fault

      by : is_by n e ≡ true
      by = eq-eqb e.seat n (entry_seat n q fault)

      has_more : (more : List Reply) → more ≡ picked P (is_by n) ((seen ++ between) ++ e ∷ []) → HasReplies P more n (grown seat_of book e) ((seen ++ between) ++ e ∷ [])
      has_more more are = record {
        entries = h.entries ++ e ∷ [];
        alone = ap (λ (b : List (Calls HistoryEntry)). grown seat_of b e) h.alone ∙ ap (λ b. calls_of n (cond b (h.entries ++ e ∷ []) h.entries) ∷ []) by;
        known = entries_of-append seat_of n (seen ++ between) (e ∷ []) ∙ ap (λ b. entries_of seat_of n (seen ++ between) ++ cond b (e ∷ []) []) by
            ∙ ap (λ (es : List HistoryEntry). es ++ e ∷ []) know_more;
        are = are;
      }

      pub has_answered : fault ≡ 0 → HasReplies P (rs ++ answer P (replay P (seen ++ between)) q ∷ []) n (grown seat_of book e) ((seen ++ between) ++ e ∷ [])
      has_answered is = has_more _
          (ap (λ (l : List Reply). l ++ answer P (replay P (seen ++ between)) q ∷ []) are_still
          ∙ ap (λ r. picked P (is_by n) (seen ++ between) ++ answer P (replay P (seen ++ between)) r ∷ []) (sym (asks_for n q fault))
          ∙ sym (picked_last P (is_by n) (seen ++ between) e by (entry_fault n q fault ∙ is)))

      pub has_failed : fault ≢ 0 → HasReplies P rs n (grown seat_of book e) ((seen ++ between) ++ e ∷ [])
      has_failed is = has_more rs (are_still ∙ sym (picked_fault P (is_by n) (seen ++ between) e (λ none. is (sym (entry_fault n q fault) ∙ none))))

  -- in the end the replies are those to all of its entries
  pub are_all : (es : List HistoryEntry) → Begins es seen → Knows seat_of book es → rs ≡ picked P (is_by n) es
  are_all es begins knows =
      let rest = begins.0 in
      let whole : entries_of seat_of n es ≡ h.entries = (subst (λ (b : List (Calls HistoryEntry)). Knows seat_of b es) h.alone knows).0 in
      let both : entries_of seat_of n seen ++ entries_of seat_of n rest ≡ entries_of seat_of n seen ++ [] =
      sym (entries_of-append seat_of n seen rest) ∙ ap (entries_of seat_of n) (sym begins.1) ∙ whole ∙ sym h.known ∙ sym (append-nil (entries_of seat_of n seen)) in
      let none : entries_of seat_of n rest ≡ [] = append_cancel_left (entries_of seat_of n seen) (entries_of seat_of n rest) [] both in
      h.are ∙ sym (picked_others P (is_by n) seen rest (by_none n rest none)) ∙ ap (picked P (is_by n)) (sym begins.1)

-- # A request is made

module _ (given : Given) (v : View) (q : Request) (w : View) (rs : List Reply) (h : KeepsReplies given.plan rs v) where
  as_seen : (more : List Reply) (book : List (Calls HistoryEntry)) (seen : List HistoryEntry) → w.number ≡ v.number → w.book ≡ book → w.seen ≡ seen
      → HasReplies given.plan more v.number book seen → KeepsReplies given.plan more w
  as_seen more book seen number is saw has = rw (number, is, saw) has

  looks : w.number ≡ v.number → Looks given.plan v w → KeepsReplies given.plan rs w
  looks number l = as_seen rs v.book (v.seen ++ l.begins.0) number l.book l.begins.1 (has_looked given.plan v.number v.book v.seen rs h l.begins.0 l.no_other)

  pub keeps : (d : Done) → Finished given v q d w → KeepsReplies given.plan (with_reply rs (reply_in d)) w
  keeps (Answer reply) told =
      let x = told.1 in
      as_seen (rs ++ reply ∷ []) _ _ told.0.0 x.book x.seen
      (subst (λ r. HasReplies given.plan (rs ++ r ∷ []) v.number (grown seat_of v.book (entry_as v.number q 0)) ((v.seen ++ x.between) ++ entry_as v.number q 0 ∷ [])) (sym told.2)
      (has_answered given.plan v.number v.book v.seen rs h x.between x.no_other q 0 refl))
  keeps (Full capacity) told = looks told.0.0 told.1
  keeps (RegisterFault done) told =
      let x = told.1 in
      as_seen rs _ _ told.0.0 x.book x.seen (has_failed given.plan v.number v.book v.seen rs h x.between x.no_other q (done + 1) (λ is. omega (arith, is)))
  keeps (Stopped at) told = looks told.0.0 told.1
