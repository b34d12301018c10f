-- The replies to some of a history's entries.
use Rattle.std.proofs.Common.{◌≡◌, ◌≢◌, ◌==◌, ℕ, Bool, true, false, cond, List, [], ◌∷◌, ◌++◌, refl, ap, sym, ◌∙◌, append-nil, append_assoc, arith}
use Rattle.std.specs.List.{AllByRecursion}
use Rattle.std.proofs.lemmas.Bool.Decides.{nat_tests}
use Rattle.pw_kind.specs.History as histories
use Rattle.pw_plan.specs.declared.plan.Plan.{Plan}
use Rattle.pw_model.specs.declared.entry.HistoryEntry.{HistoryEntry}
use Rattle.pw_model.specs.declared.reply.Reply.{Reply}
use Rattle.pw_model.specs.declared.state.State.{State}
use Rattle.pw_model.specs.States.{opening}
use Rattle.pw_model.specs.Answers.{answer}
use Rattle.pw_model.specs.History.{after_entry, entry_reply, replay, replay_from, replies, request_of}
use Rattle.pw_model.proofs.Joining.{replies-append}
use Rattle.pw_machine.specs.Machine.{seat_of}
use Rattle.pw_books.specs.Books.{entries_of}
use Rattle.pw_drive.specs.inner.Replying.{is_by, picked, picked_from}

-- # An entry's reply

replied : (P : Plan) (S : State) (e : HistoryEntry) → e.fault ≡ 0 → entry_reply P S e ≡ answer P S (request_of e) ∷ []
replied P S e is =
    let none : (e.fault == 0) ≡ true = grind (arith, nat_tests) in
    rw none refl

unreplied : (P : Plan) (S : State) (e : HistoryEntry) → e.fault ≢ 0 → entry_reply P S e ≡ []
unreplied P S e is =
    let some : (e.fault == 0) ≡ false = grind (arith, nat_tests) in
    rw some refl

pub replies_last : (P : Plan) (es : List HistoryEntry) (e : HistoryEntry) → e.fault ≡ 0 → replies P (es ++ e ∷ []) ≡ replies P es ++ answer P (replay P es) (request_of e) ∷ []
replies_last P es e is = replies-append P es (e ∷ []) ∙ ap (λ (rs : List Reply). replies P es ++ rs) (append-nil (entry_reply P (replay P es) e) ∙ replied P (replay P es) e is)

pub replies_fault : (P : Plan) (es : List HistoryEntry) (e : HistoryEntry) → e.fault ≢ 0 → replies P (es ++ e ∷ []) ≡ replies P es
replies_fault P es e is =
    replies-append P es (e ∷ []) ∙ ap (λ (rs : List Reply). replies P es ++ rs) (append-nil (entry_reply P (replay P es) e) ∙ unreplied P (replay P es) e is) ∙ append-nil (replies P es)

-- # Those of some entries

module _ (P : Plan) (f : HistoryEntry → Bool) where
  from-append : (S : State) (es fs : List HistoryEntry) → picked_from P f S (es ++ fs) ≡ picked_from P f S es ++ picked_from P f (replay_from P S es) fs
  from-append S [] fs = refl
  from-append S (e ∷ es) fs = step (f e) (entry_reply P S e) (from-append (after_entry P S e) es fs)
    where
      step : (b : Bool) (r : List Reply) → picked_from P f (after_entry P S e) (es ++ fs) ≡ picked_from P f (after_entry P S e) es ++ picked_from P f (replay_from P (after_entry P S e) es) fs
          → cond b (r ++ picked_from P f (after_entry P S e) (es ++ fs)) (picked_from P f (after_entry P S e) (es ++ fs))
          ≡ cond b (r ++ picked_from P f (after_entry P S e) es) (picked_from P f (after_entry P S e) es) ++ picked_from P f (replay_from P (after_entry P S e) es) fs
      step true r later = ap (λ (rs : List Reply). r ++ rs) later ∙ sym (append_assoc r (picked_from P f (after_entry P S e) es) (picked_from P f (replay_from P (after_entry P S e) es) fs))
      step false r later = later

  from_none : (S : State) (es : List HistoryEntry) → AllByRecursion (λ (e : HistoryEntry). f e ≡ false) es → picked_from P f S es ≡ []
  from_none S [] none = refl
  from_none S (e ∷ es) none = rw none.0 (from_none (after_entry P S e) es none.1)

  pub picked-append : (es fs : List HistoryEntry) → picked P f (es ++ fs) ≡ picked P f es ++ picked_from P f (replay P es) fs
  unfolding picked histories.replay
  picked-append es fs = from-append (opening P) es fs

  pub picked_nil : picked P f [] ≡ []
  unfolding picked
  picked_nil = refl

  -- the others change nothing
  pub picked_others : (es fs : List HistoryEntry) → AllByRecursion (λ (e : HistoryEntry). f e ≡ false) fs → picked P f (es ++ fs) ≡ picked P f es
  picked_others es fs none = picked-append es fs ∙ ap (λ (rs : List Reply). picked P f es ++ rs) (from_none (replay P es) fs none) ∙ append-nil (picked P f es)

  -- nor does a fault
  pub picked_fault : (es : List HistoryEntry) (e : HistoryEntry) → e.fault ≢ 0 → picked P f (es ++ e ∷ []) ≡ picked P f es
  picked_fault es e is = picked-append es (e ∷ []) ∙ ap (λ (rs : List Reply). picked P f es ++ rs) (step (f e)) ∙ append-nil (picked P f es)
    where
      step : (b : Bool) → cond b (entry_reply P (replay P es) e ++ []) [] ≡ []
      step true = append-nil (entry_reply P (replay P es) e) ∙ unreplied P (replay P es) e is
      step false = refl

  pub picked_last : (es : List HistoryEntry) (e : HistoryEntry) → f e ≡ true → e.fault ≡ 0 → picked P f (es ++ e ∷ []) ≡ picked P f es ++ answer P (replay P es) (request_of e) ∷ []
  picked_last es e there is =
      picked-append es (e ∷ []) ∙ ap (λ (b : Bool). picked P f es ++ cond b (entry_reply P (replay P es) e ++ []) []) there
      ∙ ap (λ (rs : List Reply). picked P f es ++ rs) (append-nil (entry_reply P (replay P es) e) ∙ replied P (replay P es) e is)

-- two tests that say the same of each entry
same_from : (P : Plan) (f g : HistoryEntry → Bool) (S : State) (es : List HistoryEntry) → AllByRecursion (λ (e : HistoryEntry). f e ≡ g e) es → picked_from P f S es ≡ picked_from P g S es
same_from P f g S [] same = refl
same_from P f g S (e ∷ es) same = rw (same.0, same_from P f g (after_entry P S e) es same.1) refl

pub picked_same : (P : Plan) (f g : HistoryEntry → Bool) (es : List HistoryEntry) → AllByRecursion (λ (e : HistoryEntry). f e ≡ g e) es → picked P f es ≡ picked P g es
unfolding picked
picked_same P f g es same = same_from P f g (opening P) es same

-- a seat without entries
pub by_none : (n : ℕ) (es : List HistoryEntry) → entries_of seat_of n es ≡ [] → AllByRecursion (λ (e : HistoryEntry). is_by n e ≡ false) es
by_none n [] none = tt
by_none n (e ∷ es) none = step (e.seat == n) refl none (by_none n es)
  where
    step : (b : Bool) → (e.seat == n) ≡ b → cond b (e ∷ entries_of seat_of n es) (entries_of seat_of n es) ≡ []
        → (entries_of seat_of n es ≡ [] → AllByRecursion (λ (x : HistoryEntry). is_by n x ≡ false) es)
        → (is_by n e ≡ false) × AllByRecursion (λ (x : HistoryEntry). is_by n x ≡ false) es
    step true h none later = absurd (cc)
    step false h none later = (h, later none)
