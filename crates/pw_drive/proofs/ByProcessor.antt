-- A worker's replies are those to its processor's entries: its seat and its processor have the same ones.
use Rattle.std.proofs.Common.{◌≡◌, ◌≢◌, ◌==◌, ◌<◌, ◌⊎◌, ℕ, Bool, true, false, cond, List, Vec, [], ◌∷◌, length, map, refl, ap, sym, ◌∙◌, subst, eqb-true, eq-eqb, ne_eqb, inl, inr}
use Rattle.std.specs.List.{AllByRecursion}
use Rattle.std.specs.declared.alloc.Global.{Global}
use Rattle.std.proofs.lemmas.Bool.{eqb-false}
use Rattle.pw_plan.specs.declared.plan.Plan.{Plan}
use Rattle.pw_plan.specs.declared.request.Request.{Request}
use Rattle.pw_model.specs.declared.entry.HistoryEntry.{HistoryEntry}
use Rattle.pw_model.specs.declared.reply.Reply.{Reply}
use Rattle.pw_model.proofs.Staying.{request_cpu}
use Rattle.pw_machine.specs.Machine.{seat_of}
use Rattle.pw_books.specs.declared.calls.Calls.{Calls}
use Rattle.pw_books.specs.Asked.{own, requests}
use Rattle.pw_books.specs.Books.{Begins, Knows, calls_of, entries_of}
use Rattle.pw_books.specs.Seats.{AskedBySeats, IsSeat}
use Rattle.pw_books.specs.Workers.{AreApart, Ended, HasWorker, MadeByWorkers, Worker, joined_down, joined_up}
use Rattle.pw_books.specs.Workers.{seat_of as seat_in}
use Rattle.pw_books.proofs.Joins.{down_has, each_map, up_has}
use Rattle.pw_books.proofs.Seats.{each_first}
use Rattle.pw_books.proofs.Workers.{workers-asked}
use Rattle.pw_drive.specs.inner.Replying.{AreEmpty, AreReplies, KeepsReplies, handed_down, is_by, is_for, picked}
use Rattle.pw_drive.specs.inner.Telling.{telling}
use Rattle.pw_drive.specs.inner.Workers.{gathered, view_of}
use Rattle.pw_drive.specs.declared.working.Worker.{Worker as worker}
use Rattle.pw_drive.proofs.Handing.{Brings, all_handed, handed_size}
use Rattle.pw_drive.proofs.Kept.{are_all}
use Rattle.pw_drive.proofs.Picking.{picked_nil, picked_others, picked_same}

abbrev Workers : Type 0
Workers = List (Worker HistoryEntry)

-- # Requests of one processor

own_each : (p : ℕ) (qs : List Request) → AllByRecursion (λ (q : Request). telling.cpu q ≡ p) (own telling p qs)
own_each p [] = tt
own_each p (q ∷ qs) = step (telling.cpu q == p) refl (own_each p qs)
  where
    step : (b : Bool) → (telling.cpu q == p) ≡ b → AllByRecursion (λ (q : Request). telling.cpu q ≡ p) (own telling p qs)
        → AllByRecursion (λ (q : Request). telling.cpu q ≡ p) (cond b (q ∷ own telling p qs) (own telling p qs))
    step true h later = (eqb-true (telling.cpu q) p h, later)
    step false h later = later

-- who asked by this seat asked for p
by_seat : (n p : ℕ) (es : List HistoryEntry) → AllByRecursion (λ (q : Request). telling.cpu q ≡ p) (requests telling (entries_of seat_of n es))
    → AllByRecursion (λ (e : HistoryEntry). e.seat ≡ n → e.cpu ≡ p) es
by_seat n p [] all = tt
by_seat n p (e ∷ es) all = step (e.seat == n) refl all (by_seat n p es)
  where
    step : (b : Bool) → (e.seat == n) ≡ b → AllByRecursion (λ (q : Request). telling.cpu q ≡ p) (requests telling (cond b (e ∷ entries_of seat_of n es) (entries_of seat_of n es)))
        → (AllByRecursion (λ (q : Request). telling.cpu q ≡ p) (requests telling (entries_of seat_of n es)) → AllByRecursion (λ (e : HistoryEntry). e.seat ≡ n → e.cpu ≡ p) es)
        → (e.seat ≡ n → e.cpu ≡ p) × AllByRecursion (λ (e : HistoryEntry). e.seat ≡ n → e.cpu ≡ p) es
    step true h all later = ((λ is. sym (request_cpu e) ∙ all.0), later all.1)
    step false h all later = ((λ is. absurd (eqb-false e.seat n h is)), later all)

begun_for : (n p : ℕ) (asked : List Request) (es : List HistoryEntry) → Begins (own telling p asked) (requests telling (entries_of seat_of n es))
    → AllByRecursion (λ (e : HistoryEntry). e.seat ≡ n → e.cpu ≡ p) es
begun_for n p asked es b = by_seat n p es
    (each_first (λ (q : Request). telling.cpu q ≡ p) (requests telling (entries_of seat_of n es)) b.0 (subst (AllByRecursion (λ (q : Request). telling.cpu q ≡ p)) b.1 (own_each p asked)))

-- # Workers that are apart

-- each has the seat of its processor
behind : (w : Worker HistoryEntry) (ws vs : Workers) → AllByRecursion (λ (v : Worker HistoryEntry). v.cpu ≢ w.cpu) vs → AllByRecursion (λ (v : Worker HistoryEntry). seat_in ws v.cpu ≡ v.number) vs
    → AllByRecursion (λ (v : Worker HistoryEntry). seat_in (w ∷ ws) v.cpu ≡ v.number) vs
behind w ws [] other is = tt
behind w ws (v ∷ vs) other is = (ap (λ b. cond b w.number (seat_in ws v.cpu)) (ne_eqb w.cpu v.cpu (λ same. other.0 (sym same))) ∙ is.0, behind w ws vs other.1 is.1)

seats_are : (ws : Workers) → AreApart ws → AllByRecursion (λ (w : Worker HistoryEntry). seat_in ws w.cpu ≡ w.number) ws
seats_are [] apart = tt
seats_are (w ∷ ws) apart = (ap (λ b. cond b w.number (seat_in ws w.cpu)) (eq-eqb w.cpu w.cpu refl), behind w ws ws apart.0 (seats_are ws apart.1))

pub two_each : {X : Type 0} (A B C : X → Type 0) → ((x : X) → A x → B x → C x) → (xs : List X) → AllByRecursion A xs → AllByRecursion B xs → AllByRecursion C xs
two_each A B C f [] a b = tt
two_each A B C f (x ∷ xs) a b = (f x a.0 b.0, two_each A B C f xs a.1 b.1)

module _ (P : Plan) (asked : List Request) (es : List HistoryEntry) (ws : Workers) (book : List (Calls HistoryEntry)) (made : MadeByWorkers telling asked ws book es) where
  by : AskedBySeats telling asked (seat_in ws) es
  by = workers-asked telling asked es ws book made

  knows : AllByRecursion (λ (w : Worker HistoryEntry). Knows seat_of w.book es) ws
  knows = step made.joined.joined
    where
      step : (book ≡ joined_up made.joined.first ws) ⊎ (book ≡ joined_down made.joined.first ws) → AllByRecursion (λ (w : Worker HistoryEntry). Knows seat_of w.book es) ws
      step (inl is) = (up_has seat_of made.joined.first ws es (subst (λ (b : List (Calls HistoryEntry)). Knows seat_of b es) is made.knows)).knows
      step (inr is) = (down_has seat_of made.joined.first ws es (subst (λ (b : List (Calls HistoryEntry)). Knows seat_of b es) is made.knows)).knows

  -- a worker's seat asked for its processor alone
  only_for : (w : Worker HistoryEntry) → Ended telling asked w → Knows seat_of w.book es → AllByRecursion (λ (e : HistoryEntry). e.seat ≡ w.number → e.cpu ≡ w.cpu) es
  only_for w ended knows = step ended
    where
      known : (entries : List HistoryEntry) → w.book ≡ calls_of w.number entries ∷ [] → Begins (own telling w.cpu asked) (requests telling entries)
          → AllByRecursion (λ (e : HistoryEntry). e.seat ≡ w.number → e.cpu ≡ w.cpu) es
      known entries alone begins =
          let k : Knows seat_of (calls_of w.number entries ∷ []) es = subst (λ (b : List (Calls HistoryEntry)). Knows seat_of b es) alone knows in
          begun_for w.number w.cpu asked es (subst (λ (l : List HistoryEntry). Begins (own telling w.cpu asked) (requests telling l)) (sym k.0) begins)

      step : Ended telling asked w → AllByRecursion (λ (e : HistoryEntry). e.seat ≡ w.number → e.cpu ≡ w.cpu) es
      step (inl worked) = known worked.entries worked.alone worked.begins
      step (inr filled) = known filled.entries filled.alone filled.begins

  -- an entry's seat is that of its processor, which has a worker
  record Sits (e : HistoryEntry) : Type 0 where
    seat : e.seat ≡ seat_in ws e.cpu
    worker : HasWorker ws e.cpu

  of_processor : (p : ℕ) → own telling p asked ≢ [] → AllByRecursion (λ (e : HistoryEntry). e.seat ≡ seat_in ws p → e.cpu ≡ p) es
  of_processor p some = begun_for (seat_in ws p) p asked es (by.begins p some)

  all_sit : AllByRecursion Sits es
  all_sit = sit es by.seated of_processor
    where
      sit : (fs : List HistoryEntry) → AllByRecursion (λ (e : HistoryEntry). IsSeat telling asked (seat_in ws) (seat_of e)) fs
          → ((p : ℕ) → own telling p asked ≢ [] → AllByRecursion (λ (e : HistoryEntry). e.seat ≡ seat_in ws p → e.cpu ≡ p) fs) → AllByRecursion Sits fs
      sit [] seated is = tt
      sit (f ∷ fs) seated is =
          let s = seated.0 in
          let cpu : f.cpu ≡ s.cpu = (is s.cpu s.some).0 s.is in (
            record { seat = s.is ∙ ap (seat_in ws) (sym cpu); worker = subst (HasWorker ws) (sym cpu) (made.all s.cpu s.some) },
            sit fs seated.1 (λ p some. (is p some).1),
          )

  same_ones : (w : Worker HistoryEntry) → seat_in ws w.cpu ≡ w.number → AllByRecursion (λ (e : HistoryEntry). e.seat ≡ w.number → e.cpu ≡ w.cpu) es
      → AllByRecursion (λ (e : HistoryEntry). is_by w.number e ≡ is_for w.cpu e) es
  same_ones w seat only = two_each Sits (λ (e : HistoryEntry). e.seat ≡ w.number → e.cpu ≡ w.cpu) (λ (e : HistoryEntry). is_by w.number e ≡ is_for w.cpu e)
      (λ e s o. alike e (e.seat == w.number) refl s o) es all_sit only
    where
      alike : (e : HistoryEntry) (b : Bool) → (e.seat == w.number) ≡ b → Sits e → (e.seat ≡ w.number → e.cpu ≡ w.cpu) → (e.seat == w.number) ≡ (e.cpu == w.cpu)
      alike e true h s o = h ∙ sym (eq-eqb e.cpu w.cpu (o (eqb-true e.seat w.number h)))
      alike e false h s o = h ∙ sym (ne_eqb e.cpu w.cpu (λ is. eqb-false e.seat w.number h (s.seat ∙ ap (seat_in ws) is ∙ seat)))

  -- the entries of each worker's seat are those of its processor
  pub each_same : AllByRecursion (λ (w : Worker HistoryEntry). AllByRecursion (λ (e : HistoryEntry). is_by w.number e ≡ is_for w.cpu e) es) ws
  each_same = two_each (λ (w : Worker HistoryEntry). seat_in ws w.cpu ≡ w.number) (λ (w : Worker HistoryEntry). AllByRecursion (λ (e : HistoryEntry). e.seat ≡ w.number → e.cpu ≡ w.cpu) es)
      (λ (w : Worker HistoryEntry). AllByRecursion (λ (e : HistoryEntry). is_by w.number e ≡ is_for w.cpu e) es) same_ones ws (seats_are ws made.apart)
      (two_each (Ended telling asked) (λ (w : Worker HistoryEntry). Knows seat_of w.book es) (λ (w : Worker HistoryEntry). AllByRecursion (λ (e : HistoryEntry). e.seat ≡ w.number → e.cpu ≡ w.cpu) es)
      only_for ws made.ended knows)

  -- and a processor without a worker has none
  pub none_for : (p : ℕ) → (HasWorker ws p → ⊥) → picked P (is_for p) es ≡ []
  none_for p none = picked_others P (is_for p) [] es (each_map Sits (λ (e : HistoryEntry). is_for p e ≡ false)
      (λ e s. ne_eqb e.cpu p (λ is. none (subst (HasWorker ws) is s.worker))) es all_sit) ∙ picked_nil P (is_for p)

  pub each_knows : AllByRecursion (λ (w : Worker HistoryEntry). Knows seat_of w.book es) ws
  each_knows = knows

-- # A program's workers

each_back : (S : Worker HistoryEntry → Type 0) (ws : List worker) → AllByRecursion S (map gathered ws) → AllByRecursion (λ (w : worker). S (gathered w)) ws
each_back S [] all = tt
each_back S (w ∷ ws) all = (all.0, each_back S ws all.1)

-- what is known of one that ended
pub record Ends (P : Plan) (count : ℕ) (es : List HistoryEntry) (w : worker) : Type 0 where
  pub inside : w.cpu < count
  pub replied : KeepsReplies P w.replies.items (view_of w)
  pub saw : Begins es (view_of w).seen

module _ (P : Plan) (asked : List Request) (es : List HistoryEntry) (ws : List worker) (book : List (Calls HistoryEntry))
    (made : MadeByWorkers telling asked (map gathered ws) book es) (each : List (Vec Reply Global)) (empty : AreEmpty (length P.cpus) each)
    (ended : AllByRecursion (Ends P (length P.cpus) es) ws) where
  abbrev Both : worker → Type 0
  Both w = Knows seat_of (view_of w).book es × AllByRecursion (λ (e : HistoryEntry). is_by (view_of w).number e ≡ is_for w.cpu e) es

  both : AllByRecursion Both ws
  both = two_each (λ (w : worker). Knows seat_of (view_of w).book es) (λ (w : worker). AllByRecursion (λ (e : HistoryEntry). is_by (view_of w).number e ≡ is_for w.cpu e) es) Both
      (λ w a b. (a, b)) ws
      (each_back (λ (w : Worker HistoryEntry). Knows seat_of w.book es) ws (each_knows P asked es (map gathered ws) book made))
      (each_back (λ (w : Worker HistoryEntry). AllByRecursion (λ (e : HistoryEntry). is_by w.number e ≡ is_for w.cpu e) es) ws (each_same P asked es (map gathered ws) book made))

  brings : AllByRecursion (Brings (λ (p : ℕ). picked P (is_for p) es) each (length P.cpus) empty) ws
  brings = two_each (Ends P (length P.cpus) es) Both (Brings (λ (p : ℕ). picked P (is_for p) es) each (length P.cpus) empty)
      (λ w e b. record {
        inside = e.inside;
        are = are_all P (view_of w).number (view_of w).book (view_of w).seen w.replies.items e.replied es e.saw b.0 ∙ picked_same P (is_by (view_of w).number) (is_for w.cpu) es b.1;
      }) ws ended both

  pub replies_lie : AreReplies P es (handed_down each ws)
  replies_lie = record {
    size = handed_size each ws ∙ empty.size;
    replies = λ p d lt. elim (all_handed (λ (p : ℕ). picked P (is_for p) es) each (length P.cpus) empty ws brings p d (subst (λ n. p < n) (handed_size each ws ∙ empty.size) lt)) [
      | inl is ↦ is
      | inr none ↦ none.0 ∙ sym (none_for P asked es (map gathered ws) book made p none.1)
    ];
  }
