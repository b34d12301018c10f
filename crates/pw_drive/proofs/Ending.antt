-- What comes of workers that ended, and of such as never began.
use Rattle.std.proofs.Common.{◌≡◌, ◌<◌, ℕ, List, Vec, [], ◌∷◌, map, length, ◌∙◌, subst, sym, arith}
use Rattle.std.specs.List.{AllByRecursion}
use Rattle.std.specs.declared.alloc.Global.{Global}
use Rattle.atomic_table.specs.Seated.{TableId}
use Rattle.pw_plan.specs.declared.plan.Plan.{Plan}
use Rattle.pw_plan.specs.declared.request.Request.{Request}
use Rattle.pw_plan.specs.Requests.{Has}
use Rattle.pw_model.specs.declared.entry.HistoryEntry.{HistoryEntry}
use Rattle.pw_machine.specs.declared.view.View.{View}
use Rattle.pw_model.specs.declared.reply.Reply.{Reply}
use Rattle.pw_books.specs.Books.{Begins, calls_of}
use Rattle.pw_books.specs.Workers.{MadeByWorkers}
use Rattle.pw_books.proofs.Joins.{each_map}
use Rattle.pw_drive.specs.inner.Lists.{AreLists}
use Rattle.pw_drive.specs.inner.Replying.{AreEmpty, AreReplies, KeepsReplies, handed_down}
use Rattle.pw_drive.proofs.ByProcessor.{Ends, replies_lie, two_each}
use Rattle.pw_machine.specs.Machine.{Given}
use Rattle.pw_regs.specs.declared.registers.Registers.{Ghosts as Registers}
use Rattle.pw_rule.specs.Promises.{Promise}
use Rattle.pw_turns.specs.Ends.{Ends as EndsAs}
use Rattle.pw_books.proofs.Ended as any
use Rattle.pw_books.proofs.Ended.{AllBecame, AreTaken, EndedFrom, became_too, each_became, made_by, none_made}
use Rattle.pw_drive.specs.declared.working.Worker.{Worker}
use Rattle.pw_drive.specs.inner.Lists.{AreListsFor}
use Rattle.pw_drive.specs.inner.Workers.{HasEnded, IsReady, gathered, holding, view_of}
use Rattle.pw_drive.specs.inner.Seated.{AllSeated, AreSeated, HasSeat, SeatedFor}
use Rattle.pw_drive.specs.inner.Gathered.{EndsWith, IsMember}
use Rattle.pw_drive.specs.inner.Runs.{LeavesNone, Makes}
use Rattle.pw_drive.specs.inner.Telling.{telling}

pub all_ready : (id : TableId) (P : Plan) (lists : List (Vec Request Global)) (ws : List Worker) → AreListsFor P lists → AllByRecursion (SeatedFor id lists) ws
    → AllByRecursion (IsReady id P) ws
all_ready id P lists ws are seated = any.all_ready telling holding (HasSeat id) lists (Has P) (IsReady id P)
    (λ w seat has. record { owns = seat.owns; fresh = seat.fresh; has = has; awaits = seat.awaits }) (length P.cpus) ws are seated

pub ended_members : (id : TableId) (given : Given) (lists : List (Vec Request Global)) (vs ws : List Worker) → AllBecame (HasEnded id given) vs ws
    → AllByRecursion (SeatedFor id lists) vs → AllByRecursion (IsMember id) ws
ended_members id given lists vs ws ended seated = each_became (HasEnded id given) (SeatedFor id lists) (IsMember id)
    (λ v w s e. record { owns = e.owns; part = e.parts ∙ s.seat.part }) vs ws ended seated

-- as any worker ends
ended_from : (id : TableId) (given : Given) (vs ws : List Worker) → AllBecame (HasEnded id given) vs ws → AllBecame (EndedFrom telling holding given.capacity) vs ws
ended_from id given vs ws ended = became_too (HasEnded id given) (EndedFrom telling holding given.capacity) (λ v w e. record { cpu = e.cpu; made = e.made }) vs ws ended

-- their processors are those of the lists
pub ended_inside : (id : TableId) (given : Given) (lists : List (Vec Request Global)) (count : ℕ) → count ≡ length lists → (vs ws : List Worker) → AllBecame (HasEnded id given) vs ws
    → AllByRecursion (SeatedFor id lists) vs → AllByRecursion (λ (w : Worker). w.cpu < count) ws
ended_inside id given lists count size vs ws ended seated = each_became (HasEnded id given) (SeatedFor id lists) (λ (w : Worker). w.cpu < count)
    (λ v w s e. let inside = s.cpu in let same = e.cpu in omega (arith, size, inside, same)) vs ws ended seated

pub seated_inside : (id : TableId) (lists : List (Vec Request Global)) (count : ℕ) → count ≡ length lists → (ws : List Worker) → AllByRecursion (SeatedFor id lists) ws
    → AllByRecursion (λ (w : Worker). w.cpu < count) ws
seated_inside id lists count size ws seated = each_map (SeatedFor id lists) (λ (w : Worker). w.cpu < count) (λ w s. let inside = s.cpu in omega (arith, size, inside)) ws seated

module _ {R : Type 0} (by : Registers R) (promise : Promise) (given : Given) where
  -- the seat with which all was closed has what they did
  taken : (ws : List Worker) (v : View) (entries : List HistoryEntry) (regs : R) → v.book ≡ calls_of 0 [] ∷ []
      → (e : EndsWith by promise given v ws entries regs) → AreTaken telling holding v.book ws e.last.seen e.last.book entries
  taken ws v entries regs silent e = record {
    silent = silent;
    saw = e.gathered.saw;
    joined = e.gathered.book;
    all = e.ends.seen;
    knows = e.ends.lists;
    once = e.ends.seats;
  }

  -- each worker that ended has its replies
  abbrev Kept : ℕ → Worker → Type 0
  Kept count w = (w.cpu < count) × KeepsReplies given.plan w.replies.items (view_of w)

  -- and saw a beginning of the history
  all_ends : (id : TableId) (lists : List (Vec Request Global)) (count : ℕ) → count ≡ length lists → (vs ws : List Worker) (v : View) (entries : List HistoryEntry) (regs : R)
      → AllByRecursion (SeatedFor id lists) vs → AllBecame (HasEnded id given) vs ws → EndsWith by promise given v ws entries regs
      → AllByRecursion (Ends given.plan count entries) ws
  all_ends id lists count size vs ws v entries regs seated ended e = two_each (Kept count) (λ (w : Worker). Begins e.last.seen (view_of w).seen) (Ends given.plan count entries)
      (λ w k saw. record { inside = k.0; replied = k.1; saw = subst (λ (es : List HistoryEntry). Begins es (view_of w).seen) (sym e.ends.seen) saw }) ws
      (each_became (HasEnded id given) (SeatedFor id lists) (Kept count) (λ v w s e. let inside = s.cpu in let same = e.cpu in (omega (arith, size, inside, same), e.replied)) vs ws ended seated)
      e.gathered.saw

  module _ (id : TableId) (lists : List (Vec Request Global)) (each : List (Vec Reply Global)) (vs ws : List Worker) (v : View) (entries : List HistoryEntry) (regs : R)
      (silent : v.book ≡ calls_of 0 [] ∷ []) (seated : AreSeated id lists vs) (all : AllSeated lists vs) (ended : AllBecame (HasEnded id given) vs ws)
      (empty : AreEmpty (length lists) each) (e : EndsWith by promise given v ws entries regs) where
    made : (asked : List Request) → AllByRecursion (Has given.plan) asked → AreLists asked (length given.plan.cpus) lists → given.capacity ≡ length asked
        → MadeByWorkers telling asked (map gathered ws) e.last.book entries
    made asked has are full =
        made_by telling holding (HasSeat id) lists v.book e.last.seen e.last.book entries asked (length given.plan.cpus) has are vs ws seated all
        (subst (λ n. AllBecame (EndedFrom telling holding n) vs ws) full (ended_from id given vs ws ended)) (taken ws v entries regs silent e)

    pub makes : (put : List (Vec Reply Global)) → put ≡ handed_down each ws → Makes by promise given lists put entries regs
    makes put is = record {
      last = e.last;
      ends = e.ends;
      workers = map gathered ws;
      made = made;
      told = λ asked has are full.
          let size : length given.plan.cpus ≡ length lists = sym are.sized in
          subst (AreReplies given.plan entries) (sym is) (replies_lie given.plan asked entries ws e.last.book (made asked has are full) each
          (subst (λ n. AreEmpty n each) are.sized empty)
          (all_ends id lists (length given.plan.cpus) size vs ws v entries regs seated.each ended e));
    }

  pub leaves_none : (id : TableId) (lists : List (Vec Request Global)) (ws : List Worker) (v : View) (entries : List HistoryEntry) (regs : R) → v.book ≡ calls_of 0 [] ∷ []
      → AreSeated id lists ws → EndsWith by promise given v ws entries regs → LeavesNone by promise given regs
  leaves_none id lists ws v entries regs silent seated e = record {
    last = e.last;
    ends = subst (λ es. EndsAs by promise given e.last es regs)
        (none_made telling holding (HasSeat id) (λ w seat. seat.fresh) lists v.book ws e.last.seen e.last.book entries seated.each (taken ws v entries regs silent e))
        e.ends;
  }
