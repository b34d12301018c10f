-- What comes of workers that ended, and of such as never began.
use Rattle.std.proofs.Common.{◌≡◌, ℕ, List, Vec, [], ◌∷◌, map, length, ◌∙◌, subst, arith}
use Rattle.std.specs.List.{AllByRecursion}
use Rattle.std.specs.declared.alloc.Global.{Global}
use Rattle.atomic_table.specs.Seated.{TableId}
use Rattle.pw_cppc.specs.declared.plan.CppcPlan.{CppcPlan}
use Rattle.pw_cppc.specs.declared.request.CppcRequest.{CppcRequest}
use Rattle.pw_cppc.specs.Requests.{Has, opening_bound}
use Rattle.pw_cppc.specs.declared.entry.CppcEntry.{CppcEntry}
use Rattle.pw_books.specs.declared.view.View.{View}
use Rattle.pw_books.specs.Books.{calls_of}
use Rattle.pw_regs.specs.declared.registers.Registers.{Ghosts as Registers}
use Rattle.pw_regs.specs.Seen.{registers_seen}
use Rattle.pw_regs.proofs.Operating.{did_within}
use Rattle.pw_cppc_desk.specs.Slots.{bound_of}
use Rattle.pw_cppc_desk.specs.Ends.{Ends}
use Rattle.pw_books.proofs.Ended as any
use Rattle.pw_books.proofs.Joins.{each_map}
use Rattle.pw_books.proofs.Ended.{AllBecame, AreTaken, EndedFrom, became_too, each_became, made_by, none_made}
use Rattle.pw_cppc_drive.specs.declared.working.Worker.{Worker}
use Rattle.pw_cppc_drive.specs.Lawful.{Opened, telling}
use Rattle.pw_cppc_drive.specs.inner.Lists.{AreListsFor}
use Rattle.pw_cppc_drive.specs.inner.Workers.{HasEnded, IsReady, gathered, holding}
use Rattle.pw_cppc_drive.specs.inner.Seated.{AllSeated, AreSeated, HasSeat, SeatedFor}
use Rattle.pw_cppc_drive.specs.inner.Gathered.{EndsWith, IsMember}
use Rattle.pw_cppc_drive.specs.inner.Runs.{Makes}

pub all_ready : (id : TableId) (P : CppcPlan) (lists : List (Vec CppcRequest Global)) (ws : List Worker) → AreListsFor P lists → AllByRecursion (SeatedFor id lists) ws
    → AllByRecursion (IsReady id P) ws
all_ready id P lists ws are seated = any.all_ready telling holding (HasSeat id) lists (Has P) (IsReady id P)
    (λ w seat has. record { owns = seat.owns; fresh = seat.fresh; has = has }) (length P.cpus) ws are seated

pub seated_members : (id : TableId) (lists : List (Vec CppcRequest Global)) (ws : List Worker) → AllByRecursion (SeatedFor id lists) ws → AllByRecursion (IsMember id) ws
seated_members id lists ws seated = each_map (SeatedFor id lists) (IsMember id) (λ w s. record { owns = s.seat.owns; part = s.seat.part }) ws seated

pub ended_members : (id : TableId) (room : ℕ) (lists : List (Vec CppcRequest Global)) (vs ws : List Worker) → AllBecame (HasEnded id room) vs ws
    → AllByRecursion (SeatedFor id lists) vs → AllByRecursion (IsMember id) ws
ended_members id room lists vs ws ended seated = each_became (HasEnded id room) (SeatedFor id lists) (IsMember id)
    (λ v w s e. record { owns = e.owns; part = e.parts ∙ s.seat.part }) vs ws ended seated

-- as any worker ends
ended_from : (id : TableId) (room : ℕ) (vs ws : List Worker) → AllBecame (HasEnded id room) vs ws → AllBecame (EndedFrom telling holding room) vs ws
ended_from id room vs ws ended = became_too (HasEnded id room) (EndedFrom telling holding room) (λ v w e. record { cpu = e.cpu; made = e.made }) vs ws ended

module _ {R : Type 0} (by : Registers R) (P : CppcPlan) (room : ℕ) (given : R) where
  -- the seat with which all was closed has what they did
  taken : (ws : List Worker) (v : View CppcEntry) (entries : List CppcEntry) (regs : R) → v.book ≡ calls_of 0 [] ∷ []
      → (e : EndsWith by P room given v ws entries regs) → AreTaken telling holding v.book ws e.last.seen e.last.book entries
  taken ws v entries regs silent e = record {
    silent = silent;
    saw = e.gathered.saw;
    joined = e.gathered.book;
    all = e.ends.seen;
    knows = e.ends.lists;
    once = e.ends.seats;
  }

  pub makes : (id : TableId) (lists : List (Vec CppcRequest Global)) (vs ws : List Worker) (v : View CppcEntry) (entries : List CppcEntry) (regs : R)
      → v.book ≡ calls_of 0 [] ∷ [] → AreSeated id lists vs → AllSeated lists vs → AllBecame (HasEnded id room) vs ws
      → EndsWith by P room given v ws entries regs → Makes by P room given lists entries regs
  makes id lists vs ws v entries regs silent seated all ended e = record {
    last = e.last;
    ends = e.ends;
    workers = map gathered ws;
    made = λ asked has are full.
        made_by telling holding (HasSeat id) lists v.book e.last.seen e.last.book entries asked (length P.cpus) has are vs ws seated all
        (ended_from id (length asked) vs ws (subst (λ n. AllBecame (HasEnded id n) vs ws) full ended)) (taken ws v entries regs silent e);
  }

  pub opened : (id : TableId) (lists : List (Vec CppcRequest Global)) (ws : List Worker) (v : View CppcEntry) (entries : List CppcEntry) (regs : R)
      → v.book ≡ calls_of 0 [] ∷ [] → AreSeated id lists ws → EndsWith by P room given v ws entries regs → Opened by P given regs
  opened id lists ws v entries regs silent seated e =
      let ended : Ends by P room given e.last [] regs = subst (λ es. Ends by P room given e.last es regs)
      (none_made telling holding (HasSeat id) (λ w seat. seat.fresh) lists v.book ws e.last.seen e.last.book entries seated.each (taken ws v entries regs silent e))
      e.ends in
      did_within (bound_of P []) (opening_bound P) _ _ (registers_seen by given) (registers_seen by regs) (omega arith) ended.did
