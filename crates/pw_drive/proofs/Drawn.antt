-- What a run by workers is to its caller.
use Rattle.std.proofs.Common.{◌≡◌, ◌≤◌, ◌<◌, ◌++◌, ◌∙◌, ℕ, suc, true, List, Vec, [], ◌∷◌, length, Option, Some, None, refl, ap, sym, subst, arith, append-nil, append_assoc}
use Rattle.std.specs.Prelude.{is_some}
use Rattle.std.specs.List.{AllByRecursion}
use Rattle.std.specs.declared.alloc.Global.{Global}
use Rattle.pw_rule.specs.Promises.{Promise, bound_of}
use Rattle.pw_base.specs.Outside.{Rose}
use Rattle.pw_plan.specs.declared.plan.Plan.{Plan}
use Rattle.pw_plan.specs.declared.request.Request.{Request}
use Rattle.pw_plan.specs.Requests.{Has}
use Rattle.pw_model.specs.declared.entry.HistoryEntry.{HistoryEntry}
use Rattle.pw_model.specs.declared.reply.Reply.{Reply}
use Rattle.pw_model.specs.History.{IsEntry, Legal, fault_at, history_ops}
use Rattle.pw_model.specs.Operations.{opening_ops}
use Rattle.pw_model.proofs.Joining.{faultless_none}
use Rattle.pw_model.proofs.Staying.{request_cpu}
use Rattle.pw_machine.specs.Machine.{Given}
use Rattle.pw_regs.specs.declared.registers.Registers.{Ghosts as Registers}
use Rattle.pw_regs.specs.Seen.{registers_seen}
use Rattle.pw_script.specs.declared.script.Line.{Line}
use Rattle.pw_script.specs.Lawful.{IsRunOf}
use Rattle.pw_script.specs.Reading.{operations, requests_of}
use Rattle.pw_turns.specs.Opens.{FailsAfter}
use Rattle.pw_books.specs.Asked.{cpu_of}
use Rattle.pw_books.specs.Asked.{IsRunOf as IsRun}
use Rattle.pw_books.specs.Seats.{SeatsTell, SitAlike}
use Rattle.pw_books.specs.Workers.{MadeByWorkers, seat_of}
use Rattle.pw_books.proofs.Joins.{each_map}
use Rattle.pw_books.proofs.Seats.{asked-run, seats-tell}
use Rattle.pw_books.proofs.Workers.{workers-asked}
use Rattle.pw_drive.specs.Drives.{Opens, Runs, TellSeats}
use Rattle.pw_drive.specs.inner.Lists.{AreLists, AreListsFor}
use Rattle.pw_drive.specs.inner.Replying.{AreReplies}
use Rattle.pw_drive.specs.inner.Runs.{LeavesNone, Makes}
use Rattle.pw_drive.proofs.Bounds.{run-bound}
use Rattle.pw_drive.specs.inner.Telling.{telling}
use Rattle.pw_machine.proofs.Plans.{ops_nil}

lines_have : (P : Plan) (lines : List Line) → AllByRecursion (λ (l : Line). Has P l.request) lines → AllByRecursion (Has P) (requests_of lines)
lines_have P [] has = tt
lines_have P (l ∷ ls) has = (has.0, lines_have P ls has.1)

pub lists_for : (P : Plan) (lines : List Line) (lists : List (Vec Request Global)) → AllByRecursion (λ (l : Line). Has P l.request) lines
    → AreLists (requests_of lines) (length P.cpus) lists → AreListsFor P lists
lists_for P lines lists has are = record { asked = requests_of lines; has = lines_have P lines has; are = are }

lines_size : (lines : List Line) → length (requests_of lines) ≡ length lines
lines_size [] = refl
lines_size (l ∷ ls) = ap suc (lines_size ls)

-- # Entries

-- what workers' laws tell of a history is what a script's allow
lawful_run : (P : Plan) (asked : List Request) (es : List HistoryEntry) → Legal P es → IsRun telling asked es → IsRunOf P asked es
lawful_run P asked es legal run = record {
  legal = legal;
  begins = λ p lt. record { rest = (run.begins p).0; is = (run.begins p).1 };
  whole = λ none p lt. run.whole none p;
}

tell_seats : (es : List HistoryEntry) → SeatsTell telling.seat (cpu_of telling) es → TellSeats es
tell_seats es told = each_map (λ e. AllByRecursion (SitAlike telling.seat (cpu_of telling) e) es) (λ e. AllByRecursion (SitAlike (λ (f : HistoryEntry). f.seat) (λ (f : HistoryEntry). f.cpu) e) es)
    (λ e alike. each_map (SitAlike telling.seat (cpu_of telling) e) (SitAlike (λ (f : HistoryEntry). f.seat) (λ (f : HistoryEntry). f.cpu) e) (λ f is. record {
      same_cpu = λ same. sym (request_cpu e) ∙ is.same_cpu same ∙ request_cpu f;
      same_seat = λ same. is.same_seat (request_cpu e ∙ same ∙ sym (request_cpu f));
    }) es alike) es told

where_fault : (o : Option ℕ) (a b : ℕ) → ((k : ℕ) → o ≡ Some k → Rose a b) → is_some o ≡ true → Rose a b
where_fault None a b rose e = cc
where_fault (Some k) a b rose e = rose k refl

module _ {R : Type 0} (by : Registers R) (P : Plan) (lines : List Line) (n : ℕ) (size : n ≡ length lines) (regs : R) where
  abbrev pub given : Given
  given = record { plan = P; capacity = n; ops = by.log regs; count = by.faults regs }

  pub runs : (promise : Promise) (g : Given) (lists : List (Vec Request Global)) (each : List (Vec Reply Global)) (entries : List HistoryEntry) (left : R)
      → promise.told ≡ by.told regs → promise.room ≡ by.room regs → g ≡ given
      → AllByRecursion (λ (l : Line). Has P l.request) lines → AreLists (requests_of lines) (length P.cpus) lists → Makes by promise g lists each entries left
      → Runs P lines None entries (registers_seen by regs) (registers_seen by left)
  runs promise g lists each entries left is room same has are m =
      let m : Makes by promise given lists each entries left = subst (λ x. Makes by promise x lists each entries left) same m in
      let asked = requests_of lines in
      let made : MadeByWorkers telling asked m.workers m.last.book entries = m.made asked (lines_have P lines has) are (size ∙ sym (lines_size lines)) in
      let by_seats = workers-asked telling asked entries m.workers m.last.book made in
      let run = asked-run telling asked (seat_of m.workers) entries by_seats in
      let within : bound_of P entries ≤ operations P lines = run-bound P lines entries run in
      record {
        lawful = lawful_run P asked entries m.ends.legal run;
        seats = tell_seats entries (seats-tell telling asked (seat_of m.workers) entries by_seats);
        operates = record {
          same_told = m.ends.same_told ∙ is;
          count = m.ends.least;
          log = λ tells. m.ends.ops (is ∙ tells) ∙ append_assoc (by.log regs) (opening_ops P) (history_ops P entries);
          fault = where_fault (fault_at entries) (by.faults regs) (by.faults left) m.ends.fault;
          promised = λ most.
              let kept = m.ends.promised.steady (omega (arith, within, most, room)) in
              (faultless_none entries kept.1, kept.0);
        };
      }

  -- the replies lie in their processors' lists
  pub told : (promise : Promise) (g : Given) (lists : List (Vec Request Global)) (each : List (Vec Reply Global)) (entries : List HistoryEntry) (left : R)
      → g ≡ given → AllByRecursion (λ (l : Line). Has P l.request) lines → AreLists (requests_of lines) (length P.cpus) lists → Makes by promise g lists each entries left
      → AreReplies P entries each
  told promise g lists each entries left same has are m =
      (subst (λ x. Makes by promise x lists each entries left) same m).told (requests_of lines) (lines_have P lines has) are (size ∙ sym (lines_size lines))

  -- each entry is of a processor that has a list, and there are no more entries than lines
  pub inside : (promise : Promise) (g : Given) (lists : List (Vec Request Global)) (each : List (Vec Reply Global)) (entries : List HistoryEntry) (left : R)
      → g ≡ given → AllByRecursion (λ (l : Line). Has P l.request) lines → AreLists (requests_of lines) (length P.cpus) lists → Makes by promise g lists each entries left
      → AllByRecursion (λ (e : HistoryEntry). e.cpu < length each) entries
  inside promise g lists each entries left same has are m =
      let sized = (told promise g lists each entries left same has are m).size in
      each_map (IsEntry P) (λ (e : HistoryEntry). e.cpu < length each) (λ e is. let lt = is.states.cpu in omega (arith, lt, sized)) entries
      (subst (λ x. Makes by promise x lists each entries left) same m).ends.legal.well_formed.entries

  pub few : (promise : Promise) (g : Given) (lists : List (Vec Request Global)) (each : List (Vec Reply Global)) (entries : List HistoryEntry) (left : R)
      → g ≡ given → Makes by promise g lists each entries left → length entries ≤ length lines
  few promise g lists each entries left same m =
      let within = (subst (λ x. Makes by promise x lists each entries left) same m).ends.within in
      omega (arith, within, size)

  pub opens : (promise : Promise) (g : Given) (left : R) → promise.told ≡ by.told regs → promise.room ≡ by.room regs → g ≡ given
      → LeavesNone by promise g left → Opens P (registers_seen by regs) (registers_seen by left)
  opens promise g left is room same n =
      let n : LeavesNone by promise given left = subst (λ x. LeavesNone by promise x left) same n in
      record {
        same_told = n.ends.same_told ∙ is;
        count = n.ends.least;
        log = λ tells. n.ends.ops (is ∙ tells) ∙ ap (λ l. by.log regs ++ opening_ops P ++ l) (ops_nil P) ∙ append-nil (by.log regs ++ opening_ops P);
        promised = λ most. (n.ends.promised.steady (omega (arith, most, room))).0;
      }

  pub stops : (done : ℕ) (left : R) → FailsAfter by P regs done left → Runs P lines (Some done) [] (registers_seen by regs) (registers_seen by left)
  stops done left f = record {
    lawful = (f.within, refl);
    seats = tt;
    operates = record {
      same_told = f.same_told;
      count = f.least;
      log = f.ops;
      fault = λ e. f.failed;
      promised = λ most. let short = f.promised in absurd (omega (arith, short, most));
    };
  }
