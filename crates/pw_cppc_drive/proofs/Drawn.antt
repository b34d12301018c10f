-- What a run by workers is to its caller.
use Rattle.std.proofs.Common.{◌≡◌, ◌≤◌, ◌∙◌, ℕ, suc, List, Vec, [], ◌∷◌, length, None, Some, refl, ap, sym, subst, arith}
use Rattle.std.specs.List.{AllByRecursion}
use Rattle.std.specs.declared.alloc.Global.{Global}
use Rattle.pw_regs.specs.declared.registers.Registers.{Ghosts as Registers}
use Rattle.pw_regs.specs.Seen.{registers_seen}
use Rattle.pw_regs.proofs.Operating.{did_within}
use Rattle.pw_books.specs.Asked.{IsRunOf, cpu_of}
use Rattle.pw_books.specs.Seats.{SeatsTell, SitAlike}
use Rattle.pw_books.specs.Workers.{MadeByWorkers, seat_of}
use Rattle.pw_books.proofs.Joins.{each_map}
use Rattle.pw_books.proofs.Seats.{asked-run, seats-tell}
use Rattle.pw_books.proofs.Sums.{asks_no_more, sum-map_by}
use Rattle.pw_books.proofs.Workers.{workers-asked}
use Rattle.pw_cppc.specs.declared.plan.CppcPlan.{CppcPlan}
use Rattle.pw_cppc.specs.declared.request.CppcRequest.{CppcRequest}
use Rattle.pw_cppc.specs.Requests.{Has, ops_bound}
use Rattle.pw_cppc.specs.declared.entry.CppcEntry.{CppcEntry}
use Rattle.pw_cppc.specs.History.{request_of}
use Rattle.pw_cppc_drive.specs.declared.script.CppcLine.{CppcLine as line}
use Rattle.pw_cppc_drive.proofs.Requested.{entry_cpu}
use Rattle.pw_cppc_drive.specs.Reading.{operations, requests_of}
use Rattle.pw_cppc_drive.specs.Driven.{OperatesFor}
use Rattle.pw_cppc_desk.specs.Opens.{FailsAfter}
use Rattle.pw_cppc_desk.specs.Slots.{bound_of}
use Rattle.pw_cppc_drive.specs.Lawful.{Lawful, TellSeats, telling}
use Rattle.pw_cppc_drive.specs.inner.Lists.{AreLists, AreListsFor}
use Rattle.pw_cppc_drive.specs.inner.Runs.{Makes}

-- # Lines

lines_have : (P : CppcPlan) (lines : List line) → AllByRecursion (λ (l : line). Has P l.request) lines → AllByRecursion (Has P) (requests_of lines)
lines_have P [] has = tt
lines_have P (l ∷ ls) has = (has.0, lines_have P ls has.1)

pub lists_for : (P : CppcPlan) (lines : List line) (lists : List (Vec CppcRequest Global)) → AllByRecursion (λ (l : line). Has P l.request) lines
    → AreLists (requests_of lines) (length P.cpus) lists → AreListsFor P lists
lists_for P lines lists has are = record { asked = requests_of lines; has = lines_have P lines has; are = are }

lines_size : (lines : List line) → length (requests_of lines) ≡ length lines
lines_size [] = refl
lines_size (l ∷ ls) = ap suc (lines_size ls)

-- # Entries

tell_seats : (es : List CppcEntry) → SeatsTell telling.seat (cpu_of telling) es → TellSeats es
tell_seats es told = each_map (λ e. AllByRecursion (SitAlike telling.seat (cpu_of telling) e) es) (λ e. AllByRecursion (SitAlike (λ (f : CppcEntry). f.seat) (λ (f : CppcEntry). f.cpu) e) es)
    (λ e alike. each_map (SitAlike telling.seat (cpu_of telling) e) (SitAlike (λ (f : CppcEntry). f.seat) (λ (f : CppcEntry). f.cpu) e) (λ f is. record {
      same_cpu = λ same. sym (entry_cpu e) ∙ is.same_cpu same ∙ entry_cpu f;
      same_seat = λ same. is.same_seat (entry_cpu e ∙ same ∙ sym (entry_cpu f));
    }) es alike) es told

-- a history of the lines has no more operations than they have
within : (P : CppcPlan) (lines : List line) (es : List CppcEntry) → IsRunOf telling (requests_of lines) es → bound_of P es ≤ operations P lines
within P lines es run =
    let fewer = asks_no_more telling (ops_bound P) (requests_of lines) es run in
    let left = sum-map_by (ops_bound P) request_of es in
    let right = sum-map_by (ops_bound P) (λ (l : line). l.request) lines in
    omega (arith, fewer, left, right)

-- # Runs

module _ {R : Type 0} (by : Registers R) (P : CppcPlan) (lines : List line) (regs : R) where
  pub record Ran (entries : List CppcEntry) (left : R) : Type 0 where
    pub lawful : Lawful P (requests_of lines) None entries
    pub seats : TellSeats entries
    pub operates : OperatesFor P (operations P lines) None entries (registers_seen by regs) (registers_seen by left)

  pub ran : (n : ℕ) (lists : List (Vec CppcRequest Global)) (entries : List CppcEntry) (left : R) → n ≡ length lines
      → AllByRecursion (λ (l : line). Has P l.request) lines → AreLists (requests_of lines) (length P.cpus) lists → Makes by P n regs lists entries left → Ran entries left
  ran n lists entries left size has are m =
      let asked = requests_of lines in
      let made : MadeByWorkers telling asked m.workers m.last.book entries = m.made asked (lines_have P lines has) are (size ∙ sym (lines_size lines)) in
      let by_seats = workers-asked telling asked entries m.workers m.last.book made in
      let run = asked-run telling asked (seat_of m.workers) entries by_seats in
      record {
        lawful = (m.ends.legal, run);
        seats = tell_seats entries (seats-tell telling asked (seat_of m.workers) entries by_seats);
        operates = did_within (bound_of P entries) (operations P lines) _ _ (registers_seen by regs) (registers_seen by left) (within P lines entries run) m.ends.did;
      }

  -- at a desk of that plan, over those registers
  pub ran_at : (D : CppcPlan) (given : R) (n : ℕ) (lists : List (Vec CppcRequest Global)) (entries : List CppcEntry) (left : R) → D ≡ P → given ≡ regs → n ≡ length lines
      → AllByRecursion (λ (l : line). Has P l.request) lines → AreLists (requests_of lines) (length P.cpus) lists → Makes by D n given lists entries left → Ran entries left
  ran_at D given n lists entries left plan old size has are m =
      ran n lists entries left size has are (subst (λ x. Makes by x n regs lists entries left) plan (subst (λ x. Makes by D n x lists entries left) old m))

  -- the start was ended by a fault
  pub failed_at : (done : ℕ) (left : R) → FailsAfter by P regs done left → OperatesFor P (operations P lines) (Some done) [] (registers_seen by regs) (registers_seen by left)
  failed_at done left f =
      let few = f.promised in
      record {
        same_told = f.same_told;
        count = f.least;
        log = f.ops;
        fault = λ _. f.failed;
        promised = λ enough. absurd (omega (arith, enough, few));
        left = omega (arith, few);
      }
