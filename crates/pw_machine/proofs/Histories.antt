-- Each legal history with room comes about, and no other.
use Rattle.std.proofs.Common.{◌≡◌, inl, ℕ, ◌<◌, ◌≤◌, ◌==◌, List, [], ◌∷◌, ◌++◌, Bool, true, false, length, cond, eq-eqb, sym, refl, ap, ◌∙◌, subst, arith, append_assoc, append-nil, length-append}
use mathlib.Core.Option.{some}
use mathlib.Core.Logic.{dite}
use native.Mathlib.Decide.{dec_le}
use lib.ListN.{get_elem?}
use Rattle.std.specs.List.{AllByRecursion}
use Rattle.pw_plan.specs.declared.request.Request.{Request}
use Rattle.pw_plan.specs.Requests.{Has}
use Rattle.pw_model.specs.declared.entry.HistoryEntry.{HistoryEntry}
use Rattle.pw_model.specs.History.{Legal, MayFollow, request_of}
use Rattle.pw_model.proofs.Joining.{legal-first, legal-follows}
use Rattle.pw_model.specs.Records.{Part, record_count}
use Rattle.pw_machine.specs.declared.view.View.{View}
use Rattle.pw_machine.specs.Turns.{way}
use Rattle.pw_books.specs.Books.{entries_of}
use Rattle.pw_machine.specs.Machine.{Given, Machine, Invariant, now, turns_of, seat_of}
use Rattle.pw_machine.specs.Steps.{Asks, IsIdle}
use Rattle.pw_machine.specs.Law.{opened}
use Rattle.pw_machine.specs.Histories.{ComesAbout, HistoriesComeAbout, MayComeAbout}
use Rattle.pw_machine.proofs.Plans.{follows_has}
use Rattle.pw_machine.proofs.Keeps.{law}
use Rattle.pw_machine.proofs.Paths.{Path, kept, stay, then_path}
use Rattle.pw_machine.proofs.Cycles.{Cycled, cycles}
use Rattle.pw_machine.proofs.Seating.{Seated, seated_quiet, seated_still, splits}

-- an idle seat may begin a request
pub idle_asks : (m : Machine) (i : Invariant m) (j : ℕ) (v : View) → get_elem? m.views j ≡ some v → IsIdle v → (q : Request)
    → Has m.given.plan q → Asks m.given.plan v q
idle_asks m i j v at a q has = record {
  of_plan = has;
  live = a.live;
  unmarked = a.unmarked;
  before = (((i.fits j v at).serves a.unmarked).rests a.request).2;
  no_journal = a.no_journal;
  request =
      inl a.request;
}

-- an idle seat makes a request from its first turn to its last
pub whole_request : (n : ℕ) (m : Machine) → (s : Seated n m) → (j : ℕ) → (le : j ≤ n) → (e : HistoryEntry) → e.seat ≡ j
    → MayFollow m.given.plan m.history e → length m.history < m.given.capacity → Cycled m j ((s.seats j le).view) e
whole_request n m s j le e seat follows room =
    let p = s.seats j le in
    let q = request_of e in
    let has = follows_has m.given.plan m.history e follows in
    let nothing : turns_of p.view.held ≡ [] = ap turns_of p.idle.held in
    cycles m s.inv j p.view p.there (seated_quiet n m j s) q (idle_asks m s.inv j p.view p.there p.idle q has) (way m.given.plan (now m) q)
    (ap (λ l. l ++ way m.given.plan (now m) q) (sym nothing)) p.idle.no_slot e refl (seat ∙ sym p.number) follows room

record Grows (m : Machine) (n : ℕ) (todo : List HistoryEntry) : Type 0 where
  end : Machine
  path : Path m end
  history : end.history ≡ m.history ++ todo

grows : (todo : List HistoryEntry) (n : ℕ) (m : Machine) → Seated n m → Legal m.given.plan (m.history ++ todo)
    → length (m.history ++ todo) ≤ m.given.capacity → AllByRecursion (λ (e : HistoryEntry). e.seat ≤ n) todo → Grows m n todo
grows [] n m s legal room low = record { end = m; path = stay m; history = sym (append-nil m.history) }
grows (e ∷ es) n m s legal room low =
    let P = m.given.plan in
    let split : (m.history ++ e ∷ []) ++ es ≡ m.history ++ e ∷ es = append_assoc m.history (e ∷ []) es in
    let first : Legal P (m.history ++ e ∷ []) = legal-first P (m.history ++ e ∷ []) es (subst (Legal P) (sym split) legal) in
    let follows = legal-follows P m.history e first in
    let c = whole_request n m s e.seat low.0 e refl follows (omega (arith, room, length-append m.history (e ∷ es))) in
    let seat = s.seats e.seat low.0 in
    let s2 = seated_still n m c.end e.seat c.view s c.leads (c.number ∙ seat.number) c.idle (c.told ∙ seat.told) in
    let same : c.end.history ++ es ≡ m.history ++ e ∷ es = ap (λ h. h ++ es) c.history ∙ split in
    let legal2 : Legal c.end.given.plan (c.end.history ++ es) = subst (λ (g : Given). Legal g.plan (c.end.history ++ es)) (sym c.leads.given) (subst (Legal P) (sym same) legal) in
    let g = grows es n c.end s2 legal2 (omega (arith, room, ap (length {A = HistoryEntry}) same, ap (λ (x : Given). x.capacity) c.leads.given)) low.1 in
    record { end = g.end; path = then_path m c.end g.end c.leads.path g.path; history = g.history ∙ same }

below_all : (H : List HistoryEntry) → AllByRecursion (λ (e : HistoryEntry). e.seat < 65536) H
    → AllByRecursion (λ (e : HistoryEntry). e.seat ≤ 65535) H
below_all [] a = tt
below_all (e ∷ es) a = (let lt = a.0 in omega (arith, lt), below_all es a.1)

comes : (given : Given) (values : List Part) (history : List HistoryEntry) → length values ≡ record_count given.plan
    → MayComeAbout given history → ComesAbout given values history
comes given values history sized may =
    let s = splits given values sized 65535 (omega arith) in
    let m = s.end in
    let same : m.history ++ history ≡ history = ap (λ h. h ++ history) s.history in
    let legal : Legal m.given.plan (m.history ++ history) = subst (λ (g : Given). Legal g.plan (m.history ++ history)) (sym s.given_same) (subst (Legal given.plan) (sym same) may.legal) in
    let g = grows history 65535 m s.seated legal (omega (arith, may.room, ap (length {A = HistoryEntry}) same, ap (λ (x : Given). x.capacity) s.given_same)) (below_all history may.numbers) in
    let p = then_path (opened given values) m g.end s.path g.path in
    record { steps = p.0; end = g.end; allowed = p.1; ends = g.history ∙ same }

-- who made no entry of a list is none of its seats
numbers_below : (made : ℕ) (H : List HistoryEntry) → ((n : ℕ) → made ≤ n → entries_of seat_of n H ≡ []) → made ≤ 65536
    → AllByRecursion (λ (e : HistoryEntry). e.seat < 65536) H
numbers_below made [] none most = tt
numbers_below made (e ∷ es) none most = (
  dite (dec_le made e.seat)
      (λ le. absurd (let z = none e.seat le in let is : entries_of seat_of e.seat (e ∷ es) ≡ e ∷ entries_of seat_of e.seat es = ap
      (λ b. cond b (e ∷ entries_of seat_of e.seat es) (entries_of seat_of e.seat es)) (eq-eqb e.seat e.seat refl) in cc))
      (λ lt. omega (arith, lt, most)),
  numbers_below made es (λ n le. tail n (e.seat == n) (none n le)) most,
)
  where
    tail : (n : ℕ) (b : Bool) → cond b (e ∷ entries_of seat_of n es) (entries_of seat_of n es) ≡ [] → entries_of seat_of n es ≡ []
    tail n true z = cc
    tail n false z = z

came : (given : Given) (values : List Part) (history : List HistoryEntry) → length values ≡ record_count given.plan
    → ComesAbout given values history → MayComeAbout given history
came given values history sized c =
    let i = law given values c.steps c.end sized c.allowed in
    let given_same = kept (opened given values) c.steps c.end c.allowed in
    record {
      legal = subst (λ (g : Given). Legal g.plan history) given_same (subst (Legal c.end.given.plan) c.ends i.history.legal);
      room = omega (arith, i.history.room, ap (length {A = HistoryEntry}) c.ends, ap (λ (g : Given). g.capacity) given_same);
      numbers = subst (AllByRecursion (λ (e : HistoryEntry). e.seat < 65536)) c.ends (numbers_below c.end.made c.end.history i.numbers.strangers i.numbers.most);
    }

pub histories_come_about : HistoriesComeAbout
histories_come_about given values history sized = (came given values history sized, comes given values history sized)
