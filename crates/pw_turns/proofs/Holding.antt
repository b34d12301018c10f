-- The records of a request in two steps, from the last on.
use Rattle.std.proofs.Common.{◌≡◌, ◌++◌, ℕ, Bool, List, [], ◌∷◌, Option, None, Result, refl, ap, sym, subst, ◌∙◌, append_assoc, arith, ◌≤◌}
use Rattle.acpi_values.specs.declared.operation.Op.{Op}
use Rattle.pw_plan.specs.declared.plan.Plan.{Plan}
use Rattle.pw_plan.specs.declared.request.Request.{Request}
use Rattle.pw_plan.specs.Requests.{Has}
use Rattle.pw_model.specs.declared.reply.Reply.{Reply}
use Rattle.pw_model.specs.Answers.{answer}
use Rattle.pw_model.specs.History.{Faultless, Legal, replay}
use Rattle.pw_model.specs.Operations.{ops_of}
use Rattle.pw_model.specs.Records.{Part, container, domain, group, record_count}
use Rattle.pw_model.proofs.Ways.{record_below}
use Rattle.pw_books.specs.Books.{Begins}
use Rattle.pw_machine.specs.declared.view.Met.{Met as pair_met}
use Rattle.pw_machine.specs.declared.view.View.{View}
use Rattle.pw_machine.specs.Machine.{Given}
use Rattle.pw_machine.specs.Steps.{freed, taken}
use Rattle.pw_regs.specs.declared.registers.Registers.{Ghosts as Registers}
use Rattle.pw_journal.specs.Journaled.{Journaled}
use Rattle.pw_walker.specs.declared.place.Place.{Place}
use Rattle.pw_walker.specs.declared.place.Place.TheVariants.{Over, Scaled, Grouped, Climbing}
use Rattle.pw_walker.specs.Places.{IsPlace}
use Rattle.pw_rule.specs.declared.content.Content.{Content}
use Rattle.pw_rule.specs.Plays.{Mine}
use Rattle.pw_rule.specs.Promises.{Promise}
use Rattle.pw_turns.specs.Begun.{IsReady, Reaches}
use Rattle.pw_turns.specs.Climb.{Climbs}
use Rattle.pw_turns.specs.HeldRecords.{AreHeld, IsHeld, in_hands, rank}
use Rattle.pw_turns.specs.inner.Taking.{Holds}
use Rattle.pw_turns.specs.Settling.{part_after}
use Rattle.pw_turns.specs.Steps.{MeetsBy, Since, content_part, met_on}
use Rattle.pw_turns.specs.Told.{KeepsMet}
use Rattle.pw_turns.specs.declared.held_record.HeldRecord.{HeldRecord}
use Rattle.pw_turns.specs.declared.requests.Try.{Try}
use Rattle.pw_turns.proofs.Again.{on_twice}
use Rattle.pw_turns.proofs.Climbing.{MayFree, is_led, ops_are, reply_is}
use Rattle.pw_turns.proofs.Frames.{may_free, tells_back}

-- a request takes no more records than there are
pub rank_low : (P : Plan) (q : Request) (place : Place) (ops : List Op) → IsPlace P q place ops → rank place ≤ record_count P
rank_low P q (Over reply) ops is = omega arith
rank_low P q (Scaled d) ops is = let low = record_below P (domain d) is.stands.1 in omega (arith, low)
rank_low P q (Grouped g) ops is = let low = record_below P (group g) is.stands.1 in omega (arith, low)
rank_low P q (Climbing n c) ops is = let low = record_below P (container n) is.stands.exists in omega (arith, low)

module _ {R : Type 0} (given : Given) (q : Request) where
  -- the last record that was taken
  pub record Last (v : View) (hs : List (HeldRecord R)) (h : HeldRecord R) (u : View) : Type 0 where
    pub mid : View
    pub held : AreHeld given q v hs mid
    pub part : Part
    pub is : IsHeld given q mid part h
    pub top : u ≡ taken h.turn q part mid

  pub held_last : (v u : View) (hs : List (HeldRecord R)) (h : HeldRecord R) → AreHeld given q v (hs ++ h ∷ []) u → Last v hs h u
  held_last v u [] h a = record { mid = v; held = refl; part = a.0; is = a.1; top = a.2 }
  held_last v u (g ∷ hs) h a = let l = held_last (taken g.turn q a.0 v) u hs h a.2 in record {
    mid = l.mid;
    held = (a.0, a.1, l.held);
    part = l.part;
    is = l.is;
    top = l.top;
  }

pub hands_last : {R : Type 0} (hs : List (HeldRecord R)) (h : HeldRecord R) (hands : List (ℕ × Option (Content R)))
    → in_hands (hs ++ h ∷ []) hands ≡ (h.turn, None) ∷ in_hands hs hands
hands_last [] h hands = refl
hands_last (g ∷ hs) h hands = hands_last hs h ((g.turn, None) ∷ hands)

module _ {R : Type 0} (given : Given) (q : Request) (has : Has given.plan q) (v : View) (all hs : List (HeldRecord R)) (h : HeldRecord R)
    (is : all ≡ hs ++ h ∷ []) (told : Try) (n : Mine R) (ready : IsReady given q v all told n) where
  pub last : Last given q v hs h ready.top
  last = held_last given q v ready.top hs h (subst (λ l. AreHeld given q v l ready.top) is ready.held)

  tells : Climbs given (taken h.turn q last.part last.mid) q told n.0
  tells = subst (λ u. Climbs given u q told n.0) last.top ready.tells

  -- it may be given back, settled
  pub last_free : (z : Part) → z ≡ part_after told h.old (content_part h.content) → MayFree h.turn z n.0
  last_free z e =
      may_free given last.mid q h.turn last.part last.is.fresh last.is.none_out told h.old n.0 (content_part h.content) z has tells last.is.moved last.is.back e

  pub hands_are : n.1 ≡ (h.turn, None) ∷ in_hands hs []
  hands_are = subst (λ l. n.1 ≡ in_hands l []) is ready.hands ∙ hands_last hs h []

  -- and then the others are ready
  pub others_ready : (w : Mine R) → w.0 ≡ freed h.turn n.0 → w.1 ≡ in_hands hs [] → IsReady given q v hs told w
  others_ready w back hands = record {
    top = last.mid;
    held = last.held;
    hands = hands;
    tells = tells_back given last.mid q h.turn last.part last.is.fresh last.is.none_out told n.0 w.0 tells back;
  }

-- one record more below those that were taken after it
pub holds_more : {R : Type 0} (given : Given) (q : Request) (m : Mine R) (before all : List (HeldRecord R)) (h : HeldRecord R) (x : Part)
    → IsHeld given q m.0 x h → (n : Mine R) → n ≡ (taken h.turn q x m.0, (h.turn, None) ∷ m.1) → all ≡ before ++ h ∷ []
    → (r : Result Reply Try) (ops : List Op) (after : List (HeldRecord R)) (w : Mine R) → Holds given q n all r ops after w
    → Holds given q m before r ops after w
holds_more given q m before all h x is n taken_is all_is r ops after w o = record {
  more = h ∷ o.more;
  top = o.top;
  records = o.records ∙ (ap (λ l. l ++ o.more) all_is ∙ append_assoc before (h ∷ []) o.more);
  held = (x, is, subst (λ (n : Mine _). AreHeld given q n.0 o.more o.top) taken_is o.held);
  hands = o.hands ∙ ap (λ (n : Mine _). in_hands o.more n.1) taken_is;
  tells = o.tells;
}

pub held_seen : {R : Type 0} (given : Given) (q : Request) (v u : View) (hs : List (HeldRecord R)) → AreHeld given q v hs u → u.seen ≡ v.seen
held_seen given q v u [] a = ap (λ (u : View). u.seen) a
held_seen given q v u (h ∷ hs) a = held_seen given q (taken h.turn q a.0 v) u hs a.2

pub held_number : {R : Type 0} (given : Given) (q : Request) (v u : View) (hs : List (HeldRecord R)) → AreHeld given q v hs u → u.number ≡ v.number
held_number given q v u [] a = ap (λ (u : View). u.number) a
held_number given q v u (h ∷ hs) a = held_number given q (taken h.turn q a.0 v) u hs a.2

-- whom the seat met on its way is nothing to its records
pub held_met : {R : Type 0} (given : Given) (q : Request) (pair : Option pair_met) (count : ℕ) (v u : View) (hs : List (HeldRecord R))
    → AreHeld given q v hs u → AreHeld given q (met_on pair count v) hs (met_on pair count u)
held_met given q pair count v u [] a = ap (met_on pair count) a
held_met given q pair count v u (h ∷ hs) a = (
  a.0,
  record { fresh = a.1.fresh; none_out = a.1.none_out; low = a.1.low; holds = a.1.holds; fits = a.1.fits; moved = a.1.moved; back = a.1.back },
  held_met given q pair count (taken h.turn q a.0 v) u hs a.2,
)

pub begin_tells : {R : Type 0} (by : Registers R) (promise : Promise) (given : Given) (q : Request) (number : ℕ) (v : View) (P : Plan) → given.plan ≡ P
    → (reply : Reply) (ops : List Op) (hs : List (HeldRecord R)) (j : Journaled R) (n : Mine R) → Reaches by promise given q number v reply ops hs j n
    → Legal P j.entries × Begins j.entries v.seen × Faultless j.entries × (reply ≡ answer P (replay P j.entries) q) × (ops ≡ ops_of P (replay P j.entries) q)
begin_tells by promise given q number v P plan reply ops hs j n r =
    let a = r.awaits in let l = a.leads.led in
    subst (λ P. Legal P j.entries × Begins j.entries v.seen × Faultless j.entries × (reply ≡ answer P (replay P j.entries) q) × (ops ≡ ops_of P (replay P j.entries) q)) plan (
      l.0.legal,
      subst (λ seen. Begins j.entries seen) (held_seen given q v r.top.0 hs r.held) l.0.seen,
      a.leads.faultless,
      reply_is by promise given _ q r.top j n l given.plan reply ops refl a.has a.over,
      ops_are by promise given _ q r.top j n l given.plan reply ops refl a.has a.over,
    )

-- # Whom it met

-- the pair that it met, and how often, stay while it takes records
held_meets : {R : Type 0} (given : Given) (q : Request) (v u : View) (hs : List (HeldRecord R)) → AreHeld given q v hs u → KeepsMet v u
held_meets given q v u [] a = (ap (λ (u : View). u.met) a, ap (λ (u : View). u.meets) a)
held_meets given q v u (h ∷ hs) a = held_meets given q (taken h.turn q a.0 v) u hs a.2

-- whom it met on the way to its records, and then to another turn
pub on_after : {R : Type 0} (given : Given) (q : Request) (waits : Bool) (v n : View) (hs : List (HeldRecord R)) (pair next : Option pair_met)
    (count more : ℕ) → MeetsBy waits v pair count → AreHeld given q (met_on pair count v) hs n → MeetsBy waits n next more → MeetsBy waits v next more
on_after given q waits v n hs pair next count more on held then =
    let k = held_meets given q (met_on pair count v) n hs held in on_twice waits v n pair next count more on k.0 k.1 then

-- to one record, and then to the others
pub since_taken : (waits : Bool) (v n : View) (t : ℕ) (q : Request) (x : Part) (pair : Option pair_met) (count : ℕ) → MeetsBy waits v pair count
    → n ≡ taken t q x (met_on pair count v) → (P : View → Type 0) → Since waits n P → Since waits v (λ u. P (taken t q x u))
since_taken waits v n t q x pair count on is P s = record {
  pair = s.pair;
  count = s.count;
  on = on_twice waits v n pair s.pair count s.count on (ap (λ (u : View). u.met) is) (ap (λ (u : View). u.meets) is) s.on;
  so = subst (λ (u : View). P (met_on s.pair s.count u)) is s.so;
}

-- what the seat notes of it stays the pair that its view has
pub reaches_keeps : {R : Type 0} (by : Registers R) (promise : Promise) (given : Given) (q : Request) (number : ℕ) (v : View) (reply : Reply) (ops : List Op)
    (hs : List (HeldRecord R)) (j : Journaled R) (n : Mine R) → Reaches by promise given q number v reply ops hs j n → KeepsMet n.0 v
reaches_keeps by promise given q number v reply ops hs j n r =
    let led = is_led by promise given _ q r.top j n r.awaits.leads.led in let k = held_meets given q v r.top.0 hs r.held in
    (sym (ap (λ (u : View). u.met) led ∙ k.0), sym (ap (λ (u : View). u.meets) led ∙ k.1))
