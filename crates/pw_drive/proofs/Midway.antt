-- A request on its way over the records: where it begins, one record further, at its end, and undone.
use Rattle.std.proofs.Common.{◌≡◌, ◌≢◌, ◌<◌, ◌+◌, ◌==◌, ◌++◌, ◌∷◌, ◌∙◌, ℕ, Bool, true, false, cond, List, [], Some, refl, ap, sym, subst, arith, append_assoc, eq-eqb, inl, inr}
use Rattle.std.proofs.lemmas.Bool.Decides.{eqb_tells}
use Rattle.acpi_values.specs.declared.operation.Op.{Op}
use Rattle.pw_plan.specs.declared.plan.Plan.{Plan}
use Rattle.pw_plan.specs.declared.request.Request.{Request}
use Rattle.pw_plan.specs.Requests.{Has}
use Rattle.pw_model.specs.declared.reply.Reply.{Reply}
use Rattle.pw_model.specs.declared.entry.HistoryEntry.{HistoryEntry}
use Rattle.pw_model.specs.declared.state.State.{State}
use Rattle.pw_model.specs.Answers.{after, answer}
use Rattle.pw_model.specs.Locality.{AllTold}
use Rattle.pw_model.specs.Operations.{ops_of}
use Rattle.pw_model.specs.Records.{IsRecord, Part, Record, is_record, number_of, part_of}
use Rattle.pw_model.specs.States.{IsState}
use Rattle.pw_model.proofs.Steps.{its_record, same_record}
use Rattle.pw_model.proofs.Ways.{numbers_tell, record_below}
use Rattle.pw_machine.specs.declared.view.Held.{Held}
use Rattle.pw_machine.specs.Machine.{IsNoted, held_as, turns_of}
use Rattle.pw_machine.specs.Turns.{StartsWith, count_turn, part_at, way}
use Rattle.pw_machine.specs.Walk.{Walk, comes, left, next_turn, over, start, step, turn_of}
use Rattle.pw_machine.proofs.Plans.{count_turn-append, part_stays, way_apart}
use Rattle.pw_machine.proofs.Turns.{noted-snoc, turns-snoc}
use Rattle.pw_machine.proofs.Walks.{tells_answer, tells_end, tells_left, tells_record, walks_on}
use Rattle.pw_rule.proofs.Slots.{at_number}
use Rattle.pw_drive.specs.declared.records.Records.{Records}
use Rattle.pw_drive.specs.Keeping.{AreRecordsOf, part_in}
use Rattle.pw_drive.specs.inner.Midway.{IsMidway, Undone}

-- # One record

-- This record holds that part now, and the others what they held.
pub record Puts (P : Plan) (r : Record) (x : Part) (was now : Records) : Type 0 where
  pub of : AreRecordsOf P now
  pub here : part_in now r ≡ x
  pub rest : (s : Record) → s ≢ r → part_in now s ≡ part_in was s

-- The walk's next record was stepped.
pub record Stepped (P : Plan) (q : Request) (w v : Walk) (r : Record) (was now : Records) : Type 0 where
  pub next : comes w ≡ Some r
  pub exists : IsRecord P r
  pub puts : Puts P r (left P q w (part_in was r)) was now
  pub on : v ≡ step P q w (part_in was r)

-- what was stepped is set back, once those behind it are
pub undone_too : (P : Plan) (es fs : List HistoryEntry) (was now mid back : Records) (r : Record) (x : Part) (undo : Part → Part) → IsRecord P r
    → Puts P r x was now → Undone P es fs now mid → Puts P r (undo (part_in mid r)) mid back → undo x ≡ part_in was r → Undone P es fs was back
undone_too P es fs was now mid back r x undo exists put undone set is = record {
  of = set.of;
  parts = λ s there. parts s there (is_record s r) refl;
  state = undone.state;
  stopped = undone.stopped;
}
  where
    parts : (s : Record) → IsRecord P s → (b : Bool) → is_record s r ≡ b → part_in back s ≡ part_in was s
    parts s there true e =
        let same = same_record s r e in
        subst (λ k. part_in back k ≡ part_in was k) (sym same) (set.here ∙ ap undo (undone.parts r exists ∙ put.here) ∙ is)
    parts s there false e =
        let other : s ≢ r = λ same. let f : false ≡ true = sym e ∙ ap (λ k. is_record k r) same ∙ its_record r in cc in
        set.rest s other ∙ undone.parts s there ∙ put.rest s other

module _ (P : Plan) (S : State) (q : Request) (state : IsState P S) (has : Has P q) where
  -- # The beginning

  pub midway_first : (w : Walk) (F : Record → Part) → w ≡ start P q → AllTold P S F → IsMidway P S q w F
  midway_first w F is told = record {
    held = [];
    at = sym is;
    noted = tt;
    front = (way P S q, refl);
    behind = λ r there more. absurd (omega (arith, more));
    ahead = λ r there none. told r there;
  }

  -- # One record further

  at_record : (r : Record) (T : State) → IsRecord P r → part_at P (number_of P r) T ≡ part_of P T r
  unfolding part_at
  at_record r T there = ap (part_of P T) (at_number P r there)

  module _ (w v : Walk) (r : Record) (was now : Records) (m : IsMidway P S q w (part_in was)) (s : Stepped P q w v r was now) where
    abbrev t : ℕ
    t = number_of P r

    abbrev x : Part
    x = part_in was r

    abbrev more : List Held
    more = m.held ++ held_as t x ∷ []

    front : StartsWith (way P S q) (turns_of m.held ++ t ∷ [])
    front = tells_record P q m.held has S t state m.noted m.front (ap (next_turn P) m.at ∙ ap (turn_of P) s.next) (record_below P r s.exists)

    apart : count_turn t (turns_of m.held) ≡ 0
    apart =
        way_apart P S q (turns_of m.held) (t ∷ front.0) t has (front.1 ∙ append_assoc (turns_of m.held) (t ∷ []) front.0)
        (subst (λ b. 0 < cond b 1 0 + count_turn t front.0) (sym (eq-eqb t t refl)) (omega arith))

    turns : turns_of more ≡ turns_of m.held ++ t ∷ []
    turns = turns-snoc m.held t x

    front_more : StartsWith (way P S q) (turns_of more)
    front_more = subst (StartsWith (way P S q)) (sym turns) front

    noted_more : IsNoted P S more
    noted_more = noted-snoc P S m.held t x m.noted (sym (m.ahead r s.exists apart) ∙ sym (at_record r S s.exists))

    leaves : part_of P (after P S q) r ≡ part_in now r
    leaves =
        sym (at_record r (after P S q) s.exists) ∙ sym (tells_left P q m.held has S t x state noted_more front_more)
        ∙ ap (λ u. left P q u x) m.at ∙ sym s.puts.here

    counts_of : (k : Record) (b : Bool) → (t == number_of P k) ≡ b
        → count_turn (number_of P k) (turns_of more) ≡ count_turn (number_of P k) (turns_of m.held) + (cond b 1 0 + 0)
    counts_of k b e =
        let u = number_of P k in
        ap (count_turn u) turns ∙ count_turn-append u (turns_of m.held) (t ∷ []) ∙ ap (λ b. count_turn u (turns_of m.held) + (cond b 1 0 + 0)) e

    apart_from : (k : Record) → t ≢ number_of P k → k ≢ r
    apart_from k ne e = ne (ap (number_of P) (sym e))

    behind : (k : Record) → IsRecord P k → 0 < count_turn (number_of P k) (turns_of more) → part_of P (after P S q) k ≡ part_in now k
    behind k there some = elim (eqb_tells t (number_of P k)) [
      | inl same ↦ subst (λ k. part_of P (after P S q) k ≡ part_in now k) (numbers_tell P r k s.exists there same.1) leaves
      | inr other ↦
          let all = counts_of k false other.0 in
          m.behind k there (omega (arith, some, all)) ∙ sym (s.puts.rest k (apart_from k other.1))
    ]

    ahead : (k : Record) → IsRecord P k → count_turn (number_of P k) (turns_of more) ≡ 0 → part_of P S k ≡ part_in now k
    ahead k there none = elim (eqb_tells t (number_of P k)) [
      | inl same ↦
          let all = counts_of k true same.0 in
          absurd (omega (arith, none, all))
      | inr other ↦
          let all = counts_of k false other.0 in
          m.ahead k there (omega (arith, none, all)) ∙ sym (s.puts.rest k (apart_from k other.1))
    ]

    pub midway_on : IsMidway P S q v (part_in now)
    midway_on = record {
      held = more;
      at = walks_on P q m.held (held_as t x) ∙ ap (λ u. step P q u x) m.at ∙ sym s.on;
      noted = noted_more;
      front = front_more;
      behind = behind;
      ahead = ahead;
    }

  -- # The end

  over_ops : (r s : Reply) (xs ys : List Op) → over r xs ≡ over s ys → xs ≡ ys
  over_ops r s xs ys e = cc

  over_reply : (r s : Reply) (xs ys : List Op) → over r xs ≡ over s ys → r ≡ s
  over_reply r s xs ys e = cc

  module _ (reply : Reply) (ops : List Op) (F : Record → Part) (m : IsMidway P S q (over reply ops) F) where
    whole : turns_of m.held ≡ way P S q
    whole = tells_end P q m.held has S state m.noted m.front (ap (next_turn P) m.at)

    pub ops_are : ops ≡ ops_of P S q
    ops_are = over_ops _ _ _ _ (sym m.at ∙ tells_answer P q m.held has S state m.noted whole)

    pub reply_is : reply ≡ answer P S q
    reply_is = over_reply _ _ _ _ (sym m.at ∙ tells_answer P q m.held has S state m.noted whole)

    -- the records hold what the state after the request does
    pub told_after : AllTold P (after P S q) F
    told_after r there = elim (eqb_tells (count_turn (number_of P r) (turns_of m.held)) 0) [
      | inl none ↦
          sym (at_record r (after P S q) there)
          ∙ part_stays P S q (number_of P r) state has (record_below P r there) (subst (λ l. count_turn (number_of P r) l ≡ 0) whole none.1)
          ∙ at_record r S there ∙ m.ahead r there none.1
      | inr some ↦ let ne = some.1 in m.behind r there (omega (arith, ne))
    ]
