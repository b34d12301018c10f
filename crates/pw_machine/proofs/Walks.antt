-- What a walk over noted parts tells.
use Rattle.std.proofs.Common.{◌≡◌, ℕ, List, [], ◌∷◌, ◌++◌, refl, sym, ◌∙◌, ap, subst}
use Rattle.std.specs.List.{AllByRecursion}
use Rattle.acpi_values.specs.declared.operation.Op.{Op}
use Rattle.pw_plan.specs.declared.plan.Plan.{Plan}
use Rattle.pw_plan.specs.declared.request.Request.{Request}
use Rattle.pw_plan.specs.Requests.{Has}
use Rattle.pw_model.specs.declared.reply.Reply.{Reply}
use Rattle.pw_model.specs.declared.state.State.{State}
use Rattle.pw_model.specs.States.{IsState}
use Rattle.pw_model.specs.Answers.{after, answer}
use Rattle.pw_model.specs.Effects.{Taken, effect, takes_in}
use Rattle.pw_model.specs.Locality.{IsDone, Tells}
use Rattle.pw_model.specs.Records.{IsRecord, Part, Record, footprint, number_of, part_of, record_at, record_count}
use Rattle.pw_model.specs.Routes.{numbers, route}
use Rattle.pw_model.proofs.Plans.{wired}
use Rattle.pw_model.proofs.Routes.{has_route}
use Rattle.pw_model.proofs.Steps.{is_told}
use Rattle.pw_model.proofs.Ways.{numbers_tell, record_below, record_numbers}
use Rattle.pw_machine.specs.declared.view.Held.{Held}
use Rattle.pw_machine.specs.Turns.{StartsWith, part_at, way}
use Rattle.pw_machine.specs.Machine.{IsNoted, held_as, turns_of}
use Rattle.pw_machine.proofs.Plans.{next_journal, next_record}
use Rattle.pw_machine.specs.Walk.{Walk, left, next_turn, over, start, step, turn_of, walk, walk_from}
use Rattle.pw_machine.specs.WalkLaw.{TellsAnswer, TellsEnd, TellsLeft, TellsNext, TellsRecord, WalksOn}
use Rattle.pw_machine.proofs.Follows.{Follows, follows}

tells_itself : (P : Plan) (S : State) (rs : List Record) → Tells P S (part_of P S) rs
tells_itself P S [] = tt
tells_itself P S (r ∷ rs) = (refl, tells_itself P S rs)

-- what the request does in a state is its effect on the parts there
done : (P : Plan) (S : State) (q : Request) → IsState P S → Has P q → IsDone P S q (effect P (part_of P S) q)
done P S q s has = (is_told P q (wired P) has).done S (part_of P S) s (tells_itself P S (footprint P S q))

at_record : (P : Plan) (r : Record) (T : State) → IsRecord P r → part_at P (number_of P r) T ≡ part_of P T r
unfolding part_at
at_record P r T is =
    let n = record_numbers P (number_of P r) (record_below P r is) in
    ap (part_of P T) (numbers_tell P (record_at P (number_of P r)) r n.0 is n.1)

-- what was noted of a record is its part
noted_is : (P : Plan) (S : State) (r : Record) (h : Held) → IsRecord P r → number_of P r ≡ h.turn → h.noted ≡ part_at P h.turn S
    → h.noted ≡ part_of P S r
noted_is P S r h is e n = n ∙ ap (λ t. part_at P t S) (sym e) ∙ at_record P r S is

begins_with : (m n : ℕ) (l front : List ℕ) → m ≡ n → StartsWith l front → StartsWith (m ∷ l) (n ∷ front)
begins_with m n l front e b = (b.0, ap (λ xs. m ∷ xs) b.1 ∙ ap (λ k. k ∷ (front ++ b.0)) e)

module _ (P : Plan) (q : Request) (S : State) where
  abbrev Goes : Walk → List Taken → Reply → List Op → Type 0
  Goes w ts reply ops = Follows P (part_of P S) q w ts reply ops

  -- one step by what was noted
  onwards : (w : Walk) (t : Taken) (ts : List Taken) (h : Held) (reply : Reply) (ops : List Op)
      → IsRecord P t.place → number_of P t.place ≡ h.turn → h.noted ≡ part_at P h.turn S
      → Goes w (t ∷ ts) reply ops → Goes (step P q w h.noted) ts reply ops
  onwards w t ts h reply ops is e n f =
      subst (λ x. Goes (step P q w x) ts reply ops) (sym (noted_is P S t.place h is e n)) f.2

  next_from : (held : List Held) (w : Walk) (ts : List Taken) (reply : Reply) (ops : List Op) → Goes w ts reply ops
      → AllByRecursion (IsRecord P) (takes_in ts) → IsNoted P S held
      → StartsWith (numbers P (takes_in ts)) (turns_of held)
      → StartsWith (numbers P (takes_in ts) ++ record_count P ∷ []) (turns_of held ++ next_turn P (walk_from P q w held) ∷ [])
  next_from [] w [] reply ops f is noted b = ([], ap (λ u. next_turn P u ∷ []) (sym f))
  next_from [] w (t ∷ ts) reply ops f is noted b =
      let after = numbers P (takes_in ts) ++ record_count P ∷ [] in
      begins_with (number_of P t.place) (next_turn P w) after [] (sym (ap (turn_of P) f.0)) (after, refl)
  next_from (h ∷ hs) w [] reply ops f is noted b = let e = b.1 in absurd (cc)
  next_from (h ∷ hs) w (t ∷ ts) reply ops f is noted b =
      let e = b.1 in
      let first : number_of P t.place ≡ h.turn = cc in
      let later : numbers P (takes_in ts) ≡ turns_of hs ++ b.0 = cc in
      let after = numbers P (takes_in ts) ++ record_count P ∷ [] in
      let named = turns_of hs ++ next_turn P (walk_from P q (step P q w h.noted) hs) ∷ [] in
      begins_with (number_of P t.place) h.turn after named first
      (next_from hs (step P q w h.noted) ts reply ops (onwards w t ts h reply ops is.0 first noted.0 f) is.1 noted.1 (b.0, later))

  ends_from : (held : List Held) (w : Walk) (ts : List Taken) (reply : Reply) (ops : List Op) → Goes w ts reply ops
      → AllByRecursion (IsRecord P) (takes_in ts) → IsNoted P S held
      → turns_of held ≡ numbers P (takes_in ts) → walk_from P q w held ≡ over reply ops
  ends_from [] w [] reply ops f is noted e = f
  ends_from [] w (t ∷ ts) reply ops f is noted e = absurd (cc)
  ends_from (h ∷ hs) w [] reply ops f is noted e = absurd (cc)
  ends_from (h ∷ hs) w (t ∷ ts) reply ops f is noted e =
      let first : number_of P t.place ≡ h.turn = cc in
      let later : turns_of hs ≡ numbers P (takes_in ts) = cc in
      ends_from hs (step P q w h.noted) ts reply ops
      (onwards w t ts h reply ops is.0 first noted.0 f) is.1 noted.1 later

  left_from : (T : State) (held : List Held) (w : Walk) (ts : List Taken) (reply : Reply) (ops : List Op) (u : ℕ) (x : Part)
      → Goes w ts reply ops → AllByRecursion (IsRecord P) (takes_in ts)
      → AllByRecursion (λ (t : Taken). part_of P T t.place ≡ t.part) ts → IsNoted P S (held ++ held_as u x ∷ [])
      → StartsWith (numbers P (takes_in ts)) (turns_of (held ++ held_as u x ∷ []))
      → left P q (walk_from P q w held) x ≡ part_at P u T
  left_from T [] w [] reply ops u x f is parts noted b = let e = b.1 in absurd (cc)
  left_from T [] w (t ∷ ts) reply ops u x f is parts noted b =
      let e = b.1 in
      let first : number_of P t.place ≡ u = cc in
      ap (left P q w) (noted_is P S t.place (held_as u x) is.0 first noted.0) ∙ f.1 ∙ sym parts.0
      ∙ sym (at_record P t.place T is.0) ∙ ap (λ n. part_at P n T) first
  left_from T (h ∷ hs) w [] reply ops u x f is parts noted b = let e = b.1 in absurd (cc)
  left_from T (h ∷ hs) w (t ∷ ts) reply ops u x f is parts noted b =
      let e = b.1 in
      let first : number_of P t.place ≡ h.turn = cc in
      let later : numbers P (takes_in ts) ≡ turns_of (hs ++ held_as u x ∷ []) ++ b.0 = cc in
      left_from T hs (step P q w h.noted) ts reply ops u x
      (onwards w t ts h reply ops is.0 first noted.0 f) is.1 parts.1 noted.1 (b.0, later)

exist : (P : Plan) (S : State) (q : Request) → IsState P S → Has P q
    → AllByRecursion (IsRecord P) (takes_in (effect P (part_of P S) q).takes)
exist P S q s has =
    subst (λ rs. AllByRecursion (IsRecord P) rs) (done P S q s has).places ((has_route P q has).exist S)

way_taken : (P : Plan) (S : State) (q : Request) → IsState P S → Has P q
    → way P S q ≡ numbers P (takes_in (effect P (part_of P S) q).takes)
unfolding way
way_taken P S q s has = ap (numbers P) (done P S q s has).places

pub tells_next : (P : Plan) (q : Request) (held : List Held) → Has P q → TellsNext P q held
tells_next P q held has S s noted first =
    let E = effect P (part_of P S) q in
    subst (λ rs. StartsWith (numbers P rs ++ record_count P ∷ []) (turns_of held ++ next_turn P (walk P q held) ∷ []))
    (sym (done P S q s has).places)
    (next_from P q S held (start P q) E.takes E.reply E.ops (follows P (part_of P S) q has)
    (exist P S q s has) noted
    (subst (λ l. StartsWith l (turns_of held)) (way_taken P S q s has) first))

pub tells_record : (P : Plan) (q : Request) (held : List Held) → Has P q → TellsRecord P q held
tells_record P q held has S t s noted first e low =
    next_record P S q (turns_of held) t low
    (subst (λ u. StartsWith (route P S q) (turns_of held ++ u ∷ [])) e (tells_next P q held has S s noted first))

pub tells_end : (P : Plan) (q : Request) (held : List Held) → Has P q → TellsEnd P q held
tells_end P q held has S s noted first e =
    next_journal P S q (turns_of held) has
    (subst (λ u. StartsWith (route P S q) (turns_of held ++ u ∷ [])) e (tells_next P q held has S s noted first))

pub tells_answer : (P : Plan) (q : Request) (held : List Held) → Has P q → TellsAnswer P q held
tells_answer P q held has S s noted e =
    let E = effect P (part_of P S) q in
    let d = done P S q s has in
    ends_from P q S held (start P q) E.takes E.reply E.ops (follows P (part_of P S) q has)
    (exist P S q s has) noted (e ∙ way_taken P S q s has)
    ∙ ap (λ reply. over reply E.ops) (sym d.reply) ∙ ap (over (answer P S q)) (sym d.operations)

pub tells_left : (P : Plan) (q : Request) (held : List Held) → Has P q → TellsLeft P q held
tells_left P q held has S t x s noted first =
    let E = effect P (part_of P S) q in
    left_from P q S (after P S q) held (start P q) E.takes E.reply E.ops t x (follows P (part_of P S) q has)
    (exist P S q s has) (done P S q s has).parts noted
    (subst (λ l. StartsWith l (turns_of (held ++ held_as t x ∷ []))) (way_taken P S q s has) first)

pub walks_on : (P : Plan) (q : Request) (held : List Held) → WalksOn P q held
walks_on P q held h = from (start P q) held
  where
    from : (w : Walk) (hs : List Held) → walk_from P q w (hs ++ h ∷ []) ≡ step P q (walk_from P q w hs) h.noted
    from w [] = refl
    from w (k ∷ hs) = from (step P q w k.noted) hs
