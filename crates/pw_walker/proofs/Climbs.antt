-- A climb goes on from a container.
use Rattle.std.proofs.Common.{◌≡◌, ◌<◌, ◌≤◌, ◌+◌, ◌==◌, ◌&&◌, not, ℕ, Bool, true, false, cond, List, [], ◌∷◌, ◌++◌, length, Some, None, refl, ap, sym, subst, ◌∙◌, arith, append_assoc, length-append}
use Rattle.std.specs.Prelude.{nat_lt}
use Rattle.std.proofs.lemmas.List.{append-nil}
use Rattle.std.proofs.lemmas.Bool.Decides.{nat_tests}
use Rattle.acpi_values.specs.Idle.{rows_of}
use Rattle.acpi_values.specs.declared.operation.Chain.{Chain}
use Rattle.pw_plan.specs.declared.domain.Child.TheVariants.{Container}
use Rattle.pw_plan.specs.declared.plan.Plan.{Plan}
use Rattle.pw_plan.specs.declared.request.Request.{Request}
use Rattle.pw_plan.specs.declared.request.Request.TheVariants.{Idle, Wake, Perf, Throttle, PerfLimit, ThrottleLimit}
use Rattle.pw_plan.specs.Places.{container_at, parent_of}
use Rattle.pw_plan.specs.Tree.{line_from}
use Rattle.pw_plan.proofs.Lists.{and_first, and_second}
use Rattle.pw_model.specs.declared.state.Vote.{Vote}
use Rattle.pw_model.specs.States.{IsProper}
use Rattle.pw_model.specs.Answers.{chain_of}
use Rattle.pw_model.specs.Refusals.{fixed_refusal}
use Rattle.pw_core.specs.Chains.{AreStates, AreStatesOf, IsChain, states_in}
use Rattle.pw_core.proofs.Climbing.{is_chain, line-Some, states_in-chain_of}
use Rattle.pw_idle.proofs.Nodes.{vote_fits, vote_proper}
use Rattle.pw_machine.specs.Standing.{MayVote}
use Rattle.pw_machine.specs.Walk.{Walk, climb_on, climbed, chain_with}
use Rattle.pw_walker.specs.declared.place.Climb.{Climb}
use Rattle.pw_walker.specs.Places.{AreStatesUpTo, IsClimb, ahead}
use Rattle.pw_walker.specs.inner.Going.{HandsOn, past}

above_zero : (s : ℕ) → nat_lt 0 s ≡ not (s == 0)
above_zero s = step (s == 0) refl
  where
    step : (b : Bool) → (s == 0) ≡ b → nat_lt 0 s ≡ not b
    step true e = grind (arith, nat_tests)
    step false e = grind (arith, nat_tests)

positive : (s : ℕ) → nat_lt 0 s ≡ true → 1 ≤ s
positive s e = grind (arith, nat_tests)

-- # States of a processor and its containers, with those ahead

nothing_ahead : (P : Plan) (p : ℕ) (ss ns : List ℕ) → ((more : List ℕ) → AreStates P ns more → AreStatesOf P p (ss ++ more))
    → (more : List ℕ) → AreStates P [] more → AreStatesOf P p (ss ++ more)
nothing_ahead P p ss ns h [] are = h [] tt
nothing_ahead P p ss ns h (m ∷ more) are = absurd are

pub up_to_none : (P : Plan) (q : Request) (ss ns : List ℕ) → AreStatesUpTo P q ss ns → AreStatesUpTo P q ss []
up_to_none P (Idle p s t) ss ns h = nothing_ahead P p ss ns h
up_to_none P (Wake p) ss ns h = tt
up_to_none P (Perf p i) ss ns h = tt
up_to_none P (Throttle p i) ss ns h = tt
up_to_none P (PerfLimit p n) ss ns h = tt
up_to_none P (ThrottleLimit p n) ss ns h = tt

up_to_one : (P : Plan) (q : Request) (n s : ℕ) (ss ns : List ℕ) → 1 ≤ s → s ≤ length (rows_of (container_at P n).idle)
    → AreStatesUpTo P q ss (n ∷ ns) → AreStatesUpTo P q (ss ++ s ∷ []) ns
up_to_one P (Idle p i t) n s ss ns some le h =
    λ more are. subst (λ xs. AreStatesOf P p xs) (sym (append_assoc ss (s ∷ []) more)) (h (s ∷ more) (some, le, are))
up_to_one P (Wake p) n s ss ns some le h = tt
up_to_one P (Perf p i) n s ss ns some le h = tt
up_to_one P (Throttle p i) n s ss ns some le h = tt
up_to_one P (PerfLimit p i) n s ss ns some le h = tt
up_to_one P (ThrottleLimit p i) n s ss ns some le h = tt

-- of an idle request, that is what a composite is made of
pub all_states : (P : Plan) (q : Request) (p s t : ℕ) (ss : List ℕ) → q ≡ Idle p s t → AreStatesUpTo P q ss [] → AreStatesOf P p ss
all_states P q p s t ss e h =
    let idle = subst (λ r. AreStatesUpTo P r ss []) e h in
    subst (λ xs. AreStatesOf P p xs) (append-nil ss) (idle [] tt)

-- # The chain with one more state, while it rises

states_risen : (c : Chain) (b : Bool) (s : ℕ) (d : Chain) → d ≡ cond b (chain_of (states_in c ++ s ∷ [])) c → states_in d ≡ chain_with b (states_in c) s
states_risen c true s d e = ap states_in e ∙ states_in-chain_of (states_in c ++ s ∷ [])
states_risen c false s d e = ap states_in e

chain_risen : (c : Chain) (b : Bool) (s : ℕ) (d : Chain) → IsChain c → length (states_in c) < 9 → d ≡ cond b (chain_of (states_in c ++ s ∷ [])) c → IsChain d
chain_risen c true s d is room e =
    let more = length-append (states_in c) (s ∷ []) in
    rw e (is_chain (states_in c ++ s ∷ []) (omega (arith, more, room)))
chain_risen c false s d is room e = rw e is

one_longer : (b : Bool) (ss : List ℕ) (s : ℕ) → length (chain_with b ss s) ≤ length ss + 1
one_longer true ss s = let e = length-append ss (s ∷ []) in omega (arith, e)
one_longer false ss s = omega arith

module _ (P : Plan) (q : Request) (n : ℕ) (c : Climb) (lt : n < length P.containers) (room : length (states_in c.chain) + length (line_from P.containers (Some n)) ≤ 9) where
  abbrev up : List ℕ
  up = line_from P.containers (container_at P n).parent

  room_here : length (states_in c.chain) + length (n ∷ up) ≤ 9
  room_here = subst (λ ns. length (states_in c.chain) + length ns ≤ 9) (line-Some P n lt) room

  pub some_room : length (states_in c.chain) < 9
  some_room = let r = room_here in omega (arith, r)

  module _ (v : Vote) (b : Bool) (d : Chain) (be : b ≡ (c.rising && nat_lt 0 v.state)) (de : d ≡ cond b (chain_of (states_in c.chain ++ v.state ∷ [])) c.chain) where
    states_are : states_in d ≡ chain_with b (states_in c.chain) v.state
    states_are = states_risen c.chain b v.state d de

    goes : b ≡ (c.rising && not (v.state == 0))
    goes = be ∙ ap (λ z. c.rising && z) (above_zero v.state)

    -- where the walk then stands
    pub past_stops : (w : Walk) (runs : Bool) → runs ≡ true → w ≡ climbed P q (states_in d) → w ≡ past P q n c v runs
    past_stops w runs e is =
        let f : w ≡ climbed P q (chain_with (c.rising && not (v.state == 0)) (states_in c.chain) v.state) =
        is ∙ ap (climbed P q) states_are ∙ ap (λ r. climbed P q (chain_with r (states_in c.chain) v.state)) goes in
        f ∙ ap (past P q n c v) (sym e)

    pub past_goes : (w : Walk) (runs : Bool) → runs ≡ false → w ≡ climb_on P q (Container n) v (states_in d) b (container_at P n).parent → w ≡ past P q n c v runs
    past_goes w runs e is =
        is ∙ ap (λ ss. climb_on P q (Container n) v ss b (container_at P n).parent) states_are
        ∙ ap (λ r. climb_on P q (Container n) v (chain_with r (states_in c.chain) v.state) r (container_at P n).parent) goes
        ∙ ap (past P q n c v) (sym e)

    pub chain_there : IsClimb P q c → IsChain d
    chain_there h = chain_risen c.chain b v.state d h.chain some_room de

    module _ (h : IsClimb P q c) (parent : parent_of P c.child ≡ Some n) (fits : v.state ≤ length (rows_of (container_at P n).idle)) where
      states_by : (r : Bool) → b ≡ r → AreStatesUpTo P q (chain_with r (states_in c.chain) v.state) (cond r up [])
      states_by false e = up_to_none P q (states_in c.chain) (ahead P c) h.states
      states_by true e =
          let both = sym be ∙ e in
          let rises : c.rising ≡ true = and_first c.rising (nat_lt 0 v.state) both in
          let some : 1 ≤ v.state = positive v.state (and_second c.rising (nat_lt 0 v.state) both) in
          let on : ahead P c ≡ n ∷ up = ap (λ r. cond r (line_from P.containers (parent_of P c.child)) []) rises ∙ ap (λ from. line_from P.containers from) parent ∙ line-Some P n lt in
          up_to_one P q n v.state (states_in c.chain) up some fits (subst (λ ns. AreStatesUpTo P q (states_in c.chain) ns) on h.states)

      pub states_there : AreStatesUpTo P q (states_in d) (cond b up [])
      states_there = subst (λ ss. AreStatesUpTo P q ss (cond b up [])) (sym states_are) (states_by b refl)

      pub states_all : AreStatesUpTo P q (states_in d) []
      states_all = up_to_none P q (states_in d) (cond b up []) states_there

    pub hands_on : IsClimb P q c → parent_of P c.child ≡ Some n → fixed_refusal P q ≡ None → MayVote P q (Container n) v
        → HandsOn P q (record { child = Container n; vote = v; chain = d; rising = b })
    hands_on h parent acc may =
        let fits : v.state ≤ length (rows_of (container_at P n).idle) = subst (λ (w : Vote). w.state ≤ length (rows_of (container_at P n).idle)) (sym may.1) (vote_fits P n may.0) in
        let longer = one_longer b (states_in c.chain) v.state in
        let was = room_here in
        record {
          accepted = acc;
          inside = lt;
          voted = may;
          room = subst (λ ss. length ss + length up ≤ 9) (sym states_are) (omega (arith, longer, was));
          climb = record {
            state = fits;
            proper = subst IsProper (sym may.1) (vote_proper P n may.0);
            chain = chain_there h;
            states = states_there h parent fits;
          };
        }

pub vote_may : (P : Plan) (q : Request) (n : ℕ) (v : Vote) → MayVote P q (Container n) v → v.state ≤ length (rows_of (container_at P n).idle)
vote_may P q n v may = subst (λ (w : Vote). w.state ≤ length (rows_of (container_at P n).idle)) (sym may.1) (vote_fits P n may.0)
