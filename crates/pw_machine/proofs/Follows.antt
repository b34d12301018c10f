-- A walk takes the records that the request's effect takes, and ends with its answer and operations.
use Rattle.std.proofs.Common.{◌≡◌, ◌<◌, ◌==◌, ◌&&◌, ◌++◌, not, ℕ, Bool, true, false, cond, List, [], ◌∷◌, map, length, get_or, Option, Some, None, refl, sym, ◌∙◌, ap, subst, append-nil, append_assoc, nat_lt}
use Rattle.acpi_values.specs.declared.idle.IdleKind.{IdleKind}
use Rattle.acpi_values.specs.declared.idle.IdleKind.TheVariants.{Lpi, Cst, Absent}
use Rattle.acpi_values.specs.declared.operation.Op.{Op}
use Rattle.pw_plan.specs.declared.domain.Child.{Child}
use Rattle.pw_plan.specs.declared.domain.Child.TheVariants.{Cpu, Container}
use Rattle.pw_plan.specs.declared.domain.DomainKind.{DomainKind}
use Rattle.pw_plan.specs.declared.domain.DomainKind.TheVariants as kinds
use Rattle.pw_plan.specs.declared.plan.Plan.{Plan}
use Rattle.pw_plan.specs.declared.request.Request.{Request}
use Rattle.pw_plan.specs.declared.request.Request.TheVariants.{Idle, Wake, Perf, Throttle, PerfLimit, ThrottleLimit}
use Rattle.pw_plan.specs.Places.{container_at, cpu_at, domain_at, domain_of, group_at, group_of}
use Rattle.pw_plan.specs.Requests.{Has}
use Rattle.pw_model.specs.declared.reply.Reply.{Reply}
use Rattle.pw_model.specs.declared.reply.Reply.TheVariants.{Entered, Running}
use Rattle.pw_model.specs.declared.state.Vote.{Vote}
use Rattle.pw_model.specs.States.{idling, running}
use Rattle.pw_model.specs.Containers.{ancestors, node_vote}
use Rattle.pw_model.specs.Refusals.{fixed_refusal}
use Rattle.pw_model.specs.Answers.{chain_of, if_accepted}
use Rattle.pw_model.specs.Operations.{own_entry}
use Rattle.pw_model.specs.Effects.{Effect, Rung, Taken, ask_effect, both_run, climb, drawn_ops, effect, effect_within, enter_c, level_effect, limits_in, member_place, refused_above, refused_effect, group_takes, ops_after, rung_taken, rungs, states_after, states_in, states_up, states_with, takes_by, votes_in, votes_with, with_ask}
use Rattle.pw_model.specs.Records.{Part, Record, container, domain, group}
use Rattle.pw_model.proofs.Lines.{IsLine, ancestors_line}
use Rattle.pw_machine.specs.Walk.{Walk, begins_at, climb_on, climb_ops, climbed, comes, first_left, group_with, grouped, left, over, own_c_state, chain_with, scaled, scaled_effect, start, step, vote_begins, vote_reply}

module _ (P : Plan) (F : Record → Part) where
  -- over records with these parts the walk takes those, leaves them so, and ends so
  abbrev pub Follows : Request → Walk → List Taken → Reply → List Op → Type 0
  Follows q w [] reply ops = w ≡ over reply ops
  Follows q w (t ∷ ts) reply ops =
      (comes w ≡ Some t.place) × (left P q w (F t.place) ≡ t.part) × Follows q (step P q w (F t.place)) ts reply ops

  abbrev pub Does : Request → Walk → Effect → Type 0
  Does q w E = Follows q w E.takes E.reply E.ops

  -- # Domains

  one_taken : (q : Request) (d : ℕ) (y : Part) (reply : Reply) (ops : List Op)
      → scaled_effect P q d (F (domain d)) ≡ record { takes = record { place = domain d; part = y } ∷ []; reply = reply; ops = ops }
      → Follows q (scaled d) (record { place = domain d; part = y } ∷ []) reply ops
  one_taken q d y reply ops e =
      (refl, ap (λ (E : Effect). first_left (F (domain d)) E.takes) e, ap (λ (E : Effect). over E.reply E.ops) e)

  module _ (q : Request) (kind : DomainKind) (p i d : ℕ) where
    abbrev limit : ℕ
    limit = get_or (limits_in (F (domain d))) (member_place (domain_at P d).members p) 0

    abbrev refused : Effect
    refused = refused_above (domain d) (F (domain d)) limit

    abbrev made : Effect
    made = level_effect P kind p d (F (domain d)) (with_ask (member_place (domain_at P d).members p) i (F (domain d)))

    ask_by : (b : Bool) → scaled_effect P q d (F (domain d)) ≡ cond b refused made → Does q (scaled d) (cond b refused made)
    ask_by true e = one_taken q d _ _ _ e
    ask_by false e = one_taken q d _ _ _ e

    ask_follows : scaled_effect P q d (F (domain d)) ≡ ask_effect P kind p i d (F (domain d))
        → Does q (scaled d) (ask_effect P kind p i d (F (domain d)))
    ask_follows e = ask_by (nat_lt i limit) e

  -- # Climbs

  -- the states that are left of those above, while they rise
  abbrev onwards : Bool → List ℕ → List ℕ → List ℕ
  onwards rising ss more = ss ++ cond rising more []

  one_more : (rising zero_there : Bool) (s : ℕ) (ss more : List ℕ)
      → onwards (rising && not zero_there) (chain_with (rising && not zero_there) ss s) more
      ≡ onwards rising ss (cond zero_there [] (s ∷ more))
  one_more false z s ss more = refl
  one_more true true s ss more = refl
  one_more true false s ss more = append_assoc ss (s ∷ []) more

  none_more : (b : Bool) (xs : List ℕ) → onwards b xs [] ≡ xs
  none_more true xs = append-nil xs
  none_more false xs = append-nil xs

  -- the walk ends so where it takes these containers and comes to these states
  abbrev Ends : Request → Walk → List Rung → List ℕ → Type 0
  Ends q u rs states = Follows q u (map rung_taken rs) (vote_reply q states) (climb_ops P q states)

  module _ (q : Request) (ss : List ℕ) (rising : Bool) (s : ℕ) where
    abbrev goes : Bool
    goes = rising && not (s == 0)

    past : (b : Bool) (on : Walk) (above : List Rung) → Ends q on above (onwards goes (chain_with goes ss s) (states_up P above))
        → Ends q (cond b (climbed P q (chain_with goes ss s)) on) (cond b [] above)
        (onwards rising ss (cond (s == 0) [] (s ∷ states_up P (cond b [] above))))
    past true on above h = ap (climbed P q) (sym (none_more goes (chain_with goes ss s)) ∙ one_more rising (s == 0) s ss [])
    past false on above h = subst (λ states. Ends q on above states) (one_more rising (s == 0) s ss (states_up P above)) h

  -- from a container upwards the walk ends so, where child c votes v
  abbrev Climbs : Request → Child → Vote → List ℕ → Bool → List ℕ → Option ℕ → Type 0
  Climbs q c v ss rising ns from =
      Ends q (climb_on P q c v ss rising from) (climb P F c v ns) (onwards rising ss (states_up P (climb P F c v ns)))

  climb_follows : (q : Request) (c : Child) (v : Vote) (ss : List ℕ) (rising : Bool) (from : Option ℕ) (ns : List ℕ)
      → IsLine P from ns → Climbs q c v ss rising ns from
  climb_follows q c v ss rising from [] line =
      ap (climb_on P q c v ss rising) line ∙ ap (climbed P q) (sym (none_more rising ss))
  climb_follows q c v ss rising from (n ∷ ns) line =
      let old = votes_in (F (container n)) in
      let w = node_vote P n (votes_with P n c v old) in
      let on = rising && not (w.state == 0) in
      let up = (container_at P n).parent in
      let above = climb_follows q (Container n) w (chain_with on ss w.state) on up ns line.1 in
      let goes = climb_on P q (Container n) w (chain_with on ss w.state) on up in
      subst (Climbs q c v ss rising (n ∷ ns)) (sym line.0)
      (refl, refl, past q ss rising w.state (both_run (node_vote P n old) w) goes (climb P F (Container n) w ns) above)

  -- # Votes

  module _ (q : Request) (p : ℕ) (v : Vote) where
    abbrev up : List Rung
    up = climb P F (Cpu p) v (ancestors P p)

    vote_climbs : p < length P.cpus
        → Ends q (climb_on P q (Cpu p) v (v.state ∷ []) true (cpu_at P p).parent) up (v.state ∷ states_up P up)
    vote_climbs lt = climb_follows q (Cpu p) v (v.state ∷ []) true (cpu_at P p).parent (ancestors P p) (ancestors_line P p lt)

  module _ (p s : ℕ) where
    abbrev g : ℕ
    g = group_of P p

    abbrev taken : Bool → List Taken
    taken b = cond b (record { place = group g; part = group_with P g p s (F (group g)) } ∷ []) []

    -- the C state, with the group or without
    abbrev entered : Bool → ℕ
    entered b = cond b (own_c_state P g p s (F (group g))) s

    abbrev drawn : List Op
    drawn =
        let ms = (group_at P g).members in
        let old = states_in (F (group g)) in
        drawn_ops P ms old (states_with ms p s old) p

    abbrev alone : List Op
    alone = own_entry Cst s (enter_c P p s)

    idle_grouped : (t : ℕ) (b : Bool)
        → Follows (Idle p s t) (cond b (grouped g) (over (Entered (chain_of (s ∷ []))) alone)) (taken b)
        (Entered (chain_of (entered b ∷ []))) (own_entry Cst (entered b) (enter_c P p (entered b)) ++ cond b drawn [])
    idle_grouped t true = (refl, refl, refl)
    idle_grouped t false = ap (over (Entered (chain_of (s ∷ [])))) (sym (append-nil alone))

    idle_follows : (t : ℕ) → p < length P.cpus → (k : IdleKind)
        → Follows (Idle p s t) (vote_begins P (Idle p s t) p (idling s t) alone k)
        (takes_by k (map rung_taken (rungs P F p (idling s t))) (group_takes P F p s))
        (Entered (chain_of (states_after k P F p (idling s t)))) (ops_after k P F p (idling s t))
    idle_follows t lt Lpi = vote_climbs (Idle p s t) p (idling s t) lt
    idle_follows t lt Cst = idle_grouped t (nat_lt g (length P.groups))
    idle_follows t lt Absent = refl

  wake_grouped : (p : ℕ) (b : Bool)
      → Follows (Wake p) (cond b (grouped (group_of P p)) (over Running [])) (taken p running.state b) Running []
  wake_grouped p true = (refl, refl, refl)
  wake_grouped p false = refl

  wake_follows : (p : ℕ) → p < length P.cpus → (k : IdleKind)
      → Follows (Wake p) (vote_begins P (Wake p) p running [] k)
      (takes_by k (map rung_taken (rungs P F p running)) (group_takes P F p running.state)) Running []
  wake_follows p lt Lpi = vote_climbs (Wake p) p running lt
  wake_follows p lt Cst = wake_grouped p (nat_lt (group_of P p) (length P.groups))
  wake_follows p lt Absent = refl

  -- # All requests

  within_follows : (q : Request) → Has P q → Does q (begins_at P q) (effect_within P F q)
  within_follows (Idle p s t) has = idle_follows p s t has (cpu_at P p).idle.kind
  within_follows (Wake p) has = wake_follows p has (cpu_at P p).idle.kind
  within_follows (Perf p i) has = ask_follows (Perf p i) kinds.Perf p i (domain_of P kinds.Perf p) refl
  within_follows (Throttle p i) has = ask_follows (Throttle p i) kinds.Throttle p i (domain_of P kinds.Throttle p) refl
  within_follows (PerfLimit p n) has = one_taken (PerfLimit p n) (domain_of P kinds.Perf p) _ _ _ refl
  within_follows (ThrottleLimit p n) has = one_taken (ThrottleLimit p n) (domain_of P kinds.Throttle p) _ _ _ refl

  pub follows : (q : Request) → Has P q → Does q (start P q) (effect P F q)
  unfolding effect
  follows q has = by (fixed_refusal P q)
    where
      by : (r : Option Reply)
          → Does q (if_accepted r (λ reply. over reply []) (begins_at P q)) (if_accepted r refused_effect (effect_within P F q))
      by None = within_follows q has
      by (Some reply) = refl
