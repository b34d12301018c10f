-- What a request does depends on the parts of the records that it takes alone.
use Rattle.std.proofs.Common.{◌≡◌, ℕ, suc, zero, Bool, true, false, cond, List, [], ◌∷◌, map, length, take, get_or, ◌++◌, Option, Some, None, refl, ap, sym, ◌∙◌, nat_lt}
use Rattle.std.specs.List.{AllByRecursion}
use Rattle.acpi_values.specs.declared.idle.IdleKind.{IdleKind}
use Rattle.acpi_values.specs.declared.idle.IdleKind.TheVariants.{Lpi, Cst, Absent}
use Rattle.pw_plan.specs.declared.domain.Child.{Child}
use Rattle.pw_plan.specs.declared.domain.Child.TheVariants.{Cpu, Container}
use Rattle.pw_plan.specs.declared.domain.DomainKind.{DomainKind}
use Rattle.pw_plan.specs.declared.domain.DomainKind.TheVariants as kinds
use Rattle.pw_plan.specs.declared.plan.Plan.{Plan}
use Rattle.pw_plan.specs.declared.request.Request.{Request}
use Rattle.pw_plan.specs.declared.request.Request.TheVariants.{Idle, Wake, Perf, Throttle, PerfLimit, ThrottleLimit}
use Rattle.pw_plan.specs.Places.{cpu_at, domain_at, domain_of, group_at, group_of}
use Rattle.pw_model.specs.declared.reply.Reply.{Reply}
use Rattle.pw_model.specs.declared.state.Vote.{Vote}
use Rattle.pw_model.specs.States.{running, idling}
use Rattle.pw_model.specs.Containers.{ancestors, node_vote}
use Rattle.pw_model.specs.Refusals.{fixed_refusal}
use Rattle.pw_model.specs.Answers.{if_accepted}
use Rattle.pw_model.specs.Records.{Record, container, domain, group, Part, states}
use Rattle.acpi_values.specs.declared.operation.Op.TheVariants as op
use Rattle.pw_model.specs.declared.reply.Reply.TheVariants.{Entered}
use Rattle.pw_model.specs.Answers.{chain_of}
use Rattle.pw_model.specs.Composites.{composite_of}
use Rattle.pw_model.specs.Operations.{own_entry}
use Rattle.pw_model.specs.Effects.{c_state_by, drawn_ops, enter_c, states_in, states_up, states_with}
use Rattle.pw_model.specs.Effects.{Effect, Rung, Taken, ask_effect, both_run, climb, effect, effect_within, group_takes, refused_above, refused_effect, level_effect, limit_effect, member_place}
use Rattle.pw_model.specs.Effects.{rung_taken, rungs, takes_by, takes_in, votes_in, votes_with, limits_in, with_ask, states_after, ops_after, c_state_with, drawn_with}

-- the containers of these rungs
abbrev pub nodes_of : List Rung → List Record
nodes_of rs = takes_in (map rung_taken rs)

abbrev pub SameOn : (Record → Part) → (Record → Part) → List Record → Type 0
SameOn F G rs = AllByRecursion (λ r. F r ≡ G r) rs

effect_is : (a b : Effect) → a.takes ≡ b.takes → a.reply ≡ b.reply → a.ops ≡ b.ops → a ≡ b
effect_is a b t r o = let x : a ≡ record { takes = a.takes; reply = a.reply; ops = a.ops } = refl in
    x ∙ ap (λ ts. record { takes = ts; reply = a.reply; ops = a.ops }) t ∙ ap (λ y. record { takes = b.takes; reply = y; ops = a.ops }) r ∙ ap
    (λ os. record { takes = b.takes; reply = b.reply; ops = os }) o

module _ (P : Plan) (F G : Record → Part) where
  -- what follows the first container, whose part is x
  abbrev next : (Record → Part) → Child → Vote → ℕ → List ℕ → Part → List Rung
  next H c v n ns x =
      cond (both_run (node_vote P n (votes_in x)) (node_vote P n (votes_with P n c v (votes_in x)))) [] (climb P H (Container n) (node_vote P n (votes_with P n c v (votes_in x))) ns)

  climb_prefix : (c : Child) (v : Vote) (ns : List ℕ) (j : ℕ) → SameOn F G (take j (nodes_of (climb P F c v ns)))
      → take (suc j) (nodes_of (climb P F c v ns)) ≡ take (suc j) (nodes_of (climb P G c v ns))
  climb_prefix c v [] j same = refl
  climb_prefix c v (n ∷ ns) zero same = refl
  climb_prefix c v (n ∷ ns) (suc j) same =
      ap (λ rs. container n ∷ rs) (step (both_run (node_vote P n (votes_in (F (container n)))) (node_vote P n (votes_with P n c v (votes_in (F (container n)))))) same.1
      (climb_prefix (Container n) (node_vote P n (votes_with P n c v (votes_in (F (container n))))) ns j))
      ∙ ap (λ x. container n ∷ take (suc j) (nodes_of (next G c v n ns x))) same.0
    where
      step : (b : Bool) → SameOn F G (take j (nodes_of (cond b [] (climb P F (Container n) (node_vote P n (votes_with P n c v (votes_in (F (container n))))) ns))))
          → (SameOn F G (take j (nodes_of (climb P F (Container n) (node_vote P n (votes_with P n c v (votes_in (F (container n))))) ns)))
          → take (suc j) (nodes_of (climb P F (Container n) (node_vote P n (votes_with P n c v (votes_in (F (container n))))) ns))
          ≡ take (suc j) (nodes_of (climb P G (Container n) (node_vote P n (votes_with P n c v (votes_in (F (container n))))) ns)))
          → take (suc j) (nodes_of (cond b [] (climb P F (Container n) (node_vote P n (votes_with P n c v (votes_in (F (container n))))) ns)))
          ≡ take (suc j) (nodes_of (cond b [] (climb P G (Container n) (node_vote P n (votes_with P n c v (votes_in (F (container n))))) ns)))
      step true s later = refl
      step false s later = later s

  pub climb_same : (c : Child) (v : Vote) (ns : List ℕ) → SameOn F G (nodes_of (climb P F c v ns)) → climb P F c v ns ≡ climb P G c v ns
  climb_same c v [] same = refl
  climb_same c v (n ∷ ns) same =
      ap (λ rs. record { node = n; votes = votes_with P n c v (votes_in (F (container n))) } ∷ rs)
      (step (both_run (node_vote P n (votes_in (F (container n)))) (node_vote P n (votes_with P n c v (votes_in (F (container n)))))) same.1
      (climb_same (Container n) (node_vote P n (votes_with P n c v (votes_in (F (container n))))) ns))
      ∙ ap (λ x. record { node = n; votes = votes_with P n c v (votes_in x) } ∷ next G c v n ns x) same.0
    where
      step : (b : Bool) → SameOn F G (nodes_of (cond b [] (climb P F (Container n) (node_vote P n (votes_with P n c v (votes_in (F (container n))))) ns)))
          → (SameOn F G (nodes_of (climb P F (Container n) (node_vote P n (votes_with P n c v (votes_in (F (container n))))) ns))
          → climb P F (Container n) (node_vote P n (votes_with P n c v (votes_in (F (container n))))) ns ≡ climb P G (Container n) (node_vote P n (votes_with P n c v (votes_in (F (container n))))) ns)
          → cond b [] (climb P F (Container n) (node_vote P n (votes_with P n c v (votes_in (F (container n))))) ns)
          ≡ cond b [] (climb P G (Container n) (node_vote P n (votes_with P n c v (votes_in (F (container n))))) ns)
      step true s later = refl
      step false s later = later s

  -- # Votes

  vote_prefix : (k : IdleKind) (p : ℕ) (v : Vote) (j : ℕ) → SameOn F G (take j (takes_in (takes_by k (map rung_taken (rungs P F p v)) (group_takes P F p v.state))))
      → take (suc j) (takes_in (takes_by k (map rung_taken (rungs P F p v)) (group_takes P F p v.state)))
      ≡ take (suc j) (takes_in (takes_by k (map rung_taken (rungs P G p v)) (group_takes P G p v.state)))
  vote_prefix Lpi p v j same = climb_prefix (Cpu p) v (ancestors P p) j same
  vote_prefix Cst p v j same = step (nat_lt (group_of P p) (length P.groups)) _ _ refl
    where
      step : (b : Bool) (x y : Taken) → x.place ≡ y.place → take (suc j) (takes_in (cond b (x ∷ []) [])) ≡ take (suc j) (takes_in (cond b (y ∷ []) []))
      step true x y e = ap (λ r. take (suc j) (r ∷ [])) e
      step false x y e = refl
  vote_prefix Absent p v j same = refl

  -- what follows from the group's part, where there is a group
  by_group : {A : Type 0} (p : ℕ) (f : Part → A) (z : A) → SameOn F G (cond (nat_lt (group_of P p) (length P.groups)) (group (group_of P p) ∷ []) [])
      → cond (nat_lt (group_of P p) (length P.groups)) (f (F (group (group_of P p)))) z ≡ cond (nat_lt (group_of P p) (length P.groups)) (f (G (group (group_of P p)))) z
  by_group {A} p f z same = step (nat_lt (group_of P p) (length P.groups)) same
    where
      step : (b : Bool) → SameOn F G (cond b (group (group_of P p) ∷ []) []) → cond b (f (F (group (group_of P p)))) z ≡ cond b (f (G (group (group_of P p)))) z
      step true s = ap f s.0
      step false s = refl

  group_taken : (p s : ℕ) (b : Bool) (x : Taken) → x.place ≡ group (group_of P p) → takes_in (cond b (x ∷ []) []) ≡ cond b (group (group_of P p) ∷ []) []
  group_taken p s true x e = ap (λ r. r ∷ []) e
  group_taken p s false x e = refl

  pub group_places : (H : Record → Part) (p s : ℕ) → takes_in (group_takes P H p s) ≡ cond (nat_lt (group_of P p) (length P.groups)) (group (group_of P p) ∷ []) []
  group_places H p s = group_taken p s (nat_lt (group_of P p) (length P.groups)) _ refl

  -- a vote does the same
  record VoteSame (k : IdleKind) (p : ℕ) (v : Vote) : Type 0 where
    takes : takes_by k (map rung_taken (rungs P F p v)) (group_takes P F p v.state) ≡ takes_by k (map rung_taken (rungs P G p v)) (group_takes P G p v.state)
    chain : states_after k P F p v ≡ states_after k P G p v
    ops : ops_after k P F p v ≡ ops_after k P G p v

  vote_same : (k : IdleKind) (p : ℕ) (v : Vote) → SameOn F G (takes_in (takes_by k (map rung_taken (rungs P F p v)) (group_takes P F p v.state))) → VoteSame k p v
  vote_same Lpi p v same =
      let e = climb_same (Cpu p) v (ancestors P p) same in
      let chain : states_after Lpi P F p v ≡ states_after Lpi P G p v = ap (λ rs. v.state ∷ states_up P rs) e in
      record {
        takes = ap (map rung_taken) e;
        chain = chain;
        ops = ap (λ ss. op.Enter p (composite_of P p ss) ∷ []) chain;
      }
  vote_same Cst p v same =
      let on = rw (group_places F p v.state) at same in
      let ms = (group_at P (group_of P p)).members in
      let c : c_state_with P F p v.state ≡ c_state_with P G p v.state = by_group p (λ x. c_state_by P ms (states_with ms p v.state (states_in x)) p) v.state on in
      let d : drawn_with P F p v.state ≡ drawn_with P G p v.state = by_group p (λ x. drawn_ops P ms (states_in x) (states_with ms p v.state (states_in x)) p) [] on in
      record {
        takes = by_group p (λ x. record { place = group (group_of P p); part = states (states_with ms p v.state (states_in x)) } ∷ []) [] on;
        chain = ap (λ n. n ∷ []) c;
        ops = ap (λ n. own_entry Cst n (enter_c P p n) ++ drawn_with P F p v.state) c ∙ ap (λ os. own_entry Cst (c_state_with P G p v.state) (enter_c P p (c_state_with P G p v.state)) ++ os) d;
      }
  vote_same Absent p v same = record { takes = refl; chain = refl; ops = refl }

  -- # Requests on domains

  pub ask_places : (kind : DomainKind) (p i d : ℕ) (x : Part) → takes_in (ask_effect P kind p i d x).takes ≡ domain d ∷ []
  ask_places kind p i d x = step (nat_lt i (get_or (limits_in x) (member_place (domain_at P d).members p) 0))
    where
      step : (b : Bool) → takes_in (cond b (refused_above (domain d) x (get_or (limits_in x) (member_place (domain_at P d).members p) 0))
          (level_effect P kind p d x (with_ask (member_place (domain_at P d).members p) i x))).takes ≡ domain d ∷ []
      step true = refl
      step false = refl

  ask_same : (kind : DomainKind) (p i : ℕ)
      → takes_in (ask_effect P kind p i (domain_of P kind p) (F (domain (domain_of P kind p)))).takes ≡ takes_in (ask_effect P kind p i (domain_of P kind p) (G (domain (domain_of P kind p)))).takes
  ask_same kind p i = ask_places kind p i (domain_of P kind p) (F (domain (domain_of P kind p))) ∙ sym (ask_places kind p i (domain_of P kind p) (G (domain (domain_of P kind p))))

  -- # All requests

  within_prefix : (q : Request) (j : ℕ) → SameOn F G (take j (takes_in (effect_within P F q).takes))
      → take (suc j) (takes_in (effect_within P F q).takes) ≡ take (suc j) (takes_in (effect_within P G q).takes)
  within_prefix (Idle p s t) j same = vote_prefix (cpu_at P p).idle.kind p (idling s t) j same
  within_prefix (Wake p) j same = vote_prefix (cpu_at P p).idle.kind p running j same
  within_prefix (Perf p i) j same = ap (take (suc j)) (ask_same kinds.Perf p i)
  within_prefix (Throttle p i) j same = ap (take (suc j)) (ask_same kinds.Throttle p i)
  within_prefix (PerfLimit p n) j same = refl
  within_prefix (ThrottleLimit p n) j same = refl

  within_same : (q : Request) → SameOn F G (takes_in (effect_within P F q).takes) → effect_within P F q ≡ effect_within P G q
  within_same (Idle p s t) same =
      let e = vote_same (cpu_at P p).idle.kind p (idling s t) same in
      effect_is _ _ e.takes (ap (λ ss. Entered (chain_of ss)) e.chain) e.ops
  within_same (Wake p) same =
      let e = vote_same (cpu_at P p).idle.kind p running same in
      effect_is _ _ e.takes refl refl
  within_same (Perf p i) same = ap (ask_effect P kinds.Perf p i (domain_of P kinds.Perf p)) (rw (ask_places kinds.Perf p i (domain_of P kinds.Perf p) (F (domain (domain_of P kinds.Perf p)))) at
      same).0
  within_same (Throttle p i) same = ap (ask_effect P kinds.Throttle p i (domain_of P kinds.Throttle p))
      (rw (ask_places kinds.Throttle p i (domain_of P kinds.Throttle p) (F (domain (domain_of P kinds.Throttle p)))) at same).0
  within_same (PerfLimit p n) same = ap (limit_effect P kinds.Perf p n (domain_of P kinds.Perf p)) same.0
  within_same (ThrottleLimit p n) same = ap (limit_effect P kinds.Throttle p n (domain_of P kinds.Throttle p)) same.0

  -- The first records tell which is the next, and whether there is one.
  pub effect_prefix : (q : Request) (j : ℕ) → SameOn F G (take j (takes_in (effect P F q).takes)) → take (suc j) (takes_in (effect P F q).takes) ≡ take (suc j) (takes_in (effect P G q).takes)
  unfolding effect
  effect_prefix q j same = step (fixed_refusal P q) same
    where
      step : (r : Option Reply) → SameOn F G (take j (takes_in (if_accepted r refused_effect (effect_within P F q)).takes))
          → take (suc j) (takes_in (if_accepted r refused_effect (effect_within P F q)).takes) ≡ take (suc j) (takes_in (if_accepted r refused_effect (effect_within P G q)).takes)
      step None s = within_prefix q j s
      step (Some reply) s = refl

  -- The request does the same by parts that agree on its records.
  pub effect_same : (q : Request) → SameOn F G (takes_in (effect P F q).takes) → effect P F q ≡ effect P G q
  unfolding effect
  effect_same q same = step (fixed_refusal P q) same
    where
      step : (r : Option Reply) → SameOn F G (takes_in (if_accepted r refused_effect (effect_within P F q)).takes)
          → if_accepted r refused_effect (effect_within P F q) ≡ if_accepted r refused_effect (effect_within P G q)
      step None s = within_same q s
      step (Some reply) s = refl
