-- Each request does what its effect says, so it depends on its records alone and changes no other.
use Rattle.std.proofs.Common.{zero, ◌≤◌}
use Rattle.std.proofs.Common.{◌≡◌, ◌<◌, ℕ, suc, Bool, true, false, cond, List, [], ◌∷◌, length, take, get_or, Option, Some, None, refl, sym, ◌∙◌, ap, subst, arith, inl, inr, nat_lt}
use Rattle.std.specs.Prelude.{Contains, is_some}
use Rattle.std.specs.List.{AllByRecursion}
use Rattle.acpi_values.specs.declared.idle.IdleKind.{IdleKind}
use Rattle.acpi_values.specs.declared.idle.IdleKind.TheVariants.{Lpi, Cst, Absent}
use Rattle.pw_plan.specs.declared.domain.DomainKind.{DomainKind}
use Rattle.pw_plan.specs.declared.domain.DomainKind.TheVariants as kinds
use Rattle.pw_plan.specs.declared.parts.Scale.{Scale}
use Rattle.pw_plan.specs.declared.plan.Plan.{Plan}
use Rattle.pw_plan.specs.declared.request.Request.{Request}
use Rattle.pw_plan.specs.declared.request.Request.TheVariants.{Idle, Wake, Perf, Throttle, PerfLimit, ThrottleLimit}
use Rattle.pw_plan.specs.Groups.{is_idle}
use Rattle.pw_plan.specs.Parts.{scale_of}
use Rattle.pw_plan.specs.Places.{cpu_at, domain_at, domain_of}
use Rattle.pw_plan.specs.Requests.{Has}
use Rattle.pw_model.specs.declared.reply.Reply.{Reply}
use Rattle.pw_model.specs.declared.reply.Reply.TheVariants.{Entered, Stands, AboveLimit, NoTable}
use Rattle.pw_model.specs.declared.state.Change.TheVariants as changes
use Rattle.pw_model.specs.declared.state.ScaleKind.{ScaleKind}
use Rattle.pw_model.specs.declared.state.ScaleKind.TheVariants as scales
use Rattle.pw_model.specs.declared.state.State.{State}
use Rattle.pw_model.specs.States.{IsState, asks_of, capped, idling, limit_of, limits_of, running, with_change}
use Rattle.pw_model.specs.Containers.{ancestors}
use Rattle.pw_model.specs.Domains.{standing}
use Rattle.pw_model.specs.Refusals.{domain_refusal, fixed_refusal, is_absent, refuse_if, state_refusal, ◌or_else◌}
use Rattle.pw_model.specs.Answers.{accepted, after, answer, chain_of, changed, if_accepted}
use Rattle.pw_model.specs.Operations.{accepted_ops, domain_ops, ops_of}
use Rattle.pw_model.proofs.Standings.{domain_kind}
use Rattle.pw_model.specs.inner.Wired.{IsWired}
use Rattle.pw_model.specs.Records.{Record, domain, footprint, part_of, records_among, runs_in_both, through}
use Rattle.pw_model.specs.Effects.{Effect, Taken, ask_effect, effect, effect_within, level_effect, limits_in, member_place, refused_above, refused_effect, takes_in, with_ask, with_limit}
use Rattle.pw_model.specs.Numbers.{IsIn}
use Rattle.pw_model.specs.Locality.{DoesTheSame, IsLocal, SameParts}
use Rattle.pw_model.proofs.Agree.{SameOn, effect_prefix, effect_same}
use Rattle.pw_model.proofs.Doing.{Does, level_does, refused_does}
use Rattle.pw_model.proofs.Levels.{HasDomain, asked, elsewhere, has_domain, level_part, limited, read_place}
use Rattle.pw_model.proofs.Voting.{ops_is, states_is, vote_moves}

-- # What isn't refused in every state

some_table : (k : IdleKind) (rest : Option Reply) → (refuse_if (is_absent k) NoTable or_else rest) ≡ None → k ≡ Absent → ⊥
some_table Lpi rest e h = cc
some_table Cst rest e h = cc
some_table Absent rest e h = cc

module _ (P : Plan) where
  pub some_scale : (kind : DomainKind) (p : ℕ) (scale : Option Scale) (rest : Option Reply) → (domain_refusal P kind p scale or_else rest) ≡ None → is_some scale ≡ true
  some_scale kind p None rest e = cc
  some_scale kind p (Some scale) rest e = refl

  pub some_scale_alone : (kind : DomainKind) (p : ℕ) (scale : Option Scale) → domain_refusal P kind p scale ≡ None → is_some scale ≡ true
  some_scale_alone kind p None e = cc
  some_scale_alone kind p (Some scale) e = refl

  module _ (wired : IsWired P) (S : State) (is : IsState P S) where
    -- # Votes

    idle_does : (p s t : ℕ) → p < length P.cpus → ((cpu_at P p).idle.kind ≡ Absent → ⊥)
        → Does P S (changed P S (Idle p s t)) (records_among P (λ q. through (runs_in_both P S (changed P S (Idle p s t))) (ancestors P q)) (Idle p s t))
        (accepted P (changed P S (Idle p s t)) (Idle p s t)) (accepted_ops P S (changed P S (Idle p s t)) (Idle p s t)) (effect_within P (part_of P S) (Idle p s t))
    unfolding accepted accepted_ops
    idle_does p s t exists some =
        let votes = is.votes in
        let long : p < length S.votes = omega (arith, votes, exists) in
        let m = vote_moves P wired p exists S long (idling s t) in
        record {
          takes = m.takes;
          answers = ap (λ ss. Entered (chain_of ss)) (states_is P wired p exists S long (idling s t) some);
          operates = ops_is P wired p exists S long (idling s t) some;
          parts = m.parts;
          rest = m.rest;
        }

    wake_does : (p : ℕ) → p < length P.cpus
        → Does P S (changed P S (Wake p)) (records_among P (λ q. through (runs_in_both P S (changed P S (Wake p))) (ancestors P q)) (Wake p))
        (accepted P (changed P S (Wake p)) (Wake p)) (accepted_ops P S (changed P S (Wake p)) (Wake p)) (effect_within P (part_of P S) (Wake p))
    unfolding accepted accepted_ops
    wake_does p exists =
        let votes = is.votes in
        let long : p < length S.votes = omega (arith, votes, exists) in
        let m = vote_moves P wired p exists S long running in
        record { takes = m.takes; answers = refl; operates = refl; parts = m.parts; rest = m.rest }

    -- # Requests on domains

    never_idle : (kind : ScaleKind) → is_idle (domain_kind kind) ≡ false
    never_idle scales.Perf = refl
    never_idle scales.Throttle = refl

    asks_long : (kind : ScaleKind) (p : ℕ) → p < length P.cpus → p < length (asks_of (domain_kind kind) S)
    asks_long scales.Perf p lt = let e = is.perf_asks in omega (arith, e, lt)
    asks_long scales.Throttle p lt = let e = is.throttle_asks in omega (arith, e, lt)

    limits_long : (kind : ScaleKind) (p : ℕ) → p < length P.cpus → p < length (limits_of (domain_kind kind) S)
    limits_long scales.Perf p lt = let e = is.perf_limits in omega (arith, e, lt)
    limits_long scales.Throttle p lt = let e = is.throttle_limits in omega (arith, e, lt)

    ask_votes : (kind : ScaleKind) (p i : ℕ) → (with_change S (changes.Ask kind p i)).votes ≡ S.votes
    ask_votes scales.Perf p i = refl
    ask_votes scales.Throttle p i = refl

    limit_votes : (kind : ScaleKind) (p i : ℕ) → (with_change S (changes.Limit kind p i)).votes ≡ S.votes
    limit_votes scales.Perf p i = refl
    limit_votes scales.Throttle p i = refl

    module _ (scale : ScaleKind) (p : ℕ) (exists : p < length P.cpus) (has : HasDomain P (domain_kind scale) p) where
      abbrev kind : DomainKind
      kind = domain_kind scale

      abbrev d : ℕ
      d = domain_of P kind p

      abbrev ms : List ℕ
      ms = (domain_at P d).members

      limit_does : (n : ℕ) → Does P S (with_change S (changes.Limit scale p n)) (domain d ∷ []) (Stands (standing P (with_change S (changes.Limit scale p n)) d p))
          (domain_ops P S (with_change S (changes.Limit scale p n)) kind p)
          (level_effect P kind p d (part_of P S (domain d)) (with_limit (member_place ms p) n (part_of P S (domain d))))
      limit_does n =
          level_does P S kind p (never_idle scale) has (changes.Limit scale p n) (with_limit (member_place ms p) n (part_of P S (domain d)))
          (subst (λ (k : DomainKind). level_part k ms (with_change S (changes.Limit scale p n)) ≡ with_limit (member_place ms p) n (level_part k ms S)) (sym has.kind_is)
          (limited scale ms S p n (limits_long scale p exists) (wired.members d p)))
          (limit_votes scale p n) (λ e q out on. elsewhere P kind p (never_idle scale) e q out on)

      own_limit : limit_of kind S p ≡ get_or (limits_in (part_of P S (domain d))) (member_place ms p) 0
      own_limit = ap (λ k. limit_of k S p) (sym has.kind_is) ∙ sym (read_place (limit_of (domain_at P d).kind S) ms p has.member)

      ask_does : (i : ℕ)
          → Does P S (if_accepted (refuse_if (nat_lt i (limit_of kind S p)) (AboveLimit (limit_of kind S p))) (λ reply. S) (with_change S (changes.Ask scale p i))) (domain d ∷ [])
          (if_accepted (refuse_if (nat_lt i (limit_of kind S p)) (AboveLimit (limit_of kind S p))) (λ reply. reply) (Stands (standing P (with_change S (changes.Ask scale p i)) d p)))
          (if_accepted (refuse_if (nat_lt i (limit_of kind S p)) (AboveLimit (limit_of kind S p))) (λ reply. []) (domain_ops P S (with_change S (changes.Ask scale p i)) kind p))
          (ask_effect P kind p i d (part_of P S (domain d)))
      ask_does i =
          subst (λ (l : ℕ). Does P S (if_accepted (refuse_if (nat_lt i (limit_of kind S p)) (AboveLimit (limit_of kind S p))) (λ reply. S) (with_change S (changes.Ask scale p i))) (domain d ∷ [])
          (if_accepted (refuse_if (nat_lt i (limit_of kind S p)) (AboveLimit (limit_of kind S p))) (λ reply. reply) (Stands (standing P (with_change S (changes.Ask scale p i)) d p)))
          (if_accepted (refuse_if (nat_lt i (limit_of kind S p)) (AboveLimit (limit_of kind S p))) (λ reply. []) (domain_ops P S (with_change S (changes.Ask scale p i)) kind p))
          (cond (nat_lt i l) (refused_above (domain d) (part_of P S (domain d)) l) (level_effect P kind p d (part_of P S (domain d)) (with_ask (member_place ms p) i (part_of P S (domain d))))))
          own_limit (step (nat_lt i (limit_of kind S p)))
        where
          step : (b : Bool)
              → Does P S (if_accepted (refuse_if b (AboveLimit (limit_of kind S p))) (λ reply. S) (with_change S (changes.Ask scale p i))) (domain d ∷ [])
              (if_accepted (refuse_if b (AboveLimit (limit_of kind S p))) (λ reply. reply) (Stands (standing P (with_change S (changes.Ask scale p i)) d p)))
              (if_accepted (refuse_if b (AboveLimit (limit_of kind S p))) (λ reply. []) (domain_ops P S (with_change S (changes.Ask scale p i)) kind p))
              (cond b (refused_above (domain d) (part_of P S (domain d)) (limit_of kind S p)) (level_effect P kind p d (part_of P S (domain d))
              (with_ask (member_place ms p) i (part_of P S (domain d)))))
          step true = refused_does P S kind p (never_idle scale) has d (limit_of kind S p)
          step false =
              level_does P S kind p (never_idle scale) has (changes.Ask scale p i) (with_ask (member_place ms p) i (part_of P S (domain d)))
              (subst (λ (k : DomainKind). level_part k ms (with_change S (changes.Ask scale p i)) ≡ with_ask (member_place ms p) i (level_part k ms S)) (sym has.kind_is)
              (asked scale ms S p i (asks_long scale p exists) (wired.members d p)))
              (ask_votes scale p i) (λ e q out on. elsewhere P kind p (never_idle scale) e q out on)

    -- # All requests

    abbrev Within : Request → Option Reply → Type 0
    Within q r = Does P S (if_accepted (r or_else state_refusal S q) (λ reply. S) (changed P S q))
        (if_accepted r (λ reply. []) (records_among P (λ p. through (runs_in_both P S (if_accepted (r or_else state_refusal S q) (λ reply. S) (changed P S q))) (ancestors P p)) q))
        (if_accepted (r or_else state_refusal S q) (λ reply. reply) (accepted P (changed P S q) q)) (if_accepted (r or_else state_refusal S q) (λ reply. []) (accepted_ops P S (changed P S q) q))
        (if_accepted r refused_effect (effect_within P (part_of P S) q))

    accepts : (q : Request) → Has P q → fixed_refusal P q ≡ None → Within q None
    unfolding accepted accepted_ops
    accepts (Idle p s t) has e = idle_does p s t has (some_table (cpu_at P p).idle.kind _ e)
    accepts (Wake p) has e = wake_does p has
    accepts (Perf p i) has e = ask_does scales.Perf p has (has_domain P kinds.Perf p has (some_scale kinds.Perf p (scale_of kinds.Perf (cpu_at P p)) _ e)) i
    accepts (Throttle p i) has e = ask_does scales.Throttle p has (has_domain P kinds.Throttle p has (some_scale kinds.Throttle p (scale_of kinds.Throttle (cpu_at P p)) _ e)) i
    accepts (PerfLimit p n) has e = limit_does scales.Perf p has (has_domain P kinds.Perf p has (some_scale_alone kinds.Perf p (scale_of kinds.Perf (cpu_at P p)) e))
        (capped (scale_of kinds.Perf (cpu_at P p)) n)
    accepts (ThrottleLimit p n) has e = limit_does scales.Throttle p has (has_domain P kinds.Throttle p has (some_scale_alone kinds.Throttle p (scale_of kinds.Throttle (cpu_at P p)) e))
        (capped (scale_of kinds.Throttle (cpu_at P p)) n)

    by_refusal : (q : Request) → Has P q → (r : Option Reply) → fixed_refusal P q ≡ r → Within q r
    by_refusal q has None e = accepts q has e
    by_refusal q has (Some reply) e = record { takes = refl; answers = refl; operates = refl; parts = tt; rest = λ r out. refl }

    -- Each request does what its effect says.
    pub does : (q : Request) → Has P q → Does P S (after P S q) (footprint P S q) (answer P S q) (ops_of P S q) (effect P (part_of P S) q)
    unfolding after footprint answer ops_of effect
    does q has = by_refusal q has (fixed_refusal P q) refl

-- # The law

in_contains : (r : Record) (rs : List Record) → IsIn r rs → Contains rs r
in_contains r [] h = absurd h
in_contains r (x ∷ rs) (inl e) = (0, omega arith, sym e)
in_contains r (x ∷ rs) (inr h) = let c = in_contains r rs h in (suc c.0, omega (arith, c.1), c.2)

both_parts : (P : Plan) (S T : State) (ts : List Taken) → AllByRecursion (λ (t : Taken). part_of P S t.place ≡ t.part) ts → AllByRecursion (λ (t : Taken). part_of P T t.place ≡ t.part) ts
    → SameParts P S T (takes_in ts)
both_parts P S T [] a b = tt
both_parts P S T (t ∷ ts) a b = (a.0 ∙ sym b.0, both_parts P S T ts a.1 b.1)

take_fewer : {X : Type 0} (j : ℕ) (xs ys : List X) → take (suc j) xs ≡ take (suc j) ys → take j xs ≡ take j ys
take_fewer zero xs ys e = refl
take_fewer (suc j) [] [] e = refl
take_fewer (suc j) [] (y ∷ ys) e = cc
take_fewer (suc j) (x ∷ xs) [] e = cc
take_fewer (suc j) (x ∷ xs) (y ∷ ys) e =
    let first : x ≡ y = cc in
    let rest : take j xs ≡ take j ys = take_fewer j xs ys (cc) in
    cc

ends_too : {X : Type 0} (j : ℕ) (xs ys : List X) → take (suc j) xs ≡ take (suc j) ys → length xs ≤ j → length ys ≤ j
ends_too j [] [] e le = le
ends_too j [] (y ∷ ys) e le = cc
ends_too j (x ∷ xs) [] e le = omega arith
ends_too zero (x ∷ xs) (y ∷ ys) e le = absurd (omega arith)
ends_too (suc j) (x ∷ xs) (y ∷ ys) e le = let r = ends_too j xs ys (cc) (omega arith) in omega (arith, r)

pub is_local : (P : Plan) (q : Request) → IsWired P → Has P q → IsLocal P q
is_local P q wired has = record {
  same = λ S T s t h. same S T s t h;
  prefix = λ S T j s t h. prefix S T j s t h;
  first = λ S T j s t h. take_fewer j (footprint P S q) (footprint P T q) (prefix S T j s t h);
  ends = λ S T j s t h. let e = prefix S T j s t h in (ends_too j (footprint P S q) (footprint P T q) e, ends_too j (footprint P T q) (footprint P S q) (sym e));
  rest = λ S r s out.
      let a = does P wired S s q has in
      a.rest r (λ i. out (in_contains r (footprint P S q) (subst (λ rs. IsIn r rs) (sym a.takes) i)));
}
  where
    same : (S T : State) → IsState P S → IsState P T → SameParts P S T (footprint P S q) → DoesTheSame P S T q
    same S T s t h =
        let a = does P wired S s q has in
        let b = does P wired T t q has in
        let e : effect P (part_of P S) q ≡ effect P (part_of P T) q = effect_same P (part_of P S) (part_of P T) q (subst (λ rs. SameOn (part_of P S) (part_of P T) rs) a.takes h) in
        record {
          places = a.takes ∙ ap (λ (x : Effect). takes_in x.takes) e ∙ sym b.takes;
          reply = a.answers ∙ ap (λ (x : Effect). x.reply) e ∙ sym b.answers;
          operations = a.operates ∙ ap (λ (x : Effect). x.ops) e ∙ sym b.operates;
          parts = subst (λ rs. SameParts P (after P S q) (after P T q) rs) (sym a.takes)
              (both_parts P (after P S q) (after P T q) (effect P (part_of P S) q).takes a.parts
              (subst (λ (x : Effect). AllByRecursion (λ (u : Taken). part_of P (after P T q) u.place ≡ u.part) x.takes) (sym e) b.parts));
        }

    prefix : (S T : State) (j : ℕ) → IsState P S → IsState P T → SameParts P S T (take j (footprint P S q)) → take (suc j) (footprint P S q) ≡ take (suc j) (footprint P T q)
    prefix S T j s t h =
        let a = does P wired S s q has in
        let b = does P wired T t q has in
        ap (take (suc j)) a.takes ∙ effect_prefix P (part_of P S) (part_of P T) q j (subst (λ rs. SameOn (part_of P S) (part_of P T) (take j rs)) a.takes h) ∙ sym (ap (take (suc j)) b.takes)
