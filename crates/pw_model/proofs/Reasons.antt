-- Each refusal comes exactly where its reason stands and none of those that are tried before it.
use Rattle.std.proofs.Common.{◌≡◌, ◌≢◌, ◌<◌, ◌≤◌, ◌==◌, ◌||◌, not, ℕ, min, Bool, true, false, length, Option, Some, None, refl, ap, sym, ◌∙◌, ◌⊎◌, inl, inr, subst, arith, nat_le}
use Rattle.std.specs.Prelude.{nat_lt, is_some}
use Rattle.std.proofs.lemmas.Bool.Decides.{nat_tests}
use Rattle.acpi_values.specs.Idle.{rows_of}
use Rattle.acpi_values.specs.declared.idle.IdleKind.{IdleKind}
use Rattle.acpi_values.specs.declared.idle.IdleKind.TheVariants.{Lpi, Cst, Absent}
use Rattle.pw_plan.specs.declared.domain.DomainKind.{DomainKind}
use Rattle.pw_plan.specs.declared.plan.Plan.{Plan}
use Rattle.pw_plan.specs.declared.parts.Scale.{Scale}
use Rattle.pw_plan.specs.Firsts.{HasInKind, IsUnfitOf}
use Rattle.pw_plan.specs.Groups.{no_domain}
use Rattle.pw_plan.specs.Limits.{in_32_bits}
use Rattle.pw_plan.specs.Parts.{count_of, scale_of}
use Rattle.pw_plan.specs.Places.{cpu_at, domain_at, domain_of, row_at, unfit_of}
use Rattle.pw_plan.proofs.Firsts.{domain_place, one_first, unfit_place}
use Rattle.pw_plan.proofs.Lists.{or_left, or_right}
use Rattle.pw_model.specs.declared.reply.Reply.{Reply}
use Rattle.pw_model.specs.declared.reply.Reply.TheVariants.{AboveLimit, Disabled, Entered, NoState, NoTable, Running, Stands, TooSlow, Unfit}
use Rattle.pw_model.specs.declared.state.State.{State}
use Rattle.pw_model.specs.States.{limit_of}
use Rattle.pw_model.specs.Reasons.{AsksAboveLimit, HasDisabled, HasFitTable, HasNoState, HasNoSuchState, HasState, HasUnfitDomain, NamesUnfit, WakesTooSlowly}
use Rattle.pw_model.specs.Refusals.{◌or_else◌, above_limit, ask_refusal, domain_refusal, idle_refusal, is_absent, limit_refusal, refuse_if, unfit_refusal}
use Rattle.pw_model.proofs.Accepting.{has_table, limit_by, limit_from, none_both, not_false, not_refusing, table_there, unfit_by, unfit_from}
use Rattle.pw_model.proofs.Fitting.{none_first, none_second, not_refused}
use Rattle.pw_plan.proofs.Grouping.{negated}

-- # Who refuses

chosen : (a b : Option Reply) (r : Reply) → (a or_else b) ≡ Some r → (a ≡ Some r) ⊎ ((a ≡ None) × (b ≡ Some r))
chosen None b r e = inr (refl, e)
chosen (Some x) b r e = inl e

refuses : (b : Bool) (x r : Reply) → refuse_if b x ≡ Some r → (b ≡ true) × (x ≡ r)
refuses true x r e = (refl, cc)
refuses false x r e = cc

says : (b : Bool) (x : Reply) → b ≡ true → refuse_if b x ≡ Some x
says true x e = refl
says false x e = cc

at_once : (a b : Option Reply) (r : Reply) → a ≡ Some r → (a or_else b) ≡ Some r
at_once None b r e = cc
at_once (Some x) b r e = e

in_turn : (a b : Option Reply) (r : Reply) → a ≡ None → b ≡ Some r → (a or_else b) ≡ Some r
in_turn None b r e f = f
in_turn (Some x) b r e f = cc

-- what refuses in front of nothing
pub alone : (a : Option Reply) (r : Reply) → (a or_else None) ≡ Some r → a ≡ Some r
alone None r e = cc
alone (Some x) r e = e

pub in_front : (a : Option Reply) (r : Reply) → a ≡ Some r → (a or_else None) ≡ Some r
in_front a r e = at_once a None r e

-- # Idle requests

absent_from : (kind : IdleKind) → is_absent kind ≡ true → kind ≡ Absent
absent_from Lpi e = cc
absent_from Cst e = cc
absent_from Absent e = refl

none_from : (s n : ℕ) → ((s == 0) || nat_lt n s) ≡ true → (s ≡ 0) ⊎ (n < s)
none_from s n e = step (s == 0) refl e
  where
    step : (b : Bool) → (s == 0) ≡ b → (b || nat_lt n s) ≡ true → (s ≡ 0) ⊎ (n < s)
    step true h e = inl (grind (arith, nat_tests))
    step false h e = inr (grind (arith, nat_tests))

none_by : (s n : ℕ) → (s ≡ 0) ⊎ (n < s) → ((s == 0) || nat_lt n s) ≡ true
none_by s n (inl z) = or_left (s == 0) (nat_lt n s) (grind (arith, nat_tests))
none_by s n (inr lt) = or_right (s == 0) (nat_lt n s) (grind (arith, nat_tests))

some_from : (s n : ℕ) → ((s == 0) || nat_lt n s) ≡ false → (1 ≤ s) × (s ≤ n)
some_from s n e = (grind (arith, nat_tests), grind (arith, nat_tests))

some_by : (s n : ℕ) → 1 ≤ s → s ≤ n → ((s == 0) || nat_lt n s) ≡ false
some_by s n from within = grind (arith, nat_tests)

below_from : (a b : ℕ) → nat_lt a b ≡ true → a < b
below_from a b e = grind (arith, nat_tests)

below_by : (a b : ℕ) → a < b → nat_lt a b ≡ true
below_by a b lt = grind (arith, nat_tests)

module _ (P : Plan) (p s t : ℕ) where
  abbrev kind : IdleKind
  kind = (cpu_at P p).idle.kind

  abbrev count : ℕ
  count = length (rows_of (cpu_at P p).idle)

  abbrev enabled : Bool
  enabled = (row_at (cpu_at P p).idle s).enabled

  abbrev latency : ℕ
  latency = (row_at (cpu_at P p).idle s).latency

  abbrev no_table : Option Reply
  no_table = refuse_if (is_absent kind) NoTable

  abbrev no_state : Option Reply
  no_state = refuse_if ((s == 0) || nat_lt count s) (NoState count)

  abbrev disabled : Option Reply
  disabled = refuse_if (not enabled) Disabled

  abbrev slow : Option Reply
  slow = refuse_if (nat_lt t latency) (TooSlow latency)

  -- why the reply comes
  abbrev pub Reason : Reply → Type 0
  Reason NoTable = kind ≡ Absent
  Reason (Unfit number why) = NamesUnfit P p number why
  Reason (NoState n) = HasNoState P p s n
  Reason Disabled = HasDisabled P p s
  Reason (TooSlow l) = WakesTooSlowly P p s t l
  Reason (Entered c) = ⊥
  Reason Running = ⊥
  Reason (Stands i) = ⊥
  Reason (AboveLimit l) = ⊥

  named : (r : Reply) → kind ≢ Absent → unfit_refusal P p ≡ Some r → Reason r
  named r table e =
      let d = unfit_of P p in
      let x = refuses (nat_lt d (length P.domains)) (Unfit (in_32_bits d) (domain_at P d).unfit) r e in
      subst Reason x.1 (record { table = table; domain = d; exists = below_from d (length P.domains) x.0; first = unfit_place P p; number_is = refl; why_is = refl })

  pub idle_reason : (r : Reply) → idle_refusal P p s t ≡ Some r → Reason r
  idle_reason r e = first (chosen no_table (unfit_refusal P p or_else (no_state or_else (disabled or_else slow))) r e)
    where
      fifth : HasState P p s → enabled ≡ true → slow ≡ Some r → Reason r
      fifth state on e =
          let x = refuses (nat_lt t latency) (TooSlow latency) r e in
          subst Reason x.1 (record { state = state; enabled = on; latency_is = refl; above = below_from t latency x.0 })

      fourth : HasState P p s → (disabled ≡ Some r) ⊎ ((disabled ≡ None) × (slow ≡ Some r)) → Reason r
      fourth state (inl a) = let x = refuses (not enabled) Disabled r a in subst Reason x.1 (record { state = state; disabled = negated enabled x.0 })
      fourth state (inr a) = fifth state (not_false enabled (not_refused (not enabled) Disabled a.0)) a.1

      third : HasFitTable P p → (no_state ≡ Some r) ⊎ ((no_state ≡ None) × ((disabled or_else slow) ≡ Some r)) → Reason r
      third fit (inl a) =
          let x = refuses ((s == 0) || nat_lt count s) (NoState count) r a in
          subst Reason x.1 (record { fit = fit; none = none_from s count x.0; count_is = refl })
      third fit (inr a) =
          let range = some_from s count (not_refused ((s == 0) || nat_lt count s) (NoState count) a.0) in
          fourth (record { fit = fit; from = range.0; within = range.1 }) (chosen disabled slow r a.1)

      second : kind ≢ Absent → (unfit_refusal P p ≡ Some r) ⊎ ((unfit_refusal P p ≡ None) × ((no_state or_else (disabled or_else slow)) ≡ Some r)) → Reason r
      second table (inl a) = named r table a
      second table (inr a) = third (record { table = table; domains = unfit_from P p a.0 }) (chosen no_state (disabled or_else slow) r a.1)

      first : (no_table ≡ Some r) ⊎ ((no_table ≡ None) × ((unfit_refusal P p or_else (no_state or_else (disabled or_else slow))) ≡ Some r)) → Reason r
      first (inl a) = let x = refuses (is_absent kind) NoTable r a in subst Reason x.1 (absent_from kind x.0)
      first (inr a) = second (has_table P p kind (not_refused (is_absent kind) NoTable a.0)) (chosen (unfit_refusal P p) (no_state or_else (disabled or_else slow)) r a.1)

  -- and the other way round
  pub absent_said : kind ≡ Absent → idle_refusal P p s t ≡ Some NoTable
  absent_said e = at_once no_table (unfit_refusal P p or_else (no_state or_else (disabled or_else slow))) NoTable (says (is_absent kind) NoTable (ap is_absent e))

  past_table : (r : Reply) → kind ≢ Absent → (unfit_refusal P p or_else (no_state or_else (disabled or_else slow))) ≡ Some r → idle_refusal P p s t ≡ Some r
  past_table r table e = in_turn no_table (unfit_refusal P p or_else (no_state or_else (disabled or_else slow))) r (not_refusing (is_absent kind) NoTable (table_there P p kind table)) e

  past_domains : (r : Reply) → HasFitTable P p → (no_state or_else (disabled or_else slow)) ≡ Some r → idle_refusal P p s t ≡ Some r
  past_domains r fit e = past_table r fit.table (in_turn (unfit_refusal P p) (no_state or_else (disabled or_else slow)) r (unfit_by P p fit.domains) e)

  past_states : (r : Reply) → HasState P p s → (disabled or_else slow) ≡ Some r → idle_refusal P p s t ≡ Some r
  past_states r state e =
      past_domains r state.fit (in_turn no_state (disabled or_else slow) r (not_refusing ((s == 0) || nat_lt count s) (NoState count) (some_by s count state.from state.within)) e)

  unfit_at : (d number why : ℕ) → d < length P.domains → number ≡ min d 4294967295 → why ≡ (domain_at P d).unfit
      → refuse_if (nat_lt d (length P.domains)) (Unfit (in_32_bits d) (domain_at P d).unfit) ≡ Some (Unfit number why)
  unfit_at d number why lt a b = rw (below_by d (length P.domains) lt, a, b) refl

  pub unfit_said : (number why : ℕ) → NamesUnfit P p number why → idle_refusal P p s t ≡ Some (Unfit number why)
  unfit_said number why h =
      let same : h.domain ≡ unfit_of P p = one_first (IsUnfitOf p) no_domain P.domains h.domain (unfit_of P p) h.first (unfit_place P p) in
      let said : unfit_refusal P p ≡ Some (Unfit number why) = unfit_at (unfit_of P p) number why (subst (λ d. d < length P.domains) same h.exists)
      (h.number_is ∙ ap (λ d. min d 4294967295) same) (h.why_is ∙ ap (λ d. (domain_at P d).unfit) same) in
      past_table (Unfit number why) h.table (at_once (unfit_refusal P p) (no_state or_else (disabled or_else slow)) (Unfit number why) said)

  pub no_state_said : (n : ℕ) → HasNoState P p s n → idle_refusal P p s t ≡ Some (NoState n)
  no_state_said n h =
      let none : (s ≡ 0) ⊎ (count < s) = subst (λ k. (s ≡ 0) ⊎ (k < s)) h.count_is h.none in
      past_domains (NoState n) h.fit (at_once no_state (disabled or_else slow) (NoState n)
      (says ((s == 0) || nat_lt count s) (NoState count) (none_by s count none) ∙ ap (λ k. Some (NoState k)) (sym h.count_is)))

  pub disabled_said : HasDisabled P p s → idle_refusal P p s t ≡ Some Disabled
  disabled_said h = past_states Disabled h.state (at_once disabled slow Disabled (says (not enabled) Disabled (ap not h.disabled)))

  pub slow_said : (l : ℕ) → WakesTooSlowly P p s t l → idle_refusal P p s t ≡ Some (TooSlow l)
  slow_said l h =
      let above : t < latency = subst (λ k. t < k) h.latency_is h.above in
      past_states (TooSlow l) h.state (in_turn disabled slow (TooSlow l) (not_refusing (not enabled) Disabled (ap not h.enabled))
      (says (nat_lt t latency) (TooSlow latency) (below_by t latency above) ∙ ap (λ k. Some (TooSlow k)) (sym h.latency_is)))

-- # Requests on a domain of performance or throttling

differs : (n : ℕ) → not (n == 0) ≡ true → n ≢ 0
differs n e = grind (arith, nat_tests)

unlike : (n : ℕ) → n ≢ 0 → (n == 0) ≡ false
unlike n ne = grind (arith, nat_tests)

module _ (P : Plan) (kind : DomainKind) (p : ℕ) where
  module _ (G : Reply → Type 0) (absent : scale_of kind (cpu_at P p) ≡ None → G NoTable) (unfit : (d why : ℕ) → HasUnfitDomain P kind p d why → G (Unfit d why)) where
    domain_reason : (r : Reply) → limit_refusal P kind p ≡ Some r → G r
    domain_reason r e = by (scale_of kind (cpu_at P p)) refl e
      where
        by : (s : Option Scale) → scale_of kind (cpu_at P p) ≡ s → domain_refusal P kind p s ≡ Some r → G r
        by None is e = let same : NoTable ≡ r = cc in subst G same (absent is)
        by (Some s) is e =
            let d = domain_of P kind p in
            let x = refuses (not ((domain_at P d).unfit == 0)) (Unfit d (domain_at P d).unfit) r e in
            subst G x.1 (unfit d (domain_at P d).unfit (record { scale = ap is_some is; domain = domain_place P kind p; why_is = refl; unfit = differs (domain_at P d).unfit x.0 }))

  pub no_scale_said : scale_of kind (cpu_at P p) ≡ None → limit_refusal P kind p ≡ Some NoTable
  no_scale_said e = ap (domain_refusal P kind p) e

  pub unfit_domain_said : (d why : ℕ) → HasUnfitDomain P kind p d why → limit_refusal P kind p ≡ Some (Unfit d why)
  unfit_domain_said d why h =
      let same : d ≡ domain_of P kind p = one_first (HasInKind kind p) no_domain P.domains d (domain_of P kind p) h.domain (domain_place P kind p) in
      by (scale_of kind (cpu_at P p)) h.scale same (h.why_is ∙ ap (λ k. (domain_at P k).unfit) same)
    where
      said : (a u : ℕ) → d ≡ a → why ≡ u → why ≢ 0 → refuse_if (not (u == 0)) (Unfit a u) ≡ Some (Unfit d why)
      said a u there is some = rw (unlike u (λ z. some (is ∙ z)), there, is) refl

      by : (s : Option Scale) → is_some s ≡ true → d ≡ domain_of P kind p → why ≡ (domain_at P (domain_of P kind p)).unfit → domain_refusal P kind p s ≡ Some (Unfit d why)
      by None some there is = cc
      by (Some s) some there is = said (domain_of P kind p) (domain_at P (domain_of P kind p)).unfit there is h.unfit

  -- a limit
  abbrev pub LimitReason : Reply → Type 0
  LimitReason NoTable = scale_of kind (cpu_at P p) ≡ None
  LimitReason (Unfit d why) = HasUnfitDomain P kind p d why
  LimitReason (NoState n) = ⊥
  LimitReason Disabled = ⊥
  LimitReason (TooSlow l) = ⊥
  LimitReason (Entered c) = ⊥
  LimitReason Running = ⊥
  LimitReason (Stands i) = ⊥
  LimitReason (AboveLimit l) = ⊥

  pub limit_reason : (r : Reply) → limit_refusal P kind p ≡ Some r → LimitReason r
  limit_reason r e = domain_reason LimitReason (λ none. none) (λ d why h. h) r e

  module _ (S : State) (i : ℕ) where
    abbrev such : ℕ
    such = count_of (scale_of kind (cpu_at P p))

    abbrev no_such : Option Reply
    no_such = refuse_if (nat_le such i) (NoState such)

    abbrev pub AskReason : Reply → Type 0
    AskReason NoTable = scale_of kind (cpu_at P p) ≡ None
    AskReason (Unfit d why) = HasUnfitDomain P kind p d why
    AskReason (NoState n) = HasNoSuchState P kind p i n
    AskReason (AboveLimit l) = AsksAboveLimit P S kind p i l
    AskReason Disabled = ⊥
    AskReason (TooSlow l) = ⊥
    AskReason (Entered c) = ⊥
    AskReason Running = ⊥
    AskReason (Stands j) = ⊥

    most_from : (n : ℕ) → nat_le n i ≡ true → n ≤ i
    most_from n e = grind (arith, nat_tests)

    most_by : (n : ℕ) → n ≤ i → nat_le n i ≡ true
    most_by n le = grind (arith, nat_tests)

    few_from : (n : ℕ) → nat_le n i ≡ false → i < n
    few_from n e = grind (arith, nat_tests)

    few_by : (n : ℕ) → i < n → nat_le n i ≡ false
    few_by n lt = grind (arith, nat_tests)

    pub ask_reason : (r : Reply) → (ask_refusal P kind p i or_else above_limit S kind p i) ≡ Some r → AskReason r
    ask_reason r e = first (chosen (ask_refusal P kind p i) (above_limit S kind p i) r e)
      where
        third : limit_refusal P kind p ≡ None → no_such ≡ None → above_limit S kind p i ≡ Some r → AskReason r
        third fit such_none e =
            let x = refuses (nat_lt i (limit_of kind S p)) (AboveLimit (limit_of kind S p)) r e in
            subst AskReason x.1 (record {
              domain = limit_from P kind p fit;
              exists = few_from such (not_refused (nat_le such i) (NoState such) such_none);
              limit_is = refl;
              above = below_from i (limit_of kind S p) x.0;
            })

        second : (limit_refusal P kind p ≡ Some r) ⊎ ((limit_refusal P kind p ≡ None) × (no_such ≡ Some r)) → AskReason r
        second (inl a) = domain_reason AskReason (λ none. none) (λ d why h. h) r a
        second (inr a) =
            let x = refuses (nat_le such i) (NoState such) r a.1 in
            subst AskReason x.1 (record { domain = limit_from P kind p a.0; none = most_from such x.0; count_is = refl })

        first : (ask_refusal P kind p i ≡ Some r) ⊎ ((ask_refusal P kind p i ≡ None) × (above_limit S kind p i ≡ Some r)) → AskReason r
        first (inl a) = second (chosen (limit_refusal P kind p) no_such r a)
        first (inr a) = third (none_first (limit_refusal P kind p) no_such a.0) (none_second (limit_refusal P kind p) no_such a.0) a.1

    pub domain_said : (r : Reply) → limit_refusal P kind p ≡ Some r → (ask_refusal P kind p i or_else above_limit S kind p i) ≡ Some r
    domain_said r e = at_once (ask_refusal P kind p i) (above_limit S kind p i) r (at_once (limit_refusal P kind p) no_such r e)

    pub no_such_said : (n : ℕ) → HasNoSuchState P kind p i n → (ask_refusal P kind p i or_else above_limit S kind p i) ≡ Some (NoState n)
    no_such_said n h =
        let none : such ≤ i = subst (λ k. k ≤ i) h.count_is h.none in
        at_once (ask_refusal P kind p i) (above_limit S kind p i) (NoState n) (in_turn (limit_refusal P kind p) no_such (NoState n) (limit_by P kind p h.domain)
        (says (nat_le such i) (NoState such) (most_by such none) ∙ ap (λ k. Some (NoState k)) (sym h.count_is)))

    pub above_said : (l : ℕ) → AsksAboveLimit P S kind p i l → (ask_refusal P kind p i or_else above_limit S kind p i) ≡ Some (AboveLimit l)
    above_said l h =
        let above : i < limit_of kind S p = subst (λ k. i < k) h.limit_is h.above in
        in_turn (ask_refusal P kind p i) (above_limit S kind p i) (AboveLimit l)
        (none_both (limit_refusal P kind p) no_such (limit_by P kind p h.domain) (not_refusing (nat_le such i) (NoState such) (few_by such h.exists)))
        (says (nat_lt i (limit_of kind S p)) (AboveLimit (limit_of kind S p)) (below_by i (limit_of kind S p) above) ∙ ap (λ k. Some (AboveLimit k)) (sym h.limit_is))
