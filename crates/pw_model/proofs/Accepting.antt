-- A request is accepted exactly where it may be made.
use Rattle.std.proofs.Common.{◌≡◌, ◌≢◌, ◌<◌, ◌≤◌, ◌==◌, ◌&&◌, ◌||◌, not, ℕ, Bool, true, false, List, [], ◌∷◌, length, Option, Some, None, refl, ap, sym, ◌∙◌, arith, nat_le}
use Rattle.std.specs.Prelude.{nat_lt, is_some}
use Rattle.std.specs.List.{position_or_len, AllByRecursion}
use Rattle.std.proofs.lemmas.Bool.Decides.{nat_tests}
use Rattle.acpi_values.specs.Idle.{rows_of}
use Rattle.acpi_values.specs.declared.idle.IdleKind.{IdleKind}
use Rattle.acpi_values.specs.declared.idle.IdleKind.TheVariants.{Lpi, Cst, Absent}
use Rattle.pw_plan.specs.declared.domain.Domain.{Domain}
use Rattle.pw_plan.specs.declared.domain.DomainKind.{DomainKind}
use Rattle.pw_plan.specs.declared.domain.DomainKind.TheVariants as kinds
use Rattle.pw_plan.specs.declared.parts.Scale.{Scale}
use Rattle.pw_plan.specs.declared.plan.Plan.{Plan}
use Rattle.pw_plan.specs.Groups.{has_member, is_idle}
use Rattle.pw_plan.specs.Limits.{in_32_bits}
use Rattle.pw_plan.specs.Parts.{count_of, scale_of}
use Rattle.pw_plan.specs.Places.{cpu_at, domain_at, domain_of, row_at}
use Rattle.pw_plan.specs.Covering.{covers, same_kind}
use Rattle.pw_plan.proofs.Found.{position-here, position-later}
use Rattle.pw_plan.proofs.Lists.{and_both, and_first, and_second, or_first, or_second}
use Rattle.pw_model.specs.declared.reply.Reply.{Reply}
use Rattle.pw_model.specs.declared.reply.Reply.TheVariants.{AboveLimit, Disabled, NoState, NoTable, TooSlow, Unfit}
use Rattle.pw_model.specs.declared.state.State.{State}
use Rattle.pw_model.specs.States.{limit_of}
use Rattle.pw_model.specs.Refusals.{◌or_else◌, above_limit, ask_refusal, domain_refusal, idle_refusal, is_absent, is_unfit, limit_refusal, refuse_if, unfit_refusal}
use Rattle.pw_model.specs.Acceptance.{AreIdleDomainsFit, HasFitDomain, MayAskFor, MayIdleIn}
use Rattle.pw_model.proofs.Fitting.{none_first, none_second, not_refused}
use Rattle.pw_model.proofs.Gathering.{idle_kind}
use Rattle.pw_base.proofs.Facts.{weaker}

pub none_both : (a b : Option Reply) → a ≡ None → b ≡ None → (a or_else b) ≡ None
none_both None b e f = f
none_both (Some reply) b e f = cc

pub not_refusing : (b : Bool) (reply : Reply) → b ≡ false → refuse_if b reply ≡ None
not_refusing true reply e = cc
not_refusing false reply e = refl

pub or_nothing : (a : Option Reply) → a ≡ None → (a or_else None) ≡ None
or_nothing a e = none_both a None e refl

pub not_false : (b : Bool) → not b ≡ false → b ≡ true
not_false true e = refl
not_false false e = cc

-- # No element passes

none_passes : {X : Type 0} (t : X → Bool) (xs : List X) → length xs ≤ position_or_len t xs → AllByRecursion (λ x. t x ≡ false) xs
none_passes t [] le = tt
none_passes t (x ∷ xs) le = step (t x) refl (none_passes t xs)
  where
    step : (b : Bool) → t x ≡ b → (length xs ≤ position_or_len t xs → AllByRecursion (λ y. t y ≡ false) xs) → (t x ≡ false) × AllByRecursion (λ y. t y ≡ false) xs
    step true e later = let at = position-here t x xs e in absurd (omega (arith, at, le))
    step false e later = (e, let at = position-later t x xs e in later (omega (arith, at, le)))

past_all : {X : Type 0} (t : X → Bool) (xs : List X) → AllByRecursion (λ x. t x ≡ false) xs → length xs ≤ position_or_len t xs
past_all t [] a = omega arith
past_all t (x ∷ xs) a =
    let at = position-later t x xs a.0 in
    let later = past_all t xs a.1 in
    omega (arith, at, later)

-- # Idle requests

module _ (P : Plan) (p : ℕ) where
  fit_from : (d : Domain) → is_unfit p d ≡ false → is_idle d.kind ≡ true → has_member d.members p ≡ true → d.unfit ≡ 0
  fit_from d e idle member = step (d.unfit == 0) refl
    where
      step : (b : Bool) → (d.unfit == 0) ≡ b → d.unfit ≡ 0
      step true h = grind (arith, nat_tests)
      step false h =
          let covered : covers kinds.Idle p d ≡ true = and_both (same_kind d.kind kinds.Idle) (has_member d.members p) (sym (idle_kind d.kind) ∙ idle) member in
          let unfit : is_unfit p d ≡ true = and_both (covers kinds.Idle p d) (not (d.unfit == 0)) covered (ap not h) in
          let clash : true ≡ false = sym unfit ∙ e in
          cc

  fit_by : (d : Domain) → (is_idle d.kind ≡ true → has_member d.members p ≡ true → d.unfit ≡ 0) → is_unfit p d ≡ false
  fit_by d h = step (covers kinds.Idle p d) refl
    where
      step : (b : Bool) → covers kinds.Idle p d ≡ b → (b && not (d.unfit == 0)) ≡ false
      step false e = refl
      step true e =
          let fit = h (idle_kind d.kind ∙ and_first (same_kind d.kind kinds.Idle) (has_member d.members p) e) (and_second (same_kind d.kind kinds.Idle) (has_member d.members p) e) in
          let none : (d.unfit == 0) ≡ true = grind (arith, nat_tests) in
          ap not none

  pub unfit_from : unfit_refusal P p ≡ None → AreIdleDomainsFit P p
  unfit_from e =
      let d = position_or_len (is_unfit p) P.domains in
      weaker (λ x. is_unfit p x ≡ false) (λ (x : Domain). is_idle x.kind ≡ true → has_member x.members p ≡ true → x.unfit ≡ 0) fit_from P.domains
      (none_passes (is_unfit p) P.domains (past d (length P.domains) (not_refused (nat_lt d (length P.domains)) (Unfit (in_32_bits d) (domain_at P d).unfit) e)))
    where
      past : (d n : ℕ) → nat_lt d n ≡ false → n ≤ d
      past d n e = grind (arith, nat_tests)

  pub unfit_by : AreIdleDomainsFit P p → unfit_refusal P p ≡ None
  unfit_by fit =
      let d = position_or_len (is_unfit p) P.domains in
      not_refusing (nat_lt d (length P.domains)) (Unfit (in_32_bits d) (domain_at P d).unfit)
      (past d (length P.domains) (past_all (is_unfit p) P.domains
      (weaker (λ (x : Domain). is_idle x.kind ≡ true → has_member x.members p ≡ true → x.unfit ≡ 0) (λ x. is_unfit p x ≡ false) fit_by P.domains fit)))
    where
      past : (d n : ℕ) → n ≤ d → nat_lt d n ≡ false
      past d n le = grind (arith, nat_tests)

  pub has_table : (kind : IdleKind) → is_absent kind ≡ false → kind ≢ Absent
  has_table Lpi e = λ same. cc
  has_table Cst e = λ same. cc
  has_table Absent e = λ same. cc

  pub table_there : (kind : IdleKind) → kind ≢ Absent → is_absent kind ≡ false
  table_there Lpi h = refl
  table_there Cst h = refl
  table_there Absent h = absurd (h refl)

  module _ (s tolerance : ℕ) where
    abbrev no_table : Option Reply
    no_table = refuse_if (is_absent (cpu_at P p).idle.kind) NoTable

    abbrev no_state : Option Reply
    no_state = refuse_if ((s == 0) || nat_lt (length (rows_of (cpu_at P p).idle)) s) (NoState (length (rows_of (cpu_at P p).idle)))

    abbrev disabled : Option Reply
    disabled = refuse_if (not (row_at (cpu_at P p).idle s).enabled) Disabled

    abbrev slow : Option Reply
    slow = refuse_if (nat_lt tolerance (row_at (cpu_at P p).idle s).latency) (TooSlow (row_at (cpu_at P p).idle s).latency)

    state_from : (n : ℕ) → ((s == 0) || nat_lt n s) ≡ false → (1 ≤ s) × (s ≤ n)
    state_from n e = let a = or_first (s == 0) (nat_lt n s) e in let b = or_second (s == 0) (nat_lt n s) e in (grind (arith, nat_tests), grind (arith, nat_tests))

    state_by : (n : ℕ) → 1 ≤ s → s ≤ n → ((s == 0) || nat_lt n s) ≡ false
    state_by n from within = grind (arith, nat_tests)

    within_from : (latency : ℕ) → nat_lt tolerance latency ≡ false → latency ≤ tolerance
    within_from latency e = grind (arith, nat_tests)

    within_by : (latency : ℕ) → latency ≤ tolerance → nat_lt tolerance latency ≡ false
    within_by latency le = grind (arith, nat_tests)

    pub idle_from : idle_refusal P p s tolerance ≡ None → MayIdleIn P p s tolerance
    idle_from e =
        let later = none_second no_table (unfit_refusal P p or_else (no_state or_else (disabled or_else slow))) e in
        let states = none_second (unfit_refusal P p) (no_state or_else (disabled or_else slow)) later in
        let rows = none_second no_state (disabled or_else slow) states in
        let row = (row_at (cpu_at P p).idle s) in
        let n = length (rows_of (cpu_at P p).idle) in
        let range = state_from n (not_refused ((s == 0) || nat_lt n s) (NoState n) (none_first no_state (disabled or_else slow) states)) in
        record {
          table = has_table (cpu_at P p).idle.kind (not_refused (is_absent (cpu_at P p).idle.kind) NoTable (none_first no_table (unfit_refusal P p or_else (no_state or_else (disabled or_else slow)))
              e));
          domains = unfit_from (none_first (unfit_refusal P p) (no_state or_else (disabled or_else slow)) later);
          from = range.0;
          within = range.1;
          enabled = not_false row.enabled (not_refused (not row.enabled) Disabled (none_first disabled slow rows));
          wakes = within_from row.latency (not_refused (nat_lt tolerance row.latency) (TooSlow row.latency) (none_second disabled slow rows));
        }

    pub idle_by : MayIdleIn P p s tolerance → idle_refusal P p s tolerance ≡ None
    idle_by h =
        let row = (row_at (cpu_at P p).idle s) in
        let n = length (rows_of (cpu_at P p).idle) in
        none_both no_table (unfit_refusal P p or_else (no_state or_else (disabled or_else slow))) (not_refusing (is_absent (cpu_at P p).idle.kind) NoTable (table_there (cpu_at P p).idle.kind h.table))
        (none_both (unfit_refusal P p) (no_state or_else (disabled or_else slow)) (unfit_by h.domains)
        (none_both no_state (disabled or_else slow) (not_refusing ((s == 0) || nat_lt n s) (NoState n) (state_by n h.from h.within))
        (none_both disabled slow (not_refusing (not row.enabled) Disabled (ap not h.enabled))
        (not_refusing (nat_lt tolerance row.latency) (TooSlow row.latency) (within_by row.latency h.wakes)))))

-- # Requests on a domain of performance or throttling

module _ (P : Plan) (kind : DomainKind) (p : ℕ) where
  -- who isn't refused for the domain has the states, and the domain is fit
  pub domain_from : (s : Option Scale) → domain_refusal P kind p s ≡ None → (is_some s ≡ true) × ((domain_at P (domain_of P kind p)).unfit ≡ 0)
  domain_from None e = cc
  domain_from (Some s) e = (refl, step ((domain_at P (domain_of P kind p)).unfit == 0) refl e)
    where
      step : (b : Bool) → ((domain_at P (domain_of P kind p)).unfit == 0) ≡ b
          → refuse_if (not b) (Unfit (domain_of P kind p) (domain_at P (domain_of P kind p)).unfit) ≡ None → (domain_at P (domain_of P kind p)).unfit ≡ 0
      step true h e = grind (arith, nat_tests)
      step false h e = cc

  domain_by : (s : Option Scale) → is_some s ≡ true → (domain_at P (domain_of P kind p)).unfit ≡ 0 → domain_refusal P kind p s ≡ None
  domain_by None e fit = cc
  domain_by (Some s) e fit =
      let none : ((domain_at P (domain_of P kind p)).unfit == 0) ≡ true = grind (arith, nat_tests) in
      not_refusing (not ((domain_at P (domain_of P kind p)).unfit == 0)) (Unfit (domain_of P kind p) (domain_at P (domain_of P kind p)).unfit) (ap not none)

  pub limit_from : limit_refusal P kind p ≡ None → HasFitDomain P kind p
  limit_from e = let both = domain_from (scale_of kind (cpu_at P p)) e in record { scale = both.0; fit = both.1 }

  pub limit_by : HasFitDomain P kind p → limit_refusal P kind p ≡ None
  limit_by h = domain_by (scale_of kind (cpu_at P p)) h.scale h.fit

  module _ (S : State) (i : ℕ) where
    abbrev none_such : Option Reply
    none_such = refuse_if (nat_le (count_of (scale_of kind (cpu_at P p))) i) (NoState (count_of (scale_of kind (cpu_at P p))))

    below_from : (n : ℕ) → nat_le n i ≡ false → i < n
    below_from n e = grind (arith, nat_tests)

    below_by : (n : ℕ) → i < n → nat_le n i ≡ false
    below_by n lt = grind (arith, nat_tests)

    slow_from : (n : ℕ) → nat_lt i n ≡ false → n ≤ i
    slow_from n e = grind (arith, nat_tests)

    slow_by : (n : ℕ) → n ≤ i → nat_lt i n ≡ false
    slow_by n le = grind (arith, nat_tests)

    pub ask_from : (ask_refusal P kind p i or_else above_limit S kind p i) ≡ None → MayAskFor P S kind p i
    ask_from e =
        let n = count_of (scale_of kind (cpu_at P p)) in
        let ask = none_first (ask_refusal P kind p i) (above_limit S kind p i) e in
        record {
          domain = limit_from (none_first (limit_refusal P kind p) none_such ask);
          exists = below_from n (not_refused (nat_le n i) (NoState n) (none_second (limit_refusal P kind p) none_such ask));
          slow = slow_from (limit_of kind S p) (not_refused (nat_lt i (limit_of kind S p)) (AboveLimit (limit_of kind S p)) (none_second (ask_refusal P kind p i) (above_limit S kind p i) e));
        }

    pub ask_by : MayAskFor P S kind p i → (ask_refusal P kind p i or_else above_limit S kind p i) ≡ None
    ask_by h =
        let n = count_of (scale_of kind (cpu_at P p)) in
        none_both (ask_refusal P kind p i) (above_limit S kind p i)
        (none_both (limit_refusal P kind p) none_such (limit_by h.domain) (not_refusing (nat_le n i) (NoState n) (below_by n h.exists)))
        (not_refusing (nat_lt i (limit_of kind S p)) (AboveLimit (limit_of kind S p)) (slow_by (limit_of kind S p) h.slow))
