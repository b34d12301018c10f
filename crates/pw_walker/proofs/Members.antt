-- The member of a domain of performance or throttling that a request is about.
use Rattle.std.proofs.Common.{◌≡◌, ◌<◌, ◌≤◌, ◌-◌, ◌++◌, ℕ, min, true, false, cond, not, List, length, Option, Some, None, refl, ap, sym, subst, ◌∙◌, arith}
use Rattle.std.specs.Prelude.{is_some, nat_lt}
use Rattle.std.proofs.lemmas.Bool.Decides.{nat_tests}
use Rattle.pw_base.specs.Room.{Bounded}
use Rattle.acpi_values.specs.declared.operation.Op.{Op}
use Rattle.pw_plan.specs.declared.domain.DomainKind.{DomainKind}
use Rattle.pw_plan.specs.declared.domain.DomainKind.TheVariants.{Perf, Throttle, Idle}
use Rattle.pw_plan.specs.declared.parts.Scale.{Scale}
use Rattle.pw_plan.specs.declared.plan.Plan.{Plan}
use Rattle.pw_plan.specs.Groups.{is_idle, no_domain}
use Rattle.pw_plan.specs.Parts.{count_of, scale_of}
use Rattle.pw_plan.specs.Places.{cpu_at, domain_at, domain_of}
use Rattle.pw_model.specs.States.{IsIndex, capped}
use Rattle.pw_model.specs.Calls.{level_ops, own_limit}
use Rattle.pw_model.specs.Effects.{ask_effect, level_effect, limit_effect, member_place, refused_above, with_ask, with_limit}
use Rattle.pw_model.specs.Holding.{member_in}
use Rattle.pw_model.specs.Records.{Part, domain, scaled_count}
use Rattle.pw_model.proofs.Calls.{calls_serve}
use Rattle.pw_model.proofs.Levels.{has_domain}

is_index : (scale : Option Scale) (i : ℕ) → i < count_of scale → IsIndex scale i
is_index None i lt = absurd (omega (arith, lt))
is_index (Some scale) i lt = lt

module _ (P : Plan) (kind : DomainKind) (p : ℕ) (exists : p < length P.cpus) (some : is_some (scale_of kind (cpu_at P p)) ≡ true) where
  module _ (d k : ℕ) (at : d ≡ domain_of P kind p) (there : k ≡ member_place (domain_at P (domain_of P kind p)).members p) where
    pub place_within : k < length (domain_at P d).members
    place_within = rw (at, there) ((calls_serve P).member_at (domain_of P kind p) p (has_domain P kind p exists some).member).0

    index_there : (i : ℕ) → IsIndex (scale_of kind (cpu_at P p)) i → IsIndex (scale_of (domain_at P d).kind (cpu_at P (member_in (domain_at P d).members k))) i
    index_there i h =
        let has = has_domain P kind p exists some in
        rw (at, there) (subst (λ (j : DomainKind). IsIndex (scale_of j (cpu_at P
        (member_in (domain_at P (domain_of P kind p)).members (member_place (domain_at P (domain_of P kind p)).members p)))) i) (sym has.kind_is)
        (subst (λ q. IsIndex (scale_of kind (cpu_at P q)) i) (sym ((calls_serve P).member_at (domain_of P kind p) p has.member).1) h))

    pub asked_index : (i : ℕ) → i < count_of (scale_of kind (cpu_at P p)) → IsIndex (scale_of (domain_at P d).kind (cpu_at P (member_in (domain_at P d).members k))) i
    asked_index i lt = index_there i (is_index (scale_of kind (cpu_at P p)) i lt)

    pub limited_index : (n i : ℕ) → i ≡ capped (scale_of kind (cpu_at P p)) n → IsIndex (scale_of (domain_at P d).kind (cpu_at P (member_in (domain_at P d).members k))) i
    limited_index n i is =
        let few = P.sound.small.some_states kind p some in
        let below : min n (count_of (scale_of kind (cpu_at P p)) - 1) < count_of (scale_of kind (cpu_at P p)) = omega (arith, few) in
        index_there i (is_index (scale_of kind (cpu_at P p)) i (subst (λ j. j < count_of (scale_of kind (cpu_at P p))) (sym is) below))

    -- what the operations of the record's calls are
    pub asked_ops : (i : ℕ) (x y : Part) → y ≡ with_ask k i x → own_limit x k ≤ i → level_ops P d k x y ≡ (ask_effect P kind p i (domain_of P kind p) x).ops
    asked_ops i x y is above =
        let D = domain_of P kind p in
        let j = member_place (domain_at P (domain_of P kind p)).members p in
        let le : own_limit x j ≤ i = subst (λ m. own_limit x m ≤ i) there above in
        let within : nat_lt i (own_limit x j) ≡ false = grind (arith, nat_tests) in
        rw (is, at, there) (sym (ap (λ b. (cond b (refused_above (domain D) x (own_limit x j)) (level_effect P kind p D x (with_ask j i x))).ops) within
        ∙ (calls_serve P).level_ops_are kind p x (with_ask j i x) exists some))

    pub limited_ops : (n i : ℕ) (x y : Part) → i ≡ capped (scale_of kind (cpu_at P p)) n → y ≡ with_limit k i x → level_ops P d k x y ≡ (limit_effect P kind p n (domain_of P kind p) x).ops
    limited_ops n i x y few is =
        let j = member_place (domain_at P (domain_of P kind p)).members p in
        rw (is, few, at, there) (sym ((calls_serve P).level_ops_are kind p x (with_limit j (capped (scale_of kind (cpu_at P p)) n) x) exists some))

-- who has a scale is in a domain that has a record
pub scaled_exists : (P : Plan) (kind : DomainKind) (p : ℕ) → p < length P.cpus → is_some (scale_of kind (cpu_at P p)) ≡ true → domain_of P kind p < scaled_count P
scaled_exists P Perf p lt some = let has = has_domain P Perf p lt some in P.orderly.scaled_first (domain_of P Perf p) has.within (ap (λ k. not (is_idle k)) has.kind_is)
scaled_exists P Throttle p lt some = let has = has_domain P Throttle p lt some in P.orderly.scaled_first (domain_of P Throttle p) has.within (ap (λ k. not (is_idle k)) has.kind_is)
scaled_exists P Idle p lt some = cc

-- the member's place is small
pub member_small : (P : Plan) (kind : DomainKind) (p : ℕ) → p < length P.cpus → is_some (scale_of kind (cpu_at P p)) ≡ true
    → (d k : ℕ) → d ≡ domain_of P kind p → k ≡ member_place (domain_at P d).members p → k ≤ 256
member_small P kind p exists some d k at is =
    let has = has_domain P kind p exists some in
    let there : k ≡ member_place (domain_at P (domain_of P kind p)).members p = subst (λ e. k ≡ member_place (domain_at P e).members p) at is in
    let lt : k < length (domain_at P (domain_of P kind p)).members = place_within P kind p exists some (domain_of P kind p) k refl there in
    let few : length (domain_at P (domain_of P kind p)).members ≤ 256 = P.sound.domains.sizes (domain_of P kind p) no_domain has.within in
    omega (arith, lt, few)
