-- The records on the way of a request.
use Rattle.std.proofs.Common.{◌≤◌}
use Rattle.pw_model.specs.Records.{record_at, record_count}
use Rattle.std.proofs.Common.{◌+◌, ◌-◌}
use Rattle.std.proofs.Common.{◌≡◌, ◌<◌, not, ℕ, suc, Bool, true, false, cond, List, [], ◌∷◌, map, length, take, Option, Some, None, refl, ◌∙◌, ap, arith, inl, inr, nat_lt}
use Rattle.std.specs.List.{AllByRecursion}
use Rattle.std.proofs.lemmas.Bool.Decides.{nat_tests}
use Rattle.acpi_values.specs.declared.idle.IdleKind.{IdleKind}
use Rattle.acpi_values.specs.declared.idle.IdleKind.TheVariants.{Lpi, Cst, Absent}
use Rattle.pw_plan.specs.declared.domain.DomainKind.{DomainKind}
use Rattle.pw_plan.specs.declared.domain.DomainKind.TheVariants as kinds
use Rattle.pw_plan.specs.declared.plan.Plan.{Plan}
use Rattle.pw_plan.specs.declared.request.Request.{Request}
use Rattle.pw_plan.specs.declared.request.Request.TheVariants.{Idle, Wake, Perf, Throttle, PerfLimit, ThrottleLimit}
use Rattle.pw_plan.specs.Groups.{is_idle}
use Rattle.pw_plan.specs.Parts.{scale_of}
use Rattle.pw_plan.specs.Places.{container_at, cpu_at, domain_at, domain_of, group_of}
use Rattle.pw_plan.specs.Requests.{Has}
use Rattle.pw_model.specs.declared.reply.Reply.{Reply}
use Rattle.pw_model.specs.declared.state.State.{State}
use Rattle.pw_model.specs.Containers.{ancestors}
use Rattle.pw_model.specs.Answers.{after, if_accepted}
use Rattle.pw_model.specs.Refusals.{fixed_refusal}
use Rattle.pw_model.specs.Numbers.{HasWay, IsIn, NoneTwice}
use Rattle.pw_model.specs.Records.{IsRecord, Record, container, domain, group, footprint, group_records, number_of, reach, record_at, record_count, records_among, records_by, runs_in_both, scaled_count, through}
use Rattle.pw_model.proofs.Central.{some_scale, some_scale_alone}
use Rattle.pw_model.proofs.Levels.{HasDomain, has_domain}
use Rattle.pw_model.proofs.Lines.{Among, Below, IsLine, ancestors_line, below, starts}

-- # Numbers tell records apart

pub numbers_tell : (P : Plan) (r s : Record) → IsRecord P r → IsRecord P s → number_of P r ≡ number_of P s → r ≡ s
numbers_tell P (container m) (container n) a b e = ap (λ k. container k) e
numbers_tell P (container m) (domain n) a b e = absurd (omega (arith, a, b, e))
numbers_tell P (container m) (group n) a b e = absurd (omega (arith, a, b, e))
numbers_tell P (domain m) (container n) a b e = absurd (omega (arith, a, b, e))
numbers_tell P (domain m) (domain n) a b e = ap (λ k. domain k) (omega (arith, e))
numbers_tell P (domain m) (group n) a b e = absurd (omega (arith, a, b, e))
numbers_tell P (group m) (container n) a b e = absurd (omega (arith, a, b, e))
numbers_tell P (group m) (domain n) a b e = absurd (omega (arith, a, b, e))
numbers_tell P (group m) (group n) a b e = ap (λ k. group k) (omega (arith, e))

-- each number below their count is that of one
pub record_numbers : (P : Plan) (t : ℕ) → t < record_count P → IsRecord P (record_at P t) × (number_of P (record_at P t) ≡ t)
record_numbers P t lt = step (nat_lt t (length P.containers)) (nat_lt t (length P.containers + scaled_count P)) refl refl
  where
    step : (a b : Bool) → nat_lt t (length P.containers) ≡ a → nat_lt t (length P.containers + scaled_count P) ≡ b
        → IsRecord P (cond a (container t) (cond b (domain (t - length P.containers)) (group (t - (length P.containers + scaled_count P)))))
        × (number_of P (cond a (container t) (cond b (domain (t - length P.containers)) (group (t - (length P.containers + scaled_count P))))) ≡ t)
    step true b e f = let l : t < length P.containers = grind (arith, nat_tests) in (l, refl)
    step false true e f =
        let g : length P.containers ≤ t = grind (arith, nat_tests) in
        let l : t < length P.containers + scaled_count P = grind (arith, nat_tests) in
        (omega (arith, g, l), omega (arith, g))
    step false false e f =
        let g : length P.containers + scaled_count P ≤ t = grind (arith, nat_tests) in
        (omega (arith, g, lt), omega (arith, g))

-- and each record's number is below it
pub record_below : (P : Plan) (r : Record) → IsRecord P r → number_of P r < record_count P
record_below P (container n) a = omega (arith, a)
record_below P (domain d) a = omega (arith, a)
record_below P (group g) a = omega (arith, a)

-- # A beginning of a line

through_takes : (stop : ℕ → Bool) (ns : List ℕ) → (k : ℕ) × (map container (through stop ns) ≡ take k (map container ns))
through_takes stop [] = (0, refl)
through_takes stop (n ∷ ns) = step (stop n) (through_takes stop ns)
  where
    step : (b : Bool) → (k : ℕ) × (map container (through stop ns) ≡ take k (map container ns)) → (k : ℕ)
        × (container n ∷ map container (cond b [] (through stop ns)) ≡ take k (container n ∷ map container ns))
    step true h = (1, refl)
    step false h = (suc h.0, ap (λ rs. container n ∷ rs) h.1)

module _ (P : Plan) where
  among_of : (n : ℕ) (ns : List ℕ) → IsIn (container n) (map container ns) → Among n ns
  among_of n [] h = absurd h
  among_of n (m ∷ ns) (inl e) = inl (cc)
  among_of n (m ∷ ns) (inr h) = inr (among_of n ns h)

  line_once : (from : Option ℕ) (ns : List ℕ) → IsLine P from ns → Below (length P.containers) from → NoneTwice (map container ns)
  line_once from [] line w = tt
  line_once from (n ∷ ns) line w =
      let lt = w n line.0 in
      let up : Below n (container_at P n).parent = λ j e. P.sound.tree.falls n j lt e in
      let all : Below (length P.containers) (container_at P n).parent = λ j e. let a = up j e in omega (arith, a, lt) in
      (λ h. let a = below P n (container_at P n).parent ns line.1 up all n (among_of n ns h) in omega (arith, a), line_once (container_at P n).parent ns line.1 all)

  line_exists : (from : Option ℕ) (ns : List ℕ) → IsLine P from ns → Below (length P.containers) from → AllByRecursion (IsRecord P) (map container ns)
  line_exists from [] line w = tt
  line_exists from (n ∷ ns) line w =
      let lt = w n line.0 in
      (lt, line_exists (container_at P n).parent ns line.1 (λ j e. let a = P.sound.tree.falls n j lt e in omega (arith, a, lt)))

  -- # Votes

  abbrev VoteWay : ℕ → IdleKind → Type 0
  VoteWay p k = AllByRecursion (IsRecord P) (records_by k (map container (ancestors P p)) (group_records P p)) × NoneTwice (records_by k (map container (ancestors P p)) (group_records P p))

  group_way : (p : ℕ) → AllByRecursion (IsRecord P) (group_records P p) × NoneTwice (group_records P p)
  group_way p = step (nat_lt (group_of P p) (length P.groups)) refl
    where
      step : (b : Bool) → nat_lt (group_of P p) (length P.groups) ≡ b → AllByRecursion (IsRecord P) (cond b (group (group_of P p) ∷ []) []) × NoneTwice (cond b (group (group_of P p) ∷ []) [])
      step true e = let lt : group_of P p < length P.groups = grind (arith, nat_tests) in ((lt, tt), (λ h. h, tt))
      step false e = (tt, tt)

  vote_way : (p : ℕ) → p < length P.cpus → (k : IdleKind) → VoteWay p k
  vote_way p lt Lpi = (line_exists (cpu_at P p).parent (ancestors P p) (ancestors_line P p lt) (starts P p lt), line_once (cpu_at P p).parent (ancestors P p) (ancestors_line P p lt) (starts P p lt))
  vote_way p lt Cst = group_way p
  vote_way p lt Absent = (tt, tt)

  group_begins : (p : ℕ) → (k : ℕ) × (group_records P p ≡ take k (group_records P p))
  group_begins p = (1, step (nat_lt (group_of P p) (length P.groups)))
    where
      step : (b : Bool) → cond b (group (group_of P p) ∷ []) [] ≡ take 1 (cond b (group (group_of P p) ∷ []) [])
      step true = refl
      step false = refl

  vote_begins : (p : ℕ) (stop : ℕ → Bool) (k : IdleKind)
      → (j : ℕ) × (records_by k (map container (through stop (ancestors P p))) (group_records P p) ≡ take j (records_by k (map container (ancestors P p)) (group_records P p)))
  vote_begins p stop Lpi = through_takes stop (ancestors P p)
  vote_begins p stop Cst = group_begins p
  vote_begins p stop Absent = (0, refl)

  -- # Domains

  domain_exists : (kind : DomainKind) (p : ℕ) → is_idle kind ≡ false → HasDomain P kind p → domain_of P kind p < scaled_count P
  domain_exists kind p scaled has = (P.orderly).scaled_first (domain_of P kind p) has.within (scaled_is (domain_at P (domain_of P kind p)).kind has.kind_is)
    where
      scaled_is : (k : DomainKind) → k ≡ kind → not (is_idle k) ≡ true
      scaled_is k e = ap (λ j. not (is_idle j)) e ∙ ap not scaled

  -- # All requests

  abbrev Way : Request → List Record → Type 0
  Way q rs = AllByRecursion (IsRecord P) rs × NoneTwice rs

  one_way : (kind : DomainKind) (p : ℕ) → is_idle kind ≡ false → HasDomain P kind p → AllByRecursion (IsRecord P) (domain (domain_of P kind p) ∷ []) × NoneTwice (domain (domain_of P kind p) ∷ [])
  one_way kind p scaled has = ((domain_exists kind p scaled has, tt), (λ h. h, tt))

  way : (q : Request) → Has P q → fixed_refusal P q ≡ None → Way q (records_among P (ancestors P) q)
  way (Idle p s t) has e = vote_way p has (cpu_at P p).idle.kind
  way (Wake p) has e = vote_way p has (cpu_at P p).idle.kind
  way (Perf p i) has e = one_way kinds.Perf p refl (has_domain P kinds.Perf p has (some_scale P kinds.Perf p (scale_of kinds.Perf (cpu_at P p)) _ e))
  way (Throttle p i) has e = one_way kinds.Throttle p refl (has_domain P kinds.Throttle p has (some_scale P kinds.Throttle p (scale_of kinds.Throttle (cpu_at P p)) _ e))
  way (PerfLimit p n) has e = one_way kinds.Perf p refl (has_domain P kinds.Perf p has (some_scale_alone P kinds.Perf p (scale_of kinds.Perf (cpu_at P p)) e))
  way (ThrottleLimit p n) has e = one_way kinds.Throttle p refl (has_domain P kinds.Throttle p has (some_scale_alone P kinds.Throttle p (scale_of kinds.Throttle (cpu_at P p)) e))

  starts_way : (stop : ℕ → Bool) (q : Request) → (k : ℕ) × (records_among P (λ p. through stop (ancestors P p)) q ≡ take k (records_among P (ancestors P) q))
  starts_way stop (Idle p s t) = vote_begins p stop (cpu_at P p).idle.kind
  starts_way stop (Wake p) = vote_begins p stop (cpu_at P p).idle.kind
  starts_way stop (Perf p i) = (1, refl)
  starts_way stop (Throttle p i) = (1, refl)
  starts_way stop (PerfLimit p n) = (1, refl)
  starts_way stop (ThrottleLimit p n) = (1, refl)

  pub has_way : (q : Request) → Has P q → HasWay P q
  unfolding reach footprint
  has_way q has =
      let a = by (fixed_refusal P q) refl in
      record { exist = a.0; once = a.1; begins = λ S. begin S (fixed_refusal P q) }
    where
      by : (r : Option Reply) → fixed_refusal P q ≡ r → Way q (if_accepted r (λ reply. []) (records_among P (ancestors P) q))
      by None e = way q has e
      by (Some reply) e = (tt, tt)

      begin : (S : State) (r : Option Reply)
          → (k : ℕ) × (if_accepted r (λ reply. []) (records_among P (λ p. through (runs_in_both P S (after P S q)) (ancestors P p)) q)
          ≡ take k (if_accepted r (λ reply. []) (records_among P (ancestors P) q)))
      begin S None = starts_way (runs_in_both P S (after P S q)) q
      begin S (Some reply) = (0, refl)
