-- What processor power has for an audit: its plans' texts tell, its replies aren't said as faults are, and the operations of a request
-- are on processors of the plan.
use Rattle.std.proofs.Common.{◌≡◌, ◌<◌, ◌==◌, ◌∙◌, ℕ, Bool, true, false, cond, List, [], ◌∷◌, ◌++◌, map, filter, length, get_or, codes, Option, Some, None, refl, sym, ap, subst, arith, append_assoc, inl, inr}
use Rattle.std.proofs.lemmas.List.{get_or_past, length-map}
use Rattle.std.specs.List.{AllByRecursion}
use Rattle.std.proofs.lemmas.Bool.{cases_lt}
use Rattle.std.proofs.lemmas.List.Elements.{recursion_from_All}
use Rattle.acpi_values.specs.declared.dependency.Coord.{Coord}
use Rattle.acpi_values.specs.declared.dependency.Coord.TheVariants.{SwAll, SwAny, HwAll}
use Rattle.acpi_values.specs.declared.idle.IdleKind.{IdleKind}
use Rattle.acpi_values.specs.declared.idle.IdleKind.TheVariants.{Lpi, Cst, Absent}
use Rattle.acpi_values.specs.declared.operation.Op.{Op}
use Rattle.pw_plan.specs.declared.domain.DomainKind.{DomainKind}
use Rattle.pw_plan.specs.declared.domain.DomainKind.TheVariants as kinds
use Rattle.pw_plan.specs.declared.parts.CpuParts.{CpuParts}
use Rattle.pw_plan.specs.declared.plan.Plan.{Plan}
use Rattle.pw_plan.specs.declared.request.Request.{Request}
use Rattle.pw_plan.specs.declared.request.Request.TheVariants.{Idle, Wake, Perf, Throttle, PerfLimit, ThrottleLimit}
use Rattle.pw_plan.specs.Groups.{no_domain}
use Rattle.pw_plan.specs.Places.{cpu_at, domain_at, domain_of, group_at, group_of, no_group}
use Rattle.pw_plan.specs.Requests.{Has}
use Rattle.pw_plan.proofs.Lists.{each_append}
use Rattle.pw_model.specs.declared.reply.Reply.{Reply}
use Rattle.pw_model.specs.declared.reply.Reply.TheVariants.{Entered, Running, Stands, NoState, Disabled, AboveLimit, NoTable, Unfit, TooSlow}
use Rattle.pw_model.specs.declared.state.State.{State}
use Rattle.pw_model.specs.Answers.{changed, if_accepted}
use Rattle.pw_model.specs.Domains.{c_state, standing}
use Rattle.pw_model.specs.Operations.{accepted_ops, domain_ops, drawn_with, enter, idle_ops, ops_of, own_entry, set_at, set_on}
use Rattle.pw_model.specs.Refusals.{refusal}
use Rattle.pw_text.specs.Text.{place_text}
use Rattle.pw_text.specs.Lines.{with_feed}
use Rattle.pw_text.specs.Behind.{behind}
use Rattle.pw_text.proofs.Spacing.{behind_more}
use Rattle.pw_script.specs.Asking.{IsNarrowRequest}
use Rattle.pw_script.specs.HistoryText.{chain_words, power_words, reply_words}
use Rattle.pw_script.specs.Telling.{HasSegments, IsNarrow}
use Rattle.pw_script.specs.inner.Paths.{paths_of}
use Rattle.pw_script.proofs.Pathed.{path_text}
use Rattle.pw_script.proofs.Told.{power_laws, power_made, power_paths}
use Rattle.pw_audit.specs.Tracing.{op_cpu}
use Rattle.pw_audit.specs.inner.Heading.{AreAllPaths}
use Rattle.pw_audit.specs.inner.Outcomes.{PlanTells, RepliesTell}
use Rattle.pw_audit.specs.inner.Queues.{AreWithin}

-- # Replies

regroup : (a b c : List ℕ) → with_feed (a ++ b) ++ c ≡ a ++ (with_feed b ++ c)
regroup a b c = simp append_assoc

-- the third byte of a reply isn't that of `register`
third : (r : Reply) (x : List ℕ) → get_or (with_feed (behind (reply_words r)) ++ x) 3 0 ≡ 103 → ⊥
third (Entered chain) x e =
    let words : with_feed (behind (codes "entered" ∷ chain_words chain)) ++ x ≡ codes " entered" ++ (with_feed (behind (chain_words chain)) ++ x) =
    ap (λ (l : List ℕ). with_feed l ++ x) (behind_more (codes "entered") (chain_words chain)) ∙ regroup (codes " entered") (behind (chain_words chain)) x in
    let byte : 116 ≡ 103 = ap (λ (l : List ℕ). get_or l 3 0) (sym words) ∙ e in
    absurd (omega (arith, byte))
third Running x e = let byte : 110 ≡ 103 = e in absurd (omega (arith, byte))
third (Stands index) x e = let byte : 97 ≡ 103 = e in absurd (omega (arith, byte))
third (NoState count) x e = let byte : 102 ≡ 103 = e in absurd (omega (arith, byte))
third Disabled x e = let byte : 102 ≡ 103 = e in absurd (omega (arith, byte))
third (AboveLimit limit) x e = let byte : 102 ≡ 103 = e in absurd (omega (arith, byte))
third NoTable x e = let byte : 102 ≡ 103 = e in absurd (omega (arith, byte))
third (Unfit domain why) x e = let byte : 102 ≡ 103 = e in absurd (omega (arith, byte))
third (TooSlow latency) x e = let byte : 102 ≡ 103 = e in absurd (omega (arith, byte))

replies_tell : RepliesTell power_words
replies_tell r later b = third r later (ap (λ (l : List ℕ). get_or l 3 0) b.is)

-- # Operations

each_filtered : {X : Type 0} (T : X → Type 0) (f : X → Bool) (xs : List X) → AllByRecursion T xs → AllByRecursion T (filter f xs)
each_filtered T f [] a = tt
each_filtered T f (x ∷ xs) a = step (f x) (each_filtered T f xs a.1)
  where
    step : (b : Bool) → AllByRecursion T (filter f xs) → AllByRecursion T (cond b (x ∷ filter f xs) (filter f xs))
    step true later = (a.0, later)
    step false later = later

module _ (P : Plan) where
  abbrev Exist : List ℕ → Type 0
  Exist ps = AllByRecursion (λ p. p < length P.cpus) ps

  members_exist : (d : ℕ) → Exist (domain_at P d).members
  unfolding no_domain
  members_exist d = elim (cases_lt d (length P.domains)) [
    | inl lt ↦ recursion_from_All (λ p. p < length P.cpus) (domain_at P d).members (P.sound.domains.members d no_domain lt)
    | inr le ↦ let none : domain_at P d ≡ no_domain = get_or_past P.domains d no_domain le in rw none tt
  ]

  grouped_exist : (g : ℕ) → Exist (group_at P g).members
  unfolding no_group
  grouped_exist g = elim (cases_lt g (length P.groups)) [
    | inl lt ↦ recursion_from_All (λ p. p < length P.cpus) (group_at P g).members (P.sound.groups.members g no_group lt)
    | inr le ↦ let none : group_at P g ≡ no_group = get_or_past P.groups g no_group le in rw none tt
  ]

  each_on : (f : ℕ → Op) → ((p : ℕ) → op_cpu (f p) ≡ p) → (ps : List ℕ) → Exist ps → AreWithin (length P.cpus) (map f ps)
  each_on f on [] a = tt
  each_on f on (p ∷ ps) a = (subst (λ (k : ℕ). k < length P.cpus) (sym (on p)) a.0, each_on f on ps a.1)

  set_exist : (c : Coord) (ms : List ℕ) (p : ℕ) → Exist ms → p < length P.cpus → Exist (set_at c ms p)
  set_exist SwAll ms p a lt = a
  set_exist SwAny ms p a lt = (lt, tt)
  set_exist HwAll ms p a lt = (lt, tt)

  domain_within : (S T : State) (kind : DomainKind) (p : ℕ) → p < length P.cpus → AreWithin (length P.cpus) (domain_ops P S T kind p)
  domain_within S T kind p lt = step (standing P S (domain_of P kind p) p == standing P T (domain_of P kind p) p)
    where
      step : (b : Bool) → AreWithin (length P.cpus) (cond b [] (map (set_on P kind (standing P T (domain_of P kind p) p)) (set_at (domain_at P (domain_of P kind p)).coord
          (domain_at P (domain_of P kind p)).members p)))
      step true = tt
      step false = each_on (set_on P kind (standing P T (domain_of P kind p) p)) (λ q. refl) _ (set_exist (domain_at P (domain_of P kind p)).coord (domain_at P (domain_of P kind p)).members p
          (members_exist (domain_of P kind p)) lt)

  own_within : (T : State) (kind : IdleKind) (c p : ℕ) → p < length P.cpus → AreWithin (length P.cpus) (own_entry kind c (enter P T p))
  own_within T Lpi c p lt = (lt, tt)
  own_within T Cst c p lt = step (c == 0)
    where
      step : (b : Bool) → AreWithin (length P.cpus) (cond b [] (enter P T p ∷ []))
      step true = tt
      step false = (lt, tt)
  own_within T Absent c p lt = tt

  idle_within : (S T : State) (p : ℕ) → p < length P.cpus → AreWithin (length P.cpus) (idle_ops P S T p)
  idle_within S T p lt =
      each_append (λ o. op_cpu o < length P.cpus) (own_entry (cpu_at P p).idle.kind (c_state P T p) (enter P T p)) (map (enter P T) (drawn_with P S T p))
      (own_within T (cpu_at P p).idle.kind (c_state P T p) p lt)
      (each_on (enter P T) (λ q. refl) (drawn_with P S T p) (each_filtered (λ q. q < length P.cpus) _ (group_at P (group_of P p)).members (grouped_exist (group_of P p))))

  accepted_within : (S T : State) (q : Request) → Has P q → AreWithin (length P.cpus) (accepted_ops P S T q)
  unfolding accepted_ops
  accepted_within S T (Idle p s t) has = idle_within S T p has
  accepted_within S T (Wake p) has = tt
  accepted_within S T (Perf p i) has = domain_within S T kinds.Perf p has
  accepted_within S T (Throttle p i) has = domain_within S T kinds.Throttle p has
  accepted_within S T (PerfLimit p n) has = domain_within S T kinds.Perf p has
  accepted_within S T (ThrottleLimit p n) has = domain_within S T kinds.Throttle p has

  ops_within : (S : State) (q : Request) → Has P q → AreWithin (length P.cpus) (ops_of P S q)
  unfolding ops_of
  ops_within S q has = step (refusal P S q)
    where
      step : (r : Option Reply) → AreWithin (length P.cpus) (if_accepted r (λ reply. []) (accepted_ops P S (changed P S q) q))
      step None = accepted_within S (changed P S q) q has
      step (Some reply) = tt

pub power_tells : (P : Plan) → HasSegments P → PlanTells power_words P IsNarrow IsNarrowRequest
power_tells P segments = record {
  texts = power_laws P segments;
  made = power_made P;
  paths = power_paths P segments;
  replies = replies_tell;
  within = ops_within P;
}

-- # Paths

pub power_texts : (P : Plan) (texts : List (List ℕ)) → texts ≡ paths_of P → AreAllPaths power_words P texts
power_texts P texts e = rw e (record { size = length-map P.cpus (λ (c : CpuParts). place_text c.path.segs); named = path_text P })
