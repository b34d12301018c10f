-- What desired performance has for an audit: its plans' texts tell, its replies aren't said as faults are, and the operations of a request
-- are on processors of the plan.
use Rattle.std.proofs.Common.{◌≡◌, ◌<◌, ◌==◌, ◌∙◌, ℕ, Bool, true, false, cond, List, [], ◌∷◌, ◌++◌, length, get_or, codes, Option, Some, None, refl, ap, arith, inl, inr}
use Rattle.std.proofs.lemmas.List.{get_or_past, length-map}
use Rattle.std.specs.List.{AllByRecursion, flat_map}
use Rattle.std.proofs.lemmas.Bool.{cases_lt}
use Rattle.std.proofs.lemmas.List.Elements.{recursion_from_All}
use Rattle.acpi_values.specs.declared.dependency.Coord.{Coord}
use Rattle.acpi_values.specs.declared.dependency.Coord.TheVariants.{SwAll, SwAny, HwAll}
use Rattle.acpi_values.specs.declared.operation.Op.{Op}
use Rattle.acpi_values.specs.declared.register.Register.{Register}
use Rattle.aml_data.specs.declared.path.FullPath.{FullPath}
use Rattle.pw_plan.proofs.Lists.{each_append}
use Rattle.pw_model.specs.Operations.{set_at}
use Rattle.pw_text.specs.Text.{place_text}
use Rattle.pw_text.specs.Lines.{with_feed}
use Rattle.pw_text.specs.Behind.{behind}
use Rattle.pw_cppc.specs.declared.parts.Control.{Control}
use Rattle.pw_cppc.specs.declared.parts.Control.TheVariants as controls
use Rattle.pw_cppc.specs.declared.numbers.CppcNumbers.{CppcNumbers}
use Rattle.pw_cppc.specs.declared.plan.CppcPlan.{CppcPlan}
use Rattle.pw_cppc.specs.declared.reply.CppcReply.{CppcReply}
use Rattle.pw_cppc.specs.declared.reply.CppcReply.TheVariants.{Stands, NoTable, Unfit, OutOfRange, Crossed}
use Rattle.pw_cppc.specs.declared.request.CppcRequest.{CppcRequest}
use Rattle.pw_cppc.specs.declared.request.CppcRequest.TheVariants.{Desired, Minimum, Maximum}
use Rattle.pw_cppc.specs.Answers.{if_accepted, refusal}
use Rattle.pw_cppc.specs.Operations.{bound_ops, ops_of, set_in, set_on, standing_ops}
use Rattle.pw_cppc.specs.Parts.{register_of}
use Rattle.pw_cppc.specs.Planning.{domain_at, domain_of, parts_at}
use Rattle.pw_cppc.specs.Requests.{Has, cpu_of}
use Rattle.pw_cppc.specs.Sound.{no_domain}
use Rattle.pw_cppc.specs.States.{changed, stands}
use Rattle.pw_cppc_drive.specs.HistoryText.{performance_words, reply_words}
use Rattle.pw_cppc_drive.specs.Telling.{HasSegments, IsNarrow, IsNarrowRequest}
use Rattle.pw_cppc_drive.specs.inner.Paths.{paths_of}
use Rattle.pw_cppc_drive.proofs.Pathed.{path_text}
use Rattle.pw_cppc_drive.proofs.Told.{performance_laws, performance_made, performance_paths}
use Rattle.pw_audit.specs.Tracing.{op_cpu}
use Rattle.pw_audit.specs.inner.Heading.{AreAllPaths}
use Rattle.pw_audit.specs.inner.Outcomes.{PlanTells, RepliesTell}
use Rattle.pw_audit.specs.inner.Queues.{AreWithin}

-- # Replies

-- the third byte of a reply isn't that of `register`
third : (r : CppcReply) (x : List ℕ) → get_or (with_feed (behind (reply_words r)) ++ x) 3 0 ≡ 103 → ⊥
third (Stands value) x e = let byte : 97 ≡ 103 = e in absurd (omega (arith, byte))
third NoTable x e = let byte : 102 ≡ 103 = e in absurd (omega (arith, byte))
third (Unfit why) x e = let byte : 102 ≡ 103 = e in absurd (omega (arith, byte))
third (OutOfRange lowest highest) x e = let byte : 102 ≡ 103 = e in absurd (omega (arith, byte))
third (Crossed bound) x e = let byte : 102 ≡ 103 = e in absurd (omega (arith, byte))

replies_tell : RepliesTell performance_words
replies_tell r later b = third r later (ap (λ (l : List ℕ). get_or l 3 0) b.is)

-- # Operations

module _ (P : CppcPlan) where
  abbrev Exist : List ℕ → Type 0
  Exist ps = AllByRecursion (λ p. p < length P.cpus) ps

  abbrev Within : List Op → Type 0
  Within ops = AreWithin (length P.cpus) ops

  members_exist : (d : ℕ) → Exist (domain_at P d).members
  unfolding no_domain
  members_exist d = elim (cases_lt d (length P.domains)) [
    | inl lt ↦ recursion_from_All (λ p. p < length P.cpus) (domain_at P d).members (P.sound.members d no_domain lt)
    | inr le ↦ let none : domain_at P d ≡ no_domain = get_or_past P.domains d no_domain le in rw none tt
  ]

  set_within : (r : Option Register) (p v : ℕ) → p < length P.cpus → Within (set_in r p v)
  set_within None p v lt = tt
  set_within (Some r) p v lt = (lt, tt)

  all_within : (control : Control) (v : ℕ) (ps : List ℕ) → Exist ps → Within (flat_map (λ q. set_on P control q v) ps)
  all_within control v [] a = tt
  all_within control v (p ∷ ps) a =
      each_append (λ (o : Op). op_cpu o < length P.cpus) (set_on P control p v) (flat_map (λ q. set_on P control q v) ps)
      (set_within (register_of control (parts_at P p)) p v a.0) (all_within control v ps a.1)

  set_exist : (c : Coord) (ms : List ℕ) (p : ℕ) → Exist ms → p < length P.cpus → Exist (set_at c ms p)
  set_exist SwAll ms p a lt = a
  set_exist SwAny ms p a lt = (lt, tt)
  set_exist HwAll ms p a lt = (lt, tt)

  bound_within : (q : CppcRequest) → Has P q → Within (bound_ops P q)
  bound_within (Desired p v) has = tt
  bound_within (Minimum p v) has = set_within (register_of controls.Minimum (parts_at P p)) p v has
  bound_within (Maximum p v) has = set_within (register_of controls.Maximum (parts_at P p)) p v has

  standing_within : (S T : CppcNumbers) (p : ℕ) → p < length P.cpus → Within (standing_ops P S T p)
  standing_within S T p lt = step (stands P S p == stands P T p)
    where
      step : (b : Bool) → Within (cond b [] (flat_map (λ q. set_on P controls.Desired q (stands P T p)) (set_at (domain_at P (domain_of P p)).coord (domain_at P (domain_of P p)).members p)))
      step true = tt
      step false = all_within controls.Desired (stands P T p) _ (set_exist (domain_at P (domain_of P p)).coord (domain_at P (domain_of P p)).members p (members_exist (domain_of P p)) lt)

  ops_within : (S : CppcNumbers) (q : CppcRequest) → Has P q → Within (ops_of P S q)
  unfolding ops_of
  ops_within S q has = step (refusal P S q)
    where
      step : (r : Option CppcReply) → Within (if_accepted r (λ reply. []) (bound_ops P q ++ standing_ops P S (changed S q) (cpu_of q)))
      step None =
          each_append (λ (o : Op). op_cpu o < length P.cpus) (bound_ops P q) (standing_ops P S (changed S q) (cpu_of q))
          (bound_within q has) (standing_within S (changed S q) (cpu_of q) has)
      step (Some reply) = tt

pub performance_tells : (P : CppcPlan) → HasSegments P → PlanTells performance_words P IsNarrow IsNarrowRequest
performance_tells P segments = record {
  texts = performance_laws P segments;
  made = performance_made P;
  paths = performance_paths P segments;
  replies = replies_tell;
  within = ops_within P;
}

-- # Paths

pub performance_texts : (P : CppcPlan) (texts : List (List ℕ)) → texts ≡ paths_of P → AreAllPaths performance_words P texts
performance_texts P texts e = rw e (record { size = length-map P.paths (λ (path : FullPath). place_text path.segs) ∙ P.planned.paths_are; named = path_text P })
