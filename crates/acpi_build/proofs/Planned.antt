-- The parts fit together, and make the plan that objects tell of.
use Rattle.std.proofs.Common.{◌≡◌, ℕ, ◌<◌, List, [], ◌∷◌, ◌++◌, length, get_or, Option, Some, None, Result, Ok, Err, refl, sym, ap, subst, ◌∙◌, arith}
use Rattle.std.specs.Prelude.{slice_index}
use Rattle.aml_data.specs.declared.path.FullPath.{FullPath}
use Rattle.acpi_space.specs.Distinct.{IsDistinct}
use Rattle.acpi_space.specs.Lookup.{path_in}
use Rattle.acpi_space.specs.Namespace.{Entry, places_of}
use Rattle.acpi_space.proofs.Lookups.{count_places, path_at}
use Rattle.pw_plan.specs.declared.fault.PlanFault.{PlanFault}
use Rattle.pw_plan.specs.declared.fault.PlanFault.TheVariants as limits
use Rattle.pw_plan.specs.declared.parts.ContainerParts.{ContainerParts}
use Rattle.pw_plan.specs.declared.parts.CpuParts.{CpuParts}
use Rattle.std.specs.Option.{option_or}
use Rattle.pw_plan.specs.declared.plan.Plan.{Plan}
use Rattle.pw_plan.proofs.OneDomains.{one_list}
use Rattle.pw_plan.specs.Domains.{AreDomains}
use Rattle.pw_plan.specs.Groups.{groups_of}
use Rattle.pw_plan.specs.Limits.{limit_passed, passed}
use Rattle.pw_plan.specs.Parts.{PartsFit}
use Rattle.pw_plan.specs.Tree.{all_children}
use Rattle.pw_plan.specs.Planning.{IsPlanOf}
use Rattle.acpi_build.specs.declared.fault.BuildFault.{BuildFault}
use Rattle.acpi_build.specs.declared.fault.BuildFault.TheVariants.{Object, Limit, Memory}
use Rattle.acpi_build.specs.declared.fault.ObjectFault.{ObjectFault}
use Rattle.acpi_build.specs.declared.note.Note.{Note}
use Rattle.acpi_build.specs.declared.survey.Outcome.{Outcome}
use Rattle.acpi_build.specs.declared.survey.Outcome.TheVariants.{Planned, PastLimit}
use Rattle.acpi_build.specs.declared.survey.Survey.{Survey}
use Rattle.acpi_build.specs.Building.{IsFault, Remarks, built, each}
use Rattle.acpi_build.specs.Finding.{containers_of, processors_of}
use Rattle.acpi_build.specs.inner.Fitting.{AreContainers, AreCpus}
use Rattle.acpi_build.specs.Machine.{container_parts, cpu_parts, parts_of, Parts}
use Rattle.acpi_build.specs.Planning.{first_fault, judged, parts_within, unfit_notes, unless, within, AreSame, AreSameOutcomes, IsOutcome, IsPlanFrom, IsSurvey}
use Rattle.acpi_build.proofs.Parents.{parent_exists, parent_falls, processors_rise, processors_within}

pub parts_fit : (entries : List Entry) (cs : List ContainerParts) (ps : List CpuParts) → IsDistinct (places_of entries) → AreContainers entries (containers_of entries) cs
    → AreCpus entries (processors_of entries) ps → PartsFit cs ps
parts_fit entries cs ps distinct around cpus = record {
  containers = λ n l. rw (around.parents n l) (parent_falls entries n (subst (λ k. n < k) around.count l));
  processors = λ p l. rw (cpus.parents p l, around.count) (parent_exists entries (slice_index (processors_of entries) p));
  paths = λ p q less l same.
      let order = processors_of entries in
      let first : p < length ps = omega (arith, less, l) in
      let inside_p : p < length order = omega (arith, first, cpus.count) in
      let inside_q : q < length order = omega (arith, l, cpus.count) in
      let i = get_or order p 0 in
      let j = get_or order q 0 in
      let rise : i < j = processors_rise entries p q 0 less inside_q in
      let in_i : i < length entries = processors_within entries p 0 inside_p in
      let in_j : j < length entries = processors_within entries q 0 inside_q in
      let paths = sym (cpus.paths p first) ∙ same ∙ cpus.paths q l in
      let places : path_in entries i ≡ path_in entries j = ap (λ (x : FullPath). x.segs) paths in
      distinct i j [] rise (let size = count_places entries in omega (arith, in_j, size)) (path_at entries i [] in_i ∙ places ∙ sym (path_at entries j [] in_j));
  perf = λ p l. (cpus.fit p l).perf;
  throttle = λ p l. (cpus.fit p l).throttle;
  csd = λ p l. let fit = (cpus.fit p l).csd in record { kind = fit.kind; state = fit.entries.state; once = fit.entries.once };
}

-- the parts of containers and of processors
pub parts_made : (entries : List Entry) (cs : List ContainerParts) (ps : List CpuParts) (old first second : Remarks) → each (container_parts entries) (containers_of entries) old ≡ built cs first
    → each (cpu_parts entries) (processors_of entries) first ≡ built ps second → parts_of entries old ≡ built (record { containers = cs; cpus = ps }) second
unfolding parts_of
parts_made entries cs ps old first second e f = rw (e, f) refl

-- want of memory is no limit
only_limits : (which : ℕ) (count : Option ℕ) (others : Option PlanFault) → (others ≡ Some limits.Memory → ⊥) → option_or (passed which count) others ≡ Some limits.Memory → ⊥
only_limits which None others none e = none e
only_limits which (Some n) others none e = cc

last_limit : (which : ℕ) (count : Option ℕ) → passed which count ≡ Some limits.Memory → ⊥
last_limit which None e = cc
last_limit which (Some n) e = cc

limits_alone : (cs : List ContainerParts) (ps : List CpuParts) → limit_passed cs ps ≡ Some limits.Memory → ⊥
limits_alone cs ps = only_limits 1 _ _ (only_limits 2 _ _ (only_limits 3 _ _ (only_limits 4 _ _ (last_limit 5 _))))

none_passed : (o : Option PlanFault) → ((which number : ℕ) → o ≡ Some (limits.Limit which number) → ⊥) → (o ≡ Some limits.Memory → ⊥) → o ≡ None
none_passed None limit memory = refl
none_passed (Some (limits.Limit which number)) limit memory = absurd (limit which number refl)
none_passed (Some limits.Memory) limit memory = absurd (memory refl)

-- the plan of all parts
pub plan_made : (P : Plan) (cs : List ContainerParts) (ps : List CpuParts) → PartsFit cs ps
    → ((which number : ℕ) → limit_passed cs ps ≡ Some (limits.Limit which number) → ⊥) → P.containers ≡ cs → P.cpus ≡ ps
    → P.children ≡ all_children cs ps → AreDomains ps P.domains → P.groups ≡ groups_of P.domains (length ps)
    → IsPlanOf P.containers P.cpus P.children P.domains P.groups
plan_made P cs ps fit limit containers cpus children domains groups =
    let none = none_passed (limit_passed cs ps) limit (limits_alone cs ps) in
    rw (containers, cpus) (record { fit = fit; within = none; children_are = children; domains_are = domains; groups_are = groups })

-- # Where all of them mean something

-- a plan passes no limit
within_limits : (parts : Parts) (P : Plan) → P.containers ≡ parts.containers → P.cpus ≡ parts.cpus → IsPlanOf P.containers P.cpus P.children P.domains P.groups
    → limit_passed parts.containers parts.cpus ≡ None
within_limits parts P containers cpus is = rw (← containers, ← cpus) is.within

judged_so : (entries : List Entry) (S : Survey) (is : IsSurvey entries S)
    → parts_within entries [] ≡ unless (first_fault S.faults) (within (limit_passed is.parts.containers is.parts.cpus) (is.parts, is.remarks.notes))
unfolding parts_within
judged_so entries S is = ap judged is.read ∙ ap (λ fs. unless (first_fault fs) (within (limit_passed is.parts.containers is.parts.cpus) (is.parts, is.remarks.notes))) (sym is.faults_are)

-- an object means nothing
pub fault_found : (entries : List Entry) (S : Survey) (fault : BuildFault) → IsSurvey entries S → first_fault S.faults ≡ Some fault → parts_within entries [] ≡ Err fault
fault_found entries S fault is first = judged_so entries S is ∙ ap (λ o. unless o (within (limit_passed is.parts.containers is.parts.cpus) (is.parts, is.remarks.notes))) first

pub fault_is : (entries : List Entry) (fs : List ObjectFault) (fault : BuildFault) → first_fault fs ≡ Some fault → parts_within entries [] ≡ Err fault → IsFault fault (parts_within entries [])
fault_is entries [] fault first is = absurd (cc)
fault_is entries (f ∷ fs) (Object path place why) first is = is
fault_is entries (f ∷ fs) (Limit which number) first is = is
fault_is entries (f ∷ fs) Memory first is = tt

-- a limit is passed
pub limit_found : (entries : List Entry) (S : Survey) (which number : ℕ) → IsSurvey entries S → first_fault S.faults ≡ None → S.outcome ≡ PastLimit which number
    → parts_within entries [] ≡ Err (Limit which number)
limit_found entries S which number is none outcome =
    let past = subst (λ o. IsOutcome is.parts is.remarks.notes o S.notes) outcome is.outcome_is in
    judged_so entries S is ∙ rw (none, past.0) refl

-- a plan is made
pub plan_found : (entries : List Entry) (S : Survey) (P : Plan) → IsSurvey entries S → first_fault S.faults ≡ None → S.outcome ≡ Planned P → IsPlanFrom entries P S.notes
plan_found entries S P is none outcome =
    let planned = subst (λ o. IsOutcome is.parts is.remarks.notes o S.notes) outcome is.outcome_is in
    let limits = within_limits is.parts P planned.0 planned.1 planned.2 in
    record {
      read = is.remarks.notes;
      parts = judged_so entries S is ∙ rw (none, limits, planned.0, planned.1) refl;
      plan = planned.2;
      notes_are = planned.3;
    }

-- # At most one plan

-- what stands in an answer
abbrev made_in : Parts × List Note → Result (Parts × List Note) BuildFault → Parts × List Note
made_in other (Ok made) = made
made_in other (Err fault) = other

abbrev made_parts : Parts × List Note → Parts
made_parts made = made.0

abbrev made_notes : Parts × List Note → List Note
made_notes made = made.1

same_lists : (P Q : Plan) → P.containers ≡ Q.containers → P.cpus ≡ Q.cpus → IsPlanOf P.containers P.cpus P.children P.domains P.groups
    → IsPlanOf Q.containers Q.cpus Q.children Q.domains Q.groups → AreSame P Q
same_lists P Q containers cpus p q =
    let domains : P.domains ≡ Q.domains = one_list P.cpus P.domains Q.domains p.domains_are (subst (λ ps. AreDomains ps Q.domains) (sym cpus) q.domains_are) in
    record {
      containers = containers;
      cpus = cpus;
      children = p.children_are ∙ ap (λ cs. all_children cs P.cpus) containers ∙ ap (all_children Q.containers) cpus ∙ sym q.children_are;
      domains = domains;
      groups = p.groups_are ∙ ap (λ ds. groups_of ds (length P.cpus)) domains ∙ ap (λ (ps : List CpuParts). groups_of Q.domains (length ps)) cpus ∙ sym q.groups_are;
    }

same_notes : (P Q : Plan) (read other : List Note) → AreSame P Q → read ≡ other → read ++ unfit_notes P.cpus 0 P.domains ≡ other ++ unfit_notes Q.cpus 0 Q.domains
same_notes P Q read other same is = ap (λ ns. ns ++ unfit_notes P.cpus 0 P.domains) is ∙ ap (λ ps. other ++ unfit_notes ps 0 P.domains) same.cpus
    ∙ ap (λ ds. other ++ unfit_notes Q.cpus 0 ds) same.domains

pub same_plan : (entries : List Entry) (P Q : Plan) (first second : List Note) → IsPlanFrom entries P first → IsPlanFrom entries Q second → AreSame P Q × (first ≡ second)
same_plan entries P Q first second p q =
    let a : Parts × List Note = (record { containers = P.containers; cpus = P.cpus }, p.read) in
    let same = ap (made_in a) (sym p.parts ∙ q.parts) in
    let parts = ap made_parts same in
    let read : p.read ≡ q.read = ap made_notes same in
    let lists = same_lists P Q (ap (λ (x : Parts). x.containers) parts) (ap (λ (x : Parts). x.cpus) parts) p.plan q.plan in
    (lists, p.notes_are ∙ same_notes P Q p.read q.read lists read ∙ sym q.notes_are)

-- # At most one survey

built_parts : {x y : Parts} {a b : Remarks} → built x a ≡ built y b → x ≡ y
built_parts e = cc

built_remarks : {x y : Parts} {a b : Remarks} → built x a ≡ built y b → a ≡ b
built_remarks e = cc

same_limit : {which other number many : ℕ} {o : Option PlanFault} → o ≡ Some (limits.Limit which number) → o ≡ Some (limits.Limit other many) → (which ≡ other) × (number ≡ many)
same_limit p q = (cc, cc)

same_outcome : (parts : Parts) (read : List Note) (A B : Outcome) (first second : List Note) → IsOutcome parts read A first → IsOutcome parts read B second
    → AreSameOutcomes A B × (first ≡ second)
same_outcome parts read (Planned P) (Planned Q) first second p q =
    let lists = same_lists P Q (p.0 ∙ sym q.0) (p.1 ∙ sym q.1) p.2 q.2 in
    (lists, p.3 ∙ same_notes P Q read read lists refl ∙ sym q.3)
same_outcome parts read (Planned P) (PastLimit which number) first second p q = absurd (let none = within_limits parts P p.0 p.1 p.2 in let some = q.0 in cc)
same_outcome parts read (PastLimit which number) (Planned Q) first second p q = absurd (let none = within_limits parts Q q.0 q.1 q.2 in let some = p.0 in cc)
same_outcome parts read (PastLimit which number) (PastLimit other many) first second p q = (same_limit p.0 q.0, p.1 ∙ sym q.1)

pub same_survey : (entries : List Entry) (S T : Survey) → IsSurvey entries S → IsSurvey entries T → (S.faults ≡ T.faults) × (AreSameOutcomes S.outcome T.outcome × (S.notes ≡ T.notes))
same_survey entries S T p q =
    let same = sym p.read ∙ q.read in
    let remarks = built_remarks same in
    let parts = built_parts same in
    let other : IsOutcome p.parts p.remarks.notes T.outcome T.notes =
    subst (λ ps. IsOutcome ps p.remarks.notes T.outcome T.notes) (sym parts) (subst (λ (r : Remarks). IsOutcome q.parts r.notes T.outcome T.notes) (sym remarks) q.outcome_is) in (
      p.faults_are ∙ ap (λ (r : Remarks). r.faults) remarks ∙ sym q.faults_are,
      same_outcome p.parts p.remarks.notes S.outcome T.outcome S.notes T.notes p.outcome_is other,
    )
