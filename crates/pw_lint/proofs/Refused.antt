-- What is found where objects make no plan, and that one list is found.
use Rattle.std.proofs.Common.{◌≡◌, ◌∙◌, List, [], ◌∷◌, ◌++◌, map, Err, refl, sym, ap, subst, arith}
use Rattle.std.specs.Prelude.{Contains}
use Rattle.std.specs.List.{flat_map}
use Rattle.std.proofs.lemmas.List.Elements.{Contains-append_right}
use Rattle.pw_base.proofs.Facts.{same_err}
use Rattle.acpi_space.specs.Namespace.{Entry}
use Rattle.acpi_space.specs.declared.passed.PassedOver.{PassedOver}
use Rattle.acpi_build.specs.declared.fault.BuildFault.{BuildFault}
use Rattle.acpi_build.specs.declared.fault.BuildFault.TheVariants.{Object, Limit}
use Rattle.acpi_build.specs.declared.fault.ObjectFault.{ObjectFault}
use Rattle.acpi_build.specs.declared.note.Note.{Note}
use Rattle.acpi_build.specs.declared.survey.Outcome.{Outcome}
use Rattle.acpi_build.specs.declared.survey.Outcome.TheVariants.{Planned, PastLimit}
use Rattle.acpi_build.specs.declared.survey.Survey.{Survey}
use Rattle.acpi_build.specs.Planning.{first_fault, parts_within, AreSameOutcomes, IsPlanFrom, IsSurvey}
use Rattle.acpi_build.proofs.Planned.{fault_found, limit_found, plan_found, same_plan, same_survey}
use Rattle.pw_plan.specs.declared.plan.Plan.{Plan}
use Rattle.pw_findings.specs.declared.finding.Finding.{Finding}
use Rattle.pw_lint.specs.Laws.{IsOfRefusal}
use Rattle.pw_lint.specs.Machine.{findings, object_findings, outcome_findings, AreFindings}
use Rattle.pw_lint.specs.Notes.{fault_finding, limit_finding, note_findings}
use Rattle.pw_lint.specs.Passed.{passed_findings}

-- # Why there is no plan

in_outcome : (entries : List Entry) (S : Survey) (fault : BuildFault) (f : Finding) → IsSurvey entries S → S.faults ≡ [] → parts_within entries [] ≡ Err fault → IsOfRefusal fault f
    → (o : Outcome) → S.outcome ≡ o → Contains (outcome_findings entries o S.notes) f
in_outcome entries S fault f made none first of (Planned P) is =
    absurd (let parts = (plan_found entries S P made (ap first_fault none) is).parts in cc)
in_outcome entries S fault f made none first of (PastLimit which number) is =
    let same : fault ≡ Limit which number = same_err first (limit_found entries S which number made (ap first_fault none) is) in
    let here : f ≡ limit_finding which number = subst (λ x. IsOfRefusal x f) same of in
    Contains-append_right (flat_map note_findings S.notes) (limit_finding which number ∷ []) f (0, omega arith, sym here)

in_survey : (entries : List Entry) (S : Survey) (fault : BuildFault) (f : Finding) → IsSurvey entries S → parts_within entries [] ≡ Err fault → IsOfRefusal fault f
    → (fs : List ObjectFault) → S.faults ≡ fs → Contains (object_findings entries fs S.outcome S.notes) f
in_survey entries S fault f made first of [] none = in_outcome entries S fault f made none first of S.outcome refl
in_survey entries S fault f made first of (g ∷ gs) is =
    let same : fault ≡ Object g.path g.place g.why = same_err first (fault_found entries S (Object g.path g.place g.why) made (ap first_fault is)) in
    let here : f ≡ fault_finding g = subst (λ x. IsOfRefusal x f) same of in
    (0, omega arith, sym here)

pub refusal_found : (entries : List Entry) (passed : List PassedOver) (fault : BuildFault) (found : List Finding) (f : Finding) → parts_within entries [] ≡ Err fault → IsOfRefusal fault f
    → AreFindings entries passed found → Contains found f
refusal_found entries passed fault found f first of are =
    subst (λ fs. Contains fs f) (sym are.found_are)
    (Contains-append_right (flat_map passed_findings passed) _ f (in_survey entries are.survey fault f are.made first of are.survey.faults refl))

-- # Where there is one

of_outcome : (entries : List Entry) (S : Survey) (P : Plan) (noted : List Note) → IsSurvey entries S → S.faults ≡ [] → IsPlanFrom entries P noted
    → (o : Outcome) → S.outcome ≡ o → outcome_findings entries o S.notes ≡ findings entries P.containers P.cpus P.domains noted
of_outcome entries S P noted made none planned (Planned Q) is =
    let same = same_plan entries P Q noted S.notes planned (plan_found entries S Q made (ap first_fault none) is) in
    let lists = same.0 in
    rw (lists.containers, lists.cpus, lists.domains, same.1) refl
of_outcome entries S P noted made none planned (PastLimit which number) is =
    absurd (let parts = planned.parts in let limit = limit_found entries S which number made (ap first_fault none) is in cc)

of_survey : (entries : List Entry) (S : Survey) (P : Plan) (noted : List Note) → IsSurvey entries S → IsPlanFrom entries P noted
    → (fs : List ObjectFault) → S.faults ≡ fs → object_findings entries fs S.outcome S.notes ≡ findings entries P.containers P.cpus P.domains noted
of_survey entries S P noted made planned [] none = of_outcome entries S P noted made none planned S.outcome refl
of_survey entries S P noted made planned (g ∷ gs) is =
    absurd (let parts = planned.parts in let fault = fault_found entries S (Object g.path g.place g.why) made (ap first_fault is) in cc)

pub plan_findings : (entries : List Entry) (passed : List PassedOver) (P : Plan) (noted : List Note) (found : List Finding) → IsPlanFrom entries P noted
    → AreFindings entries passed found → found ≡ flat_map passed_findings passed ++ findings entries P.containers P.cpus P.domains noted
plan_findings entries passed P noted found planned are =
    are.found_are ∙ ap (λ fs. flat_map passed_findings passed ++ fs) (of_survey entries are.survey P noted are.made planned are.survey.faults refl)

-- # One list

same_outcome : (entries : List Entry) (A B : Outcome) (first second : List Note) → AreSameOutcomes A B → first ≡ second → outcome_findings entries A first ≡ outcome_findings entries B second
same_outcome entries (Planned P) (Planned Q) first second same notes = rw (same.containers, same.cpus, same.domains, notes) refl
same_outcome entries (Planned P) (PastLimit which number) first second same notes = absurd same
same_outcome entries (PastLimit which number) (Planned Q) first second same notes = absurd same
same_outcome entries (PastLimit which number) (PastLimit other many) first second same notes = rw (same.0, same.1, notes) refl

pub one_findings : (entries : List Entry) (passed : List PassedOver) (first second : List Finding) → AreFindings entries passed first → AreFindings entries passed second
    → first ≡ second
one_findings entries passed first second p q =
    let same = same_survey entries p.survey q.survey p.made q.made in
    p.found_are ∙ ap (λ fs. flat_map passed_findings passed ++ object_findings entries fs p.survey.outcome p.survey.notes) same.0
    ∙ ap (λ fs. flat_map passed_findings passed ++ (map fault_finding q.survey.faults ++ fs))
    (same_outcome entries p.survey.outcome q.survey.outcome p.survey.notes q.survey.notes same.1.0 same.1.1) ∙ sym q.found_are
