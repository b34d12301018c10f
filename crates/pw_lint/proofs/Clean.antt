-- Where nothing is found of objects and of terms that were passed over.
use Rattle.std.proofs.Common.{◌≡◌, ◌↔◌, ◌∙◌, List, [], ◌∷◌, map, refl, sym, ap}
use Rattle.std.specs.List.{flat_map}
use Rattle.acpi_space.specs.Namespace.{Entry}
use Rattle.acpi_space.specs.declared.passed.PassedOver.{PassedOver}
use Rattle.acpi_build.specs.declared.fault.ObjectFault.{ObjectFault}
use Rattle.acpi_build.specs.declared.survey.Outcome.{Outcome}
use Rattle.acpi_build.specs.declared.survey.Outcome.TheVariants.{Planned, PastLimit}
use Rattle.acpi_build.specs.declared.survey.Survey.{Survey}
use Rattle.acpi_build.specs.Planning.{first_fault, IsSurvey}
use Rattle.acpi_build.proofs.Planned.{plan_found}
use Rattle.pw_findings.specs.declared.finding.Finding.{Finding}
use Rattle.pw_lint.specs.Laws.{IsClean, NoneIn}
use Rattle.pw_lint.specs.Machine.{outcome_findings, AreFindings}
use Rattle.pw_lint.specs.Notes.{fault_finding, limit_finding, note_findings}
use Rattle.pw_lint.specs.Passed.{passed_findings}
use Rattle.pw_lint.proofs.Nothing.{ends_empty, in_none, none_in, nothing_found}
use Rattle.pw_lint.proofs.Refused.{plan_findings}

no_faults : (fs : List ObjectFault) → map fault_finding fs ≡ [] → fs ≡ []
no_faults [] e = refl
no_faults (f ∷ fs) e = absurd (cc)

clean_outcome : (entries : List Entry) (passed : List PassedOver) (S : Survey) → IsSurvey entries S → S.faults ≡ [] → NoneIn passed_findings passed
    → (o : Outcome) → S.outcome ≡ o → outcome_findings entries o S.notes ≡ [] → IsClean entries passed
clean_outcome entries passed S made none skipped (Planned P) is e = record {
  plan = P;
  noted = S.notes;
  planned = plan_found entries S P made (ap first_fault none) is;
  wise = (nothing_found entries P.containers P.cpus P.domains S.notes).0 e;
  of_passed = skipped;
}
clean_outcome entries passed S made none skipped (PastLimit which number) is e =
    absurd (let last = (ends_empty (flat_map note_findings S.notes) (limit_finding which number ∷ []) e).1 in cc)

is_clean : (entries : List Entry) (passed : List PassedOver) (found : List Finding) → AreFindings entries passed found → found ≡ [] → IsClean entries passed
is_clean entries passed found are none =
    let all = ends_empty (flat_map passed_findings passed) _ (sym are.found_are ∙ none) in
    let objects = ends_empty (map fault_finding are.survey.faults) _ all.1 in
    clean_outcome entries passed are.survey are.made (no_faults are.survey.faults objects.0) (none_in passed_findings passed all.0) are.survey.outcome refl objects.1

nothing_of : (entries : List Entry) (passed : List PassedOver) (found : List Finding) → AreFindings entries passed found → IsClean entries passed → found ≡ []
nothing_of entries passed found are clean =
    let P = clean.plan in
    plan_findings entries passed P clean.noted found clean.planned are
    ∙ (rw (in_none passed_findings passed clean.of_passed, (nothing_found entries P.containers P.cpus P.domains clean.noted).1 clean.wise) refl)

pub nothing_at_all : (entries : List Entry) (passed : List PassedOver) (found : List Finding) → AreFindings entries passed found → (found ≡ []) ↔ IsClean entries passed
nothing_at_all entries passed found are = (is_clean entries passed found are, nothing_of entries passed found are)
