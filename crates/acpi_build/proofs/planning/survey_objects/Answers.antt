use Rattle.std.proofs.Common.{◌≡◌, ◌∙◌, [], Err, refl, ap}
use Rattle.acpi_build.specs.Building.{noting}
use Rattle.acpi_build.specs.Machine.{Parts, parts_of}
use Rattle.acpi_build.specs.inner.Answers.{remarks_in}
use Rattle.acpi_build.proofs.Planned.{plan_made}
use Rattle.acpi_build.proofs.planning.survey_objects.Goals as goal
use Rattle.acpi_build.proofs.planning.survey_objects.Goals.{in-Ok+in_ok-note_domains-in-Ok, in-Err-Limit}

pub note_domains-requires : goal.note_domains-requires
note_domains-requires c = λ k d l. (c.in-Ok.ensures.domains.each k d l).some

pub returns : goal.returns
returns c =
    let space = c.args.space.now in
    let parts : Parts = record { containers = c.in_ok-containers.containers.items; cpus = c.in_ok-containers.cpus.items } in
    let remarks = remarks_in c.read_parts.new.said in
    let start : noting [] ≡ record { notes = c.new.result.items; faults = c.new-2.result.items } = rw (c.new.ensures.items, c.new-2.ensures.items) refl in
    record {
      parts = parts;
      remarks = remarks;
      read = ap (parts_of space) start ∙ c.in_ok-containers.ensures.value;
      faults_are = c.from_vec.ensures;
      outcome_is = elim c.match-new.branch [
        | in-Ok+in_ok-note_domains-in-Ok w ↦ rw (w.outcome-is, c.from_vec-2.ensures, w.notes-is) (
          w.in-Ok.ensures.containers,
          w.in-Ok.ensures.cpus,
          plan_made w.in-Ok.plan parts.containers parts.cpus c.in_ok-containers.ensures.fit
              (λ which number e. let impossible = (w.in-Ok.ensures.limit which number).1 e in cc)
              w.in-Ok.ensures.containers w.in-Ok.ensures.cpus w.in-Ok.ensures.children w.in-Ok.ensures.domains w.in-Ok.ensures.groups,
          w.in_ok-note_domains-in-Ok.ensures,
        )
        | in-Err-Limit w ↦ rw (w.outcome-is, c.from_vec-2.ensures, w.notes-is, w.in-Err-Limit.which-is, w.in-Err-Limit.number-is) (
          (c.new-3.ensures.limit w.in-Err-Limit.which w.in-Err-Limit.number).0 (w.in-Err-Limit.is ∙ ap Err w.in-Err-Limit.field-0-is),
          refl,
        )
      ];
    }
