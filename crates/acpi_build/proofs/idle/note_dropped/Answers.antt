use Rattle.std.proofs.Common.{◌∙◌, ◌+◌, ◌<◌, length, drop, ap}
use Rattle.std.proofs.lemmas.List.{get_or_default}
use Rattle.acpi_build.specs.declared.names.Name.TheVariants.{Csd}
use Rattle.acpi_build.specs.Finding.{place_below}
use Rattle.acpi_build.specs.Machine.{dropped}
use Rattle.acpi_build.specs.inner.Answers.{remarks_in}
use Rattle.acpi_build.proofs.Keeping.{dropped_more, dropped_past}
use Rattle.acpi_build.proofs.idle.note_dropped.Goals as goal
use Rattle.acpi_build.proofs.idle.note_dropped.Goals.{then-entry-states+in_ok-note, else-entry-states}

pub loop-entry-preserved : goal.loop-entry-preserved
loop-entry-preserved c =
    let before = c.loop-entry in
    let path = place_below c.args.space.now c.args.index Csd in
    let entries = c.args.entries.now in
    let i = before.entry-index in
    let here : i < length entries = c.loop-entry-test.true in
    elim c.if-entry-states.branch [
      | then-entry-states+in_ok-note w ↦
          ap (λ s. dropped path c.args.states (drop (i + 1) entries) (remarks_in s)) w.said-is
          ∙ dropped_more path c.args.states i entries _ (remarks_in before.said) (remarks_in w.note.new.said) here (get_or_default entries i _ _ here) w.if-entry-states.true w.in_ok-note.ensures
          ∙ before.invariant
      | else-entry-states w ↦
          ap (λ s. dropped path c.args.states (drop (i + 1) entries) (remarks_in s)) w.said-is
          ∙ dropped_past path c.args.states i entries _ (remarks_in before.said) here (get_or_default entries i _ _ here) w.if-entry-states.false
          ∙ before.invariant
    ]
