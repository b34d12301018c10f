use Rattle.std.proofs.Common.{[], Some, None, get_or, sym, refl, ◌∙◌}
use Rattle.acpi_space.specs.inner.Standing.{entries_at}
use Rattle.acpi_space.proofs.Lookups.{at_name, label_told}
use Rattle.acpi_space.proofs.labels.label_of.Goals as goal

pub returns-in-Some : goal.returns-in-Some
returns-in-Some c =
    let places = c.args.tree.now in
    let entries = entries_at places c.args.placed.now in
    let place = get_or places c.args.at [] in
    let told = at_name places c.args.placed.now c.args.index.now entries c.args.at place c.requires.indexed c.facts.ensures.distinct refl (c.requires.at, refl)
    (Some c.in-Some.number) (sym c.in-Some.is ∙ c.number_at.ensures) in
    sym (label_told c.args.labels.now entries place (Some c.in-Some.number) told)

pub returns-in-None : goal.returns-in-None
returns-in-None c =
    let places = c.args.tree.now in
    let entries = entries_at places c.args.placed.now in
    let place = get_or places c.args.at [] in
    let told = at_name places c.args.placed.now c.args.index.now entries c.args.at place c.requires.indexed c.facts.ensures.distinct refl (c.requires.at, refl)
    None (sym c.in-None.is ∙ c.number_at.ensures) in
    sym (label_told c.args.labels.now entries place None told)
