use Rattle.std.proofs.Common.{◌∙◌, [], get_or}
use Rattle.acpi_space.specs.inner.Standing.{entries_at}
use Rattle.acpi_space.proofs.Lookups.{around_bare, around_labelled, around_root}
use Rattle.acpi_space.proofs.labels.around_place.Goals as goal

pub returns-in-Some-label_of : goal.returns-in-Some-label_of
returns-in-Some-label_of c =
    let places = c.args.tree.now in
    around_labelled (entries_at places c.args.placed.now) c.args.labels.now (get_or places c.in-Some.above []) (get_or places c.args.at []) c.in-Some.field-0-1 c.in-Some-label_of.label
    c.in-Some.ensures.root c.in-Some-label_of.ensures

pub returns-in-None-label_of : goal.returns-in-None-label_of
returns-in-None-label_of c =
    let places = c.args.tree.now in
    c.requires.each c.in-Some.above c.in-Some.ensures.less
    ∙ around_bare (entries_at places c.args.placed.now) c.args.labels.now (get_or places c.in-Some.above []) (get_or places c.args.at []) c.in-Some.field-0-1 c.in-Some.ensures.root
    c.in-None-label_of.ensures

pub returns-in-None : goal.returns-in-None
returns-in-None c =
    let places = c.args.tree.now in
    around_root (entries_at places c.args.placed.now) c.args.labels.now (get_or places c.args.at []) c.in-None.ensures.root
