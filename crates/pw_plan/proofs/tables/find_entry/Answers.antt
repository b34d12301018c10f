use Rattle.std.proofs.Common.{sym, ◌∙◌, ap, arith}
use Rattle.std.specs.Option.{option_map}
use Rattle.pw_plan.specs.Domains.{as_dependency}
use Rattle.pw_plan.specs.Parts.{no_entry}
use Rattle.pw_plan.proofs.EntryTables.{found_there, not_there}
use Rattle.pw_plan.proofs.tables.find_entry.Goals as goal

pub returns-then-is_entry : goal.returns-then-is_entry
returns-then-is_entry c =
    let place = c.place_of-place in
    sym (ap (option_map as_dependency) (found_there c.args.table.now c.args.name c.requires place.result place.ensures.below place.ensures.above _ c.if-place-table.true (sym c.is_entry.ensures
    ∙ c.if-is_entry.true)))

pub returns-else-is_entry : goal.returns-else-is_entry
returns-else-is_entry c =
    let place = c.place_of-place in
    sym (ap (option_map as_dependency) (not_there c.args.table.now c.args.name c.requires place.result place.ensures.below place.ensures.above _ (λ lt. sym c.is_entry.ensures ∙ c.if-is_entry.false)))

pub returns-else-place-table : goal.returns-else-place-table
returns-else-place-table c =
    let place = c.place_of-place in
    sym (ap (option_map as_dependency) (not_there c.args.table.now c.args.name c.requires place.result place.ensures.below place.ensures.above no_entry (λ lt. absurd (omega arith))))
