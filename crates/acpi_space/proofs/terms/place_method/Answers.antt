use Rattle.std.proofs.Common.{[], get_or, arith}
use Rattle.std.proofs.lemmas.List.{append-nil}
use Rattle.std.proofs.lemmas.Result.{err_from_is_err_and}
use Rattle.acpi_space.proofs.Naming.{method_placed, not_placed, some_name, no_name_told}
use Rattle.acpi_space.proofs.terms.place_method.Goals as goal

pub returns-in_err-put_below-in-Some-clause-done : goal.returns-in_err-put_below-in-Some-clause-done
returns-in_err-put_below-in-Some-clause-done c before stands =
    let scope = get_or c.args.building.now.tree c.args.scope [] in
    let name = c.in-Some.name in
    let is = some_name c.args.body.now c.in_ok-name.field-0 name c.in-Some.is c.in_ok-name.ensures in
    let steps = method_placed c.args.width scope (get_or c.args.building.now.tree c.start-start.result []) c.as_slice.result.now c.args.body.now name is c.start-start.ensures.1 c.as_slice.ensures in
    let f = c.in_err-put_below-in-Some.field-0.0 in
    let p = err_from_is_err_and c.from_residual-in_err-put_below-in-Some.result c.from_residual-in_err-put_below-in-Some.ensures.1 in
    rw (p.1, p.2, steps) (c.in_err-put_below-in-Some.ensures.done before stands)

pub returns-in_ok-put_below-in-Some-clause-done : goal.returns-in_ok-put_below-in-Some-clause-done
returns-in_ok-put_below-in-Some-clause-done c before stands =
    let scope = get_or c.args.building.now.tree c.args.scope [] in
    let name = c.in-Some.name in
    let is = some_name c.args.body.now c.in_ok-name.field-0 name c.in-Some.is c.in_ok-name.ensures in
    let steps = method_placed c.args.width scope (get_or c.args.building.now.tree c.start-start.result []) c.as_slice.result.now c.args.body.now name is c.start-start.ensures.1 c.as_slice.ensures in
    rw steps (c.in_ok-put_below-in-Some.ensures.done before stands)

pub returns-in-None-clause-done : goal.returns-in-None-clause-done
returns-in-None-clause-done c before stands =
    let scope = get_or c.args.building.now.tree c.args.scope [] in
    let none = no_name_told c.args.body.now c.in_ok-name.field-0 c.in-None.is c.in_ok-name.ensures in
    rw (not_placed c.args.width scope c.args.body.now (λ i. omega (arith, c.type_inv.body i)) none, append-nil before) stands
