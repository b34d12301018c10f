use Rattle.std.proofs.Common.{◌∙◌, ◌==◌, length, ap, arith}
use Rattle.acpi_space.proofs.Naming.{not_after_root, not_read, not_some, read_there, bytes_behind, empty_is, some_is}
use Rattle.acpi_space.proofs.terms.name_of_method.Goals as goal

pub returns-then-is_root_behind : goal.returns-then-is_root_behind
returns-then-is_root_behind c path =
    let behind = c.is_root_behind.ensures.yes c.if-is_root_behind.true in
    not_after_root c.args.body.now c.steps_up-ups.result.1.now c.steps_up-ups.result.0 path c.steps_up-ups.ensures.parts c.steps_up-ups.ensures.end behind.0 behind.1.0 behind.1.1

pub returns-then-is_empty : goal.returns-then-is_empty
returns-then-is_empty c path =
    not_some c.args.body.now c.steps_up-ups.result.1.now c.steps_up-ups.result.0 _ path (c.in-Ok.path, c.in-Ok.field-0-1.now) c.steps_up-ups.ensures.parts c.steps_up-ups.ensures.end
    (rw c.front_of-front.ensures.value at c.in-Ok.ensures.value) (empty_is c.in-Ok.path.segs c.is_empty.result (c.is_empty.ensures ∙ ap (λ l. length l == 0) c.as_slice.ensures) c.if-is_empty.true)

pub returns-else-is_empty : goal.returns-else-is_empty
returns-else-is_empty c =
    read_there c.args.body.now c.steps_up-ups.result.1.now c.steps_up-ups.result.0 _ (c.in-Ok.path, c.in-Ok.field-0-1.now)
    (bytes_behind c.args.body.now c.steps_up-ups.result.1.now c.steps_up-ups.result.0 (λ i. omega (arith, c.type_inv.body i)) c.steps_up-ups.ensures.parts)
    c.steps_up-ups.ensures.parts c.steps_up-ups.ensures.end (c.is_root_behind.ensures.no c.if-is_root_behind.false) (rw c.front_of-front.ensures.value at c.in-Ok.ensures.value)
    (some_is c.in-Ok.path.segs c.is_empty.result (c.is_empty.ensures ∙ ap (λ l. length l == 0) c.as_slice.ensures) c.if-is_empty.false)

pub returns-in_ok-unless_memory-in-Err : goal.returns-in_ok-unless_memory-in-Err
returns-in_ok-unless_memory-in-Err c path =
    not_read c.args.body.now c.steps_up-ups.result.1.now c.steps_up-ups.result.0 _ path c.in-Err.fault c.steps_up-ups.ensures.parts c.steps_up-ups.ensures.end
    (rw c.front_of-front.ensures.value at (c.in-Err.ensures.value c.in_ok-unless_memory-in-Err.ensures))
