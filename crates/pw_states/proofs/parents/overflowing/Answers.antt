use Rattle.std.proofs.Common.{◌≡◌, ◌+◌, ◌<◌, ◌^◌, ℕ, Bool, List, take, Option, Some, None, sym, arith}
use Rattle.std.specs.Prelude.{IfSome, position}
use Rattle.std.proofs.lemmas.List.{length-take}
use Rattle.std.proofs.lemmas.List.Quantifiers.{position-Some}
use Rattle.acpi_values.specs.declared.idle.IdleRow.{IdleRow}
use Rattle.pw_plan.specs.Parts.{no_row}
use Rattle.pw_states.proofs.parents.overflowing.Goals as goal

-- a place among the first few is small
small_place : (p : IdleRow → Bool) (rows : List IdleRow) (n : ℕ) (o : Option ℕ) → o ≡ position p (take n rows) → n < 2 ^ 32 → IfSome o (λ j. j + 1 < 2 ^ 64)
small_place p rows n None e few = tt
small_place p rows n (Some j) e few =
    let s = position-Some p (take n rows) j no_row (sym e) in
    let size = length-take n rows in
    let inside = s.0 in omega arith

pub returns-clause-small : goal.returns-clause-small
returns-clause-small c =
    let few : c.args.row.now.parent < 2 ^ 32 = omega arith in
    small_place _ _ c.args.row.now.parent c.first_over.result c.first_over.ensures few
