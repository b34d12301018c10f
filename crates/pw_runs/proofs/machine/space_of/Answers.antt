use Rattle.std.proofs.Common.{List, sym, subst}
use Rattle.aml_block.specs.declared.block.Block.{Block}
use Rattle.acpi_space.specs.Distinct.{IsDistinct}
use Rattle.acpi_space.specs.Namespace.{entries_in, places_of}
use Rattle.acpi_space.proofs.Seen.{first_repeat_repeats}
use Rattle.pw_runs.proofs.machine.space_of.Goals as goal

pub unreachable-requires : goal.unreachable-requires
unreachable-requires c =
    let blocks = c.args.blocks.now in
    let apart = subst (λ (bs : List Block). IsDistinct (places_of (entries_in bs))) (sym c.requires.block) (c.generated_machines_have_plans.ensures.distinct c.args.n c.requires.size) in
    first_repeat_repeats (places_of (entries_in blocks)) c.in-Err-Twice.field-0-0.segs (rw c.in-Err-Twice.field-0-is at c.in-Err-Twice.ensures.fault) apart
