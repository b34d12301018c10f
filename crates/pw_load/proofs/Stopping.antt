-- Why a step stopped, by the fault that it found.
use Rattle.std.proofs.Common.{ℕ, List, [], length, refl}
use Rattle.pw_base.specs.Seen.{FilesSeen, OfFiles}
use Rattle.acpi_space.specs.Namespace.{Entry}
use Rattle.acpi_build.specs.declared.fault.BuildFault.{BuildFault}
use Rattle.acpi_build.specs.declared.fault.BuildFault.TheVariants.{Object, Limit, Memory as no_memory}
use Rattle.acpi_build.specs.Building.{IsFault}
use Rattle.acpi_build.specs.Planning.{parts_within}
use Rattle.aml_block.specs.declared.blocks_fault.BlocksFault.{BlocksFault}
use Rattle.aml_block.specs.declared.blocks_fault.BlocksFault.TheVariants.{Block as in_block, Large, ReadFault, Memory}
use Rattle.aml_block.specs.Held.{IsCauseOf, IsOwn, RoseIfUnread}
use Rattle.pw_check.specs.Refusals.{refusal_line}
use Rattle.pw_load.specs.Ends.{Stops}
use Rattle.pw_load.specs.Ends.Stops.{refused, read_fault, without_memory}
use Rattle.pw_load.specs.Lines.{blocks_line}
use Rattle.pw_load.specs.Steps.{fault_status, loading, plan_status, planning}

pub stops_loading : (before after : FilesSeen) (names : List (List ℕ)) (fault : BlocksFault) → IsOwn fault → RoseIfUnread names fault before.faults after.faults
    → OfFiles before (λ holds. IsCauseOf holds names fault) → Stops (loading before after names) (fault_status fault) (blocks_line (length names) fault)
stops_loading before after names (in_block number fault) own rose cause =
    refused (record { is = refl; fault = in_block number fault; of_blocks = own; first = cause; says = refl })
stops_loading before after names Large own rose cause = refused (record { is = refl; fault = Large; of_blocks = tt; first = cause; says = refl })
stops_loading before after names (ReadFault number) own rose cause = read_fault (record { number = number; failed = rose; held = cause })
stops_loading before after names Memory own rose cause = without_memory

pub stops_planning : (entries : List Entry) (fault : BuildFault) → IsFault fault (parts_within entries [])
    → Stops (planning entries) (plan_status fault) (refusal_line fault)
stops_planning entries (Object path place why) found =
    refused (record { is = refl; fault = Object path place why; first = found; says = refl })
stops_planning entries (Limit which number) found = refused (record { is = refl; fault = Limit which number; first = found; says = refl })
stops_planning entries no_memory found = without_memory
