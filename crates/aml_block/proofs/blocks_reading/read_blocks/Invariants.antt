use Rattle.std.proofs.Common.{◌≡◌, true, drop}
use Rattle.pw_base.specs.Outside.{KeepsFiles}
use Rattle.aml_block.specs.Held.{names_of}
use Rattle.aml_block.proofs.Progress.{SoFar}
use Rattle.aml_block.proofs.blocks_reading.read_blocks.Given as goal

abbrev pub invariant-loop-name : goal.invariant-loop-name
invariant-loop-name g l =
    KeepsFiles g.F.Files.told g.F.Files.holds g.F.Files.faults l.initial.files l.files
    × SoFar (g.F.Files.holds l.initial.files) (g.F.Files.told l.initial.files ≡ true) (names_of l.names)
    (names_of (drop l.name-index l.names)) l.blocks.items l.total
