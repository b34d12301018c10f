use Rattle.std.proofs.Common.{◌≡◌, ◌-◌, ◌≤◌, true, vec_len}
use Rattle.pw_base.specs.Outside.{KeepsFiles}
use Rattle.aml_block.specs.inner.Content.{Begins}
use Rattle.aml_block.proofs.file.read_all.Given as goal

abbrev pub invariant-loop-filled : goal.invariant-loop-filled
invariant-loop-filled g l = record {
  keeps : KeepsFiles g.F.Files.told g.F.Files.holds g.F.Files.faults l.initial.files l.files;
  within : l.filled ≤ vec_len l.buffer;
  bounded : vec_len l.buffer ≤ l.limit;
  begins : g.F.Files.told l.initial.files ≡ true → Begins (g.F.Files.holds l.initial.files l.name) l.filled l.buffer.items;
}

abbrev pub decreases-loop-filled : goal.decreases-loop-filled
decreases-loop-filled g l = l.limit - l.filled
