use Rattle.std.proofs.Common.{◌≡◌}
use Rattle.pw_base.proofs.Counting.{GoneOver}
use Rattle.pw_base.proofs.memory_files.count_fault.Given as goal

-- the files before this one have other names, and no count changed yet
abbrev pub invariant-loop-file : goal.invariant-loop-file
invariant-loop-file l = (l.file-items ≡ l.fn.files) × GoneOver l.name l.fn.files l.file-index
