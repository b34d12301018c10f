use Rattle.std.proofs.Common.{◌≡◌, drop}
use Rattle.pw_base.specs.InMemory.{content_of}
use Rattle.pw_base.proofs.memory_files.find_content.Given as goal

abbrev pub invariant-loop-file : goal.invariant-loop-file
invariant-loop-file l = content_of l.name l.files ≡ content_of l.name (drop l.file-index l.files)
