use Rattle.std.proofs.Common.{take}
use Rattle.std.specs.List.{AllByRecursion}
use Rattle.aml_data.specs.Grammar.{IsAscii}
use Rattle.aml_data.proofs.writable.is_ascii.Given as goal

abbrev pub invariant-loop-byte : goal.invariant-loop-byte
invariant-loop-byte l = AllByRecursion IsAscii (take l.byte-index l.text)
