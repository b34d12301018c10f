-- How a run ends whose register failed: the status and the line, once its history was to be printed.
use Rattle.std.specs.Prelude.{ℕ, List, codes, Result, Ok, Err}
use Rattle.pw_text.specs.declared.fault.PrintFault.{PrintFault}
use Rattle.pw_text.specs.declared.fault.PrintFault.TheVariants as outs
use Rattle.pw_runs.specs.Runs.{register_line}

-- the status where a register failed and the history was to be printed
abbrev pub failed_status : Result (Unit {0}) PrintFault → ℕ
failed_status (Ok x) = 5
failed_status (Err outs.Sink) = 5
failed_status (Err outs.Memory) = 6

-- and the line, where so many operations were done before
abbrev pub failed_line : ℕ → Result (Unit {0}) PrintFault → List ℕ
failed_line k (Ok x) = register_line k
failed_line k (Err outs.Sink) = register_line k
failed_line k (Err outs.Memory) = codes "no memory\n"
