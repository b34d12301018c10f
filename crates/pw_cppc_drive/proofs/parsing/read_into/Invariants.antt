use Rattle.std.proofs.Common.{◌≡◌, ◌≤◌, ◌+◌, ◌++◌, suc, length}
use Rattle.std.specs.List.{AllByRecursion}
use Rattle.pw_text.specs.Fields.{lines_of}
use Rattle.pw_text.specs.Scripts.{first_bad_by}
use Rattle.pw_cppc.specs.Requests.{Has}
use Rattle.pw_cppc_drive.specs.declared.script.CppcLine.{CppcLine}
use Rattle.pw_cppc_drive.specs.Forms.{request_in}
use Rattle.pw_cppc_drive.specs.Reading.{lines_from, lines_in}
use Rattle.pw_cppc_drive.proofs.parsing.read_into.Given as goal

abbrev pub invariant-loop-left : goal.invariant-loop-left
invariant-loop-left l = record {
  read : l.lines.items ++ lines_from l.plan (suc l.number) (lines_of l.left) ≡ lines_in l.plan l.bytes;
  bad : first_bad_by (request_in l.plan) (suc l.number) (lines_of l.left) ≡ first_bad_by (request_in l.plan) 1 (lines_of l.bytes);
  room : l.number + length (lines_of l.left) ≡ length (lines_of l.bytes);
  few : length l.lines.items ≤ l.number;
  exist : AllByRecursion (λ (line : CppcLine). Has l.plan line.request) l.lines.items;
}

abbrev pub decreases-loop-left : goal.decreases-loop-left
decreases-loop-left l = length l.left
