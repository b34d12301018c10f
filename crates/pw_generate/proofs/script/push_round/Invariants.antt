use Rattle.std.proofs.Common.{◌≡◌, ◌++◌, ◌-◌, map}
use Rattle.std.specs.List.{range_with_len}
use Rattle.pw_generate.specs.Loads.{load_line, round_lines}
use Rattle.pw_generate.proofs.script.push_round.Given as goal

abbrev pub invariant-loop-cpu : goal.invariant-loop-cpu
invariant-loop-cpu l =
    l.lines.items ++ map (load_line l.cpus l.round) (range_with_len l.cpu (l.cpus - l.cpu)) ≡ l.initial.lines.items ++ round_lines l.cpus l.round
