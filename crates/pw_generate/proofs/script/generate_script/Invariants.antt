use Rattle.std.proofs.Common.{◌≡◌, ◌++◌, ◌-◌}
use Rattle.std.specs.List.{flat_map, range_with_len}
use Rattle.pw_generate.specs.Loads.{load_lines, round_lines}
use Rattle.pw_generate.proofs.script.generate_script.Given as goal

abbrev pub invariant-loop-round : goal.invariant-loop-round
invariant-loop-round l = l.lines.items ++ flat_map (round_lines l.cpus) (range_with_len l.round (l.cpus - l.round)) ≡ load_lines l.cpus
