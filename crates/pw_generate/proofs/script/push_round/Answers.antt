use Rattle.std.proofs.Common.{ℕ, ◌++◌, ap}
use Rattle.pw_plan.proofs.Ranges.{pushed_map}
use Rattle.pw_plan.specs.declared.request.Request.{Request}
use Rattle.pw_script.specs.declared.script.Line.{Line}
use Rattle.pw_generate.specs.Loads.{load_line, round_lines}
use Rattle.pw_generate.proofs.script.push_round.Goals as goal

-- a line of this number
abbrev line : ℕ → Request → Line
line n q = record { number = n; request = q }

pub loop-cpu-preserved : goal.loop-cpu-preserved
loop-cpu-preserved c =
    rw c.in_ok-push.ensures.items (pushed_map c.loop-cpu.lines.items (c.args.lines.now.items ++ round_lines c.args.cpus c.args.round)
    c.loop-cpu.cpu c.args.cpus c.loop-cpu-test.true (load_line c.args.cpus c.args.round) _ (ap (line _) c.request_in.ensures) c.loop-cpu.invariant)
