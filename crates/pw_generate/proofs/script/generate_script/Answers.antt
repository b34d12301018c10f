use Rattle.std.proofs.Common.{◌*◌}
use Rattle.pw_plan.proofs.Ranges.{pushed_flat_map}
use Rattle.pw_generate.specs.Loads.{load_lines, round_lines}
use Rattle.pw_generate.proofs.script.generate_script.Goals as goal

pub loop-round-preserved : goal.loop-round-preserved
loop-round-preserved c =
    rw c.in_ok-push_round.ensures (pushed_flat_map c.loop-round.lines.items (load_lines (8 * c.args.n))
    c.loop-round.round (8 * c.args.n) c.loop-round-test.true (round_lines (8 * c.args.n)) c.loop-round.invariant)
