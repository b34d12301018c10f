use Rattle.std.specs.List.{position}
use Rattle.pw_plan.proofs.Ranges.{pushed_map}
use Rattle.pw_cppc.specs.Sound.{covers, places_of}
use Rattle.pw_cppc.proofs.domains.places_of.Goals as goal

pub loop-cpu-preserved : goal.loop-cpu-preserved
loop-cpu-preserved c =
    rw c.in_ok-push.ensures.items (pushed_map c.loop-cpu.places.items (places_of c.args.domains.now c.args.count)
    c.loop-cpu.cpu c.args.count c.loop-cpu-test.true (λ p. position (covers p) c.args.domains.now) c.place_of.result c.place_of.ensures c.loop-cpu.invariant)
