use Rattle.std.proofs.Common.{◌≡◌, ◌+◌, ◌-◌, ap, arith, replicate}
use Rattle.std.proofs.lemmas.List.{replicate-append-replicate}
use Rattle.pw_text.proofs.Putting.{PutsText-as, PutsText-stop, PutsText-then}
use Rattle.pw_show.proofs.Escapes.{root_prefix, steps_in_parts, steps_prefix}
use Rattle.pw_show.proofs.json_paths.put_prefix.Goals as goal

pub returns-then-path : goal.returns-then-path
returns-then-path g c = PutsText-as _ (root_prefix c.args.path.now c.if-path.true) c.put.ensures

pub returns-in_err-put : goal.returns-in_err-put
returns-in_err-put g c =
    let path = c.args.path.now in
    PutsText-as _ (steps_prefix path c.if-path.false)
    (PutsText-stop (replicate path.ups 94) c.from_residual.result c.from_residual.ensures.0 c.in_err-put.ensures)

pub returns-in_err-put-2 : goal.returns-in_err-put-2
returns-in_err-put-2 g c =
    let path = c.args.path.now in
    let at = c.loop-step._step in
    PutsText-as _ (steps_prefix path c.if-path.false)
    (PutsText-then c.in_ok-put.ensures (PutsText-as (replicate path.ups 94) (steps_in_parts at path.ups (omega arith))
    (PutsText-stop (replicate (path.ups - (at + 1)) 94) c.from_residual-in_err-put-2.result c.from_residual-in_err-put-2.ensures.0
    (PutsText-then c.loop-step.invariant c.in_err-put-2.ensures))))

pub loop-step-preserved : goal.loop-step-preserved
loop-step-preserved g c =
    PutsText-as (replicate (c.loop-step._step + 1) 94) (replicate-append-replicate c.loop-step._step 1 94)
    (PutsText-then c.loop-step.invariant c.in_ok-put-2.ensures)

pub returns : goal.returns
returns g c =
    let path = c.args.path.now in
    let all : c.loop-step._step ≡ path.ups = omega arith in
    PutsText-as _ (steps_prefix path c.if-path.false)
    (PutsText-then c.in_ok-put.ensures (PutsText-as (replicate path.ups 94) (ap (λ n. replicate n 94) all) c.loop-step.invariant))
