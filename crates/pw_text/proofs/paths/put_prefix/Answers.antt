use Rattle.std.proofs.Common.{◌≡◌, ◌++◌, ◌+◌, ◌-◌, ◌<◌, ℕ, List, replicate, ap, ◌∙◌, arith}
use Rattle.std.proofs.lemmas.List.{replicate-append-replicate}
use Rattle.pw_text.proofs.Putting.{PutsText-as, PutsText-stop, PutsText-then}
use Rattle.pw_text.proofs.paths.put_prefix.Goals as goal

-- so many steps up
abbrev steps : ℕ → List ℕ
steps n = replicate n 94

-- the steps so far, one more, and those that are left are all steps
steps_in_parts : (at ups : ℕ) → at < ups → (steps at ++ steps 1) ++ steps (ups - (at + 1)) ≡ steps ups
steps_in_parts at ups h =
    ap (λ l. l ++ steps (ups - (at + 1))) (replicate-append-replicate at 1 94) ∙ replicate-append-replicate (at + 1) (ups - (at + 1)) 94
    ∙ ap (λ n. steps n) {x = at + 1 + (ups - (at + 1))} {y = ups} (omega arith)

pub returns-in_err-put : goal.returns-in_err-put
returns-in_err-put g c =
    let ups = c.args.path.now.ups in
    let at = c.loop-step._step in
    rw c.if-path.false
    (PutsText-as (replicate ups 94) (steps_in_parts at ups (omega arith))
    (PutsText-stop (replicate (ups - (at + 1)) 94) c.from_residual.result c.from_residual.ensures.0
    (PutsText-then c.loop-step.invariant c.in_err-put.ensures)))

pub loop-step-preserved : goal.loop-step-preserved
loop-step-preserved g c =
    PutsText-as (replicate (c.loop-step._step + 1) 94) (replicate-append-replicate c.loop-step._step 1 94) (PutsText-then c.loop-step.invariant c.in_ok-put.ensures)

pub returns : goal.returns
returns g c =
    let all : c.loop-step._step ≡ c.args.path.now.ups = omega arith in
    rw (c.if-path.false, ← all) c.loop-step.invariant
