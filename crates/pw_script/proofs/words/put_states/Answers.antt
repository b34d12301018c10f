use Rattle.std.proofs.Common.{◌∷◌, ◌+◌, ◌<◌, ℕ, decimal, drop, length, take, arith}
use Rattle.std.specs.List.{flat_map}
use Rattle.pw_text.proofs.Putting.{PutsText-as, PutsText-stop, PutsText-then}
use Rattle.pw_text.proofs.Spacing.{in_parts, one_more}
use Rattle.pw_script.proofs.words.put_states.Goals as goal

pub returns-in_err-put_labelled : goal.returns-in_err-put_labelled
returns-in_err-put_labelled g c =
    let all = c.args.states.now in
    let at = c.loop-state.state-index in
    let inside : at < length all = omega arith in
    let text = λ (s : ℕ). 32 ∷ decimal s in
    PutsText-as (flat_map text all) (in_parts text at all 0 inside)
    (PutsText-stop (flat_map text (drop (at + 1) all)) c.from_residual.result c.from_residual.ensures.0
    (PutsText-then c.loop-state.invariant (rw c.from.ensures at c.in_err-put_labelled.ensures)))

pub loop-state-preserved : goal.loop-state-preserved
loop-state-preserved g c =
    let all = c.args.states.now in
    let at = c.loop-state.state-index in
    let inside : at < length all = omega arith in
    let text = λ (s : ℕ). 32 ∷ decimal s in
    PutsText-as (flat_map text (take (at + 1) all)) (one_more text at all 0 inside)
    (PutsText-then c.loop-state.invariant (rw c.from.ensures at c.in_ok-put_labelled.ensures))
