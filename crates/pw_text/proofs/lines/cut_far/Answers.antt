use Rattle.std.proofs.Common.{◌≡◌, ◌+◌, ◌-◌, length, take, drop, arith, take_all, length-drop, eq-eqb}
use Rattle.std.proofs.lemmas.Bool.{eqb-true}
use Rattle.pw_text.proofs.lines.cut_far.Goals as goal
use Rattle.pw_text.proofs.Cutting.{cut_none, cut_first}

pub returns-in-None-clause-value : goal.returns-in-None-clause-value
returns-in-None-clause-value c = cut_none c.args.at c.args.bytes.now (λ k lt e. c.in-None.ensures k (omega arith) lt (eq-eqb _ c.args.at e))

pub returns-in-Some-clause-value : goal.returns-in-Some-clause-value
returns-in-Some-clause-value c =
    let i = c.in-Some.index in
    let bytes = c.args.bytes.now in
    let found = c.in-Some.ensures.0 in
    let high = found.high in
    let size = length-drop (i + 1) bytes in
    let all : take (length bytes - (i + 1)) (drop (i + 1) bytes) ≡ drop (i + 1) bytes = take_all _ _ (omega arith) in
    rw all (cut_first c.args.at bytes i high (λ k lt e. found.before k (omega arith) lt (eq-eqb _ c.args.at e)) (eqb-true _ c.args.at c.in-Some.ensures.1))
