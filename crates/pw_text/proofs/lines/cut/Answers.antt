use Rattle.std.proofs.Common.{◌≡◌, ◌+◌, ◌-◌, length, take, drop, arith, take_all, length-drop}
use Rattle.pw_text.proofs.lines.cut.Goals as goal
use Rattle.pw_text.proofs.Cutting.{cut_none, cut_first}

pub returns-then-byte-at-clause-value : goal.returns-then-byte-at-clause-value
returns-then-byte-at-clause-value c =
    let i = c.loop-index.index in
    let bytes = c.args.bytes.now in
    let size = length-drop (i + 1) bytes in
    let all : take (length bytes - (i + 1)) (drop (i + 1) bytes) ≡ drop (i + 1) bytes = take_all _ _ (omega arith) in
    rw all (cut_first c.args.at bytes i c.loop-index-test.true c.loop-index.invariant c.if-byte-at.true)

pub returns-clause-value : goal.returns-clause-value
returns-clause-value c = cut_none c.args.at c.args.bytes.now (λ k lt. c.loop-index.invariant k (omega arith))
