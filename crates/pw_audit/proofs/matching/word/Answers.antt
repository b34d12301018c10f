use Rattle.std.proofs.Common.{◌≡◌, ◌∙◌, ◌+◌, ◌-◌, length, take, drop, arith, length-drop}
use Rattle.std.proofs.lemmas.List.{take_all}
use Rattle.pw_audit.proofs.Starts.{space_at, space_somewhere, word_back, word_front}
use Rattle.pw_audit.proofs.matching.word.Goals as goal

pub returns-then-byte-eq32 : goal.returns-then-byte-eq32
returns-then-byte-eq32 c =
    let bytes = c.args.bytes.now in
    let i = c.loop-index.index in
    let size = length-drop (i + 1) bytes in
    let all : take (length bytes - (i + 1)) (drop (i + 1) bytes) ≡ drop (i + 1) bytes = take_all _ _ (omega arith) in
    λ w rest o e.
    let n : i ≡ length w = space_at bytes i w rest o e c.loop-index.invariant c.if-byte-eq32.true in
    (word_front bytes i w rest e n, all ∙ word_back bytes i w rest e n)

pub returns : goal.returns
returns c = λ w rest o e. absurd (space_somewhere c.args.bytes.now w rest e (λ k lt. c.loop-index.invariant k (omega arith)))
