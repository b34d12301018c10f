use Rattle.std.proofs.Common.{◌+◌, ◌<◌, ◌≤◌, add-one, ap, arith, drop, length, take_all}
use Rattle.std.specs.List.{flat_map}
use Rattle.pw_text.proofs.Putting.{PutsText-as, PutsText-stop, PutsText-then}
use Rattle.std.specs.Prelude.{ℕ, List, ◌∷◌}
use Rattle.pw_findings.specs.declared.putting.Word.{Word}
use Rattle.pw_findings.specs.Words.{word_text}
use Rattle.pw_text.proofs.Joined.{flat_map-in_parts, flat_map-take-suc}
use Rattle.pw_findings.proofs.putting.put_words.Goals as goal

pub returns-in_err-put_word : goal.returns-in_err-put_word
returns-in_err-put_word g c =
    let all = c.args.words.now in
    let at = c.loop-word.word-index in
    let inside : at < length all = omega arith in
    let text : Word → List ℕ = λ w. 32 ∷ word_text w in
    PutsText-as (flat_map text all) (flat_map-in_parts text at all c.word-item.result inside c.word-item.is)
    (PutsText-stop (flat_map text (drop (at + 1) all)) c.from_residual.result c.from_residual.ensures.0
    (PutsText-then c.loop-word.invariant c.in_err-put_word.ensures))

pub loop-word-preserved : goal.loop-word-preserved
loop-word-preserved g c =
    let all = c.args.words.now in
    let at = c.loop-word.word-index in
    let inside : at < length all = omega arith in
    let text : Word → List ℕ = λ w. 32 ∷ word_text w in
    rw (add-one, flat_map-take-suc text at all c.word-item.result inside c.word-item.is)
    (PutsText-then c.loop-word.invariant c.in_ok-put_word.ensures)

pub returns : goal.returns
returns g c =
    let all = c.args.words.now in
    let at = c.loop-word.word-index in
    let past : length all ≤ at = omega arith in
    let text : Word → List ℕ = λ w. 32 ∷ word_text w in
    PutsText-as (flat_map text all) (ap (flat_map text) (take_all at all past)) c.loop-word.invariant
