use Rattle.std.proofs.Common.{true, take}
use Rattle.std.specs.List.{flat_map}
use Rattle.std.specs.Prelude.{◌∷◌}
use Rattle.pw_text.specs.Puts.{PutsText}
use Rattle.pw_findings.specs.Words.{word_text}
use Rattle.pw_findings.proofs.putting.put_words.Given as goal

abbrev pub invariant-loop-word : goal.invariant-loop-word
invariant-loop-word g l =
    PutsText g.K.Sink l.initial.sink l.sink l.initial.page l.page (flat_map (λ w. 32 ∷ word_text w) (take l.word-index l.words)) true
