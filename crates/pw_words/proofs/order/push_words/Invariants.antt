use Rattle.std.proofs.Common.{◌≡◌, ◌++◌, take}
use Rattle.std.specs.List.{filter}
use Rattle.pw_words.specs.Command.{slice_texts}
use Rattle.pw_words.specs.Words.{texts}
use Rattle.pw_words.specs.inner.Reading.{picks}
use Rattle.pw_words.proofs.order.push_words.Given as goal

abbrev pub invariant-loop-word : goal.invariant-loop-word
invariant-loop-word l =
    slice_texts l.all.items ≡ slice_texts l.initial.all.items ++ filter (picks l.dashed) (texts (take l.word-index l.words))
