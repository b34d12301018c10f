use Rattle.std.proofs.Common.{◌≡◌, take}
use Rattle.pw_words.specs.Command.{slice_texts}
use Rattle.pw_words.specs.Words.{texts}
use Rattle.pw_words.proofs.order.all_words.Given as goal

abbrev pub invariant-loop-word : goal.invariant-loop-word
invariant-loop-word l = slice_texts l.all.items ≡ texts (take l.word-index l.words)
