use Rattle.std.proofs.Common.{◌≡◌, ◌++◌, take}
use Rattle.std.specs.List.{filter}
use Rattle.pw_words.specs.Command.{slice_texts}
use Rattle.pw_words.specs.Words.{is_among}
use Rattle.pw_words.proofs.order.push_flags.Given as goal

abbrev pub invariant-loop-flag : goal.invariant-loop-flag
invariant-loop-flag l =
    slice_texts l.all.items
    ≡ slice_texts l.initial.all.items ++ filter (is_among (slice_texts l.flags)) (slice_texts (take l.flag-index l.flag-items))
