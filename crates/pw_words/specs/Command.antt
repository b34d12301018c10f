-- What a command says of the words.
use Rattle.std.specs.Prelude.{List, map}
use Rattle.std.specs.Borrow.{Bor}
use Rattle.clap.specs.Words.{Text}
use Rattle.pw_words.specs.declared.command.Command.{Command}
use Rattle.pw_words.specs.declared.command.Command.TheVariants.{OnBlocks, Drive, Audit, Cppc, Generate}
use Rattle.pw_words.specs.Words.{Asked}
use Rattle.pw_words.specs.Words.Asked.{audit, cppc, drive, generate, on_blocks}

-- the bytes of each slice
abbrev pub slice_texts : List (Bor Text) → List Text
slice_texts slices = map (λ s. s.now) slices

-- what it asks for
abbrev pub asked_of : Command → Asked
asked_of (OnBlocks task blocks) = on_blocks task (slice_texts blocks.items)
asked_of (Drive way script blocks) = drive way script.now (slice_texts blocks.items)
asked_of (Audit review script history blocks) = audit review script.now history.now (slice_texts blocks.items)
asked_of (Cppc serial script blocks) = cppc serial script.now (slice_texts blocks.items)
asked_of (Generate count) = generate count
