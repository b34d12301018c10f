use Rattle.std.proofs.Common.{◌∙◌, ap, subst}
use Rattle.pw_words.specs.Command.{slice_texts}
use Rattle.pw_words.specs.Words.{texts}
use Rattle.pw_words.specs.inner.Reading.{Reads}
use Rattle.pw_words.proofs.Asking.{reads, taken_or_refused}
use Rattle.pw_words.proofs.command.command_of.Goals as goal

pub returns : goal.returns
returns c =
    let same = ap slice_texts c.as_slice.ensures.value ∙ c.in_ok-room.ensures in
    let read = subst (λ w. Reads w c.stated.result) same c.stated.ensures in
    record {
      read = reads (texts c.args.words.now) c.stated.result read;
      taken = taken_or_refused (texts c.args.words.now) c.stated.result read;
    }
