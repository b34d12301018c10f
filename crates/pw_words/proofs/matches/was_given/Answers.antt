use Rattle.std.proofs.Common.{◌∙◌}
use Rattle.clap.specs.Words.{found_of}
use Rattle.pw_words.proofs.Getters.{used_is}
use Rattle.pw_words.proofs.matches.was_given.Goals as goal

pub returns : goal.returns
returns c = c.is_from_words.ensures ∙ used_is (found_of c.args.matches.now) c.args.id.now c.value_source.result c.value_source.ensures
