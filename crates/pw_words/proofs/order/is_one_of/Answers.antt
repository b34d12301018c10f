use Rattle.std.proofs.Common.{◌∙◌}
use Rattle.std.specs.Str.{bytes_eq}
use Rattle.clap.proofs.WalkLemmas.{list_any-map}
use Rattle.pw_words.proofs.order.is_one_of.Goals as goal

pub returns : goal.returns
returns c = c.contains.ensures.value ∙ list_any-map (λ w. bytes_eq w c.args.word.now) (λ s. s.now) c.args.words.now
