use Rattle.std.proofs.Common.{◌∙◌, ap, sym, option_map}
use Rattle.clap.specs.Words.{found_of}
use Rattle.clap.proofs.WalkLemmas.{first_value-rows}
use Rattle.pw_words.proofs.Getters.{never_none}
use Rattle.pw_words.proofs.matches.word_in.Goals as goal

pub unreachable-requires : goal.unreachable-requires
unreachable-requires c =
    never_none c.get_str.result (λ s. s.now) _ c.in-None.is
    (c.get_str.ensures ∙ first_value-rows (found_of c.args.matches.now) c.args.id.now) c.requires

pub returns : goal.returns
returns c =
    sym (sym (ap (option_map (λ s. s.now)) c.in-Some.is) ∙ c.get_str.ensures
    ∙ first_value-rows (found_of c.args.matches.now) c.args.id.now)
