use Rattle.std.proofs.Common.{◌∙◌, ap, sym, codes, option_map, Some}
use Rattle.std.proofs.lemmas.Result.{IfOk-weaker}
use Rattle.clap.specs.Words.{found_of}
use Rattle.clap.proofs.WalkLemmas.{raw_values-rows}
use Rattle.pw_words.specs.Command.{slice_texts}
use Rattle.pw_words.proofs.Getters.{never_none}
use Rattle.pw_words.proofs.matches.blocks_in.Goals as goal

pub unreachable-requires : goal.unreachable-requires
unreachable-requires c =
    never_none c.get_strs.result (λ s. slice_texts s.now) _ c.in-None.is
    (c.get_strs.ensures ∙ raw_values-rows (found_of c.args.matches.now) (codes "blocks")) c.requires

pub returns : goal.returns
returns c =
    let are = sym (raw_values-rows (found_of c.args.matches.now) (codes "blocks")) ∙ sym c.get_strs.ensures
    ∙ ap (option_map (λ s. slice_texts s.now)) c.in-Some.is in
    IfOk-weaker c.from_slice.result _ _ (λ v h. are ∙ ap (λ xs. Some (slice_texts xs)) (sym h)) c.from_slice.ensures.items
