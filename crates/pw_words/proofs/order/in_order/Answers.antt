use Rattle.std.proofs.Common.{◌∙◌, ◌∷◌, ◌&&◌, ap, ap₂, length, sym}
use Rattle.std.specs.Prelude.{slice_range}
use Rattle.std.proofs.lemmas.Result.{IfOk-weaker}
use Rattle.pw_words.specs.Command.{slice_texts}
use Rattle.pw_words.specs.Words.{are_flags_of, is_bare, texts}
use Rattle.pw_words.proofs.Moving.{first_and_rest, given_plain}
use Rattle.pw_words.proofs.order.in_order.Goals as goal

pub returns-then-begin_plain : goal.returns-then-begin_plain
returns-then-begin_plain c =
    let words = c.args.words.now in
    let first = c.as_str-then-begin_plain.result.now in
    let rest = texts (slice_range words 1 (length words)) in
    let flags = slice_texts c.as_slice-then-begin_plain.result.now in
    let dashed = ap slice_texts c.as_slice-then-begin_plain.ensures.value ∙ c.in_ok-flags.ensures in
    let are = first_and_rest words c.first-item.result c.in-len1-up.len_at_least c.first-item.is
    ∙ ap (λ w. w ∷ rest) (sym c.as_str-then-begin_plain.ensures.value) in
    let plain = ap₂ (λ f fs. is_bare f && are_flags_of f (slice_texts fs))
    (c.as_str-then-begin_plain.ensures.value ∙ sym c.as_str.ensures.value)
    (c.as_slice-then-begin_plain.ensures.value ∙ sym c.as_slice.ensures.value)
    ∙ sym c.begin_plain.ensures ∙ c.if-begin_plain.true in
    IfOk-weaker c.moved_words.result _ _
    (λ all h. given_plain (texts words) flags (slice_texts all.items) first rest h dashed are plain) c.moved_words.ensures
