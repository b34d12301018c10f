use Rattle.std.proofs.Common.{◌≡◌, ◌∷◌, ◌++◌, ℕ, List, ap, sym, ◌∙◌, append_assoc}
use Rattle.std.proofs.lemmas.Result.{on_ok_weaker}
use Rattle.std.specs.List.{flat_map}
use Rattle.pw_text.specs.Text.{segments_text}
use Rattle.pw_text.proofs.Joined.{join-flat_map}
use Rattle.pw_text.proofs.path_texts.push_segments.Goals as goal

pub returns-in_ok-push_seg-in-Some : goal.returns-in_ok-push_seg-in-Some
returns-in_ok-push_seg-in-Some c =
    let first = c.in-Some.first.now in
    let others = flat_map (λ (seg : List ℕ). 46 ∷ seg) c.in-Some.rest.now in
    let before = c.args.text.now.items in
    let whole : segments_text c.args.segs.now ≡ first ++ others =
    ap segments_text c.in-Some.ensures.cases.0 ∙ join-flat_map 46 first c.in-Some.rest.now in
    on_ok_weaker c.push_behind_dots.result
    (λ e. e ∙ ap (λ (l : List ℕ). l ++ others) c.in_ok-push_seg-in-Some.ensures
    ∙ append_assoc before first others ∙ ap (λ (l : List ℕ). before ++ l) (sym whole))
    c.push_behind_dots.ensures
