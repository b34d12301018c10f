use Rattle.std.proofs.Common.{◌≡◌, ◌≤◌, ◌-◌, ◌∷◌, ◌++◌, [], ℕ, List, ap, append_assoc, arith, drop, get_or, length, length-drop, sym, take, ◌∙◌}
use Rattle.std.proofs.lemmas.List.{take_all}
use Rattle.std.specs.List.{flat_map}
use Rattle.pw_text.specs.Text.{place_text}
use Rattle.pw_text.proofs.Joined.{join-flat_map}
use Rattle.pw_text.proofs.Putting.{PutsText-as, PutsText-stop, PutsText-then}
use Rattle.pw_text.proofs.paths.put_place.Goals as goal

abbrev dotted : List ℕ → List ℕ
dotted seg = 46 ∷ seg

-- the first two segments, and the others behind dots
two_and_rest : (segs : List (List ℕ)) (first second : List ℕ) → 2 ≤ length segs → first ≡ get_or segs 0 first → second ≡ get_or segs 1 second
    → (92 ∷ first ++ 46 ∷ second) ++ flat_map dotted (drop 2 segs) ≡ place_text segs
two_and_rest [] first second h e d = absurd (omega arith)
two_and_rest (x ∷ []) first second h e d = absurd (omega arith)
two_and_rest (x ∷ y ∷ rest) first second h e d =
    let more = flat_map dotted rest in
    ap (λ (f : List ℕ). (92 ∷ f ++ 46 ∷ second) ++ more) e ∙ ap (λ (s : List ℕ). (92 ∷ x ++ 46 ∷ s) ++ more) d
    ∙ ap (λ (l : List ℕ). 92 ∷ l) (append_assoc x (46 ∷ y) more ∙ sym (join-flat_map 46 x (y ∷ rest)))

pub returns-in_err-put_two-in-len2-up : goal.returns-in_err-put_two-in-len2-up
returns-in_err-put_two-in-len2-up g c =
    let segs = c.args.segs.now in
    PutsText-as (place_text segs) (two_and_rest segs c.first-item-2.result c.second-item.result c.in-len2-up.len_at_least c.first-item-2.is c.second-item.is)
    (PutsText-stop (flat_map dotted (drop 2 segs)) c.from_residual.result c.from_residual.ensures.0 c.in_err-put_two-in-len2-up.ensures)

pub returns-in_ok-put_two-in-len2-up : goal.returns-in_ok-put_two-in-len2-up
returns-in_ok-put_two-in-len2-up g c =
    let segs = c.args.segs.now in
    let first = c.first-item-2.result in
    let second = c.second-item.result in
    let behind : take (length segs - 2) (drop 2 segs) ≡ drop 2 segs = take_all (length segs - 2) (drop 2 segs) (omega (arith, length-drop 2 segs)) in
    PutsText-as (place_text segs)
    (ap (λ (rest : List (List ℕ)). (92 ∷ first ++ 46 ∷ second) ++ flat_map dotted rest) behind ∙ two_and_rest segs first second c.in-len2-up.len_at_least c.first-item-2.is c.second-item.is)
    (PutsText-then c.in_ok-put_two-in-len2-up.ensures c.put_behind_dots.ensures)
