use Rattle.std.proofs.Common.{◌≡◌, ◌∷◌, ◌++◌, take}
use Rattle.std.specs.List.{flat_map}
use Rattle.pw_text.proofs.path_texts.push_behind_dots.Given as goal

abbrev pub invariant-loop-seg : goal.invariant-loop-seg
invariant-loop-seg l = l.text.items ≡ l.initial.text.items ++ flat_map (λ seg. 46 ∷ seg) (take l.seg-index l.segs)
