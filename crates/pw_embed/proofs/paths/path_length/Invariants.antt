use Rattle.std.proofs.Common.{◌≡◌, ◌*◌, ◌∷◌, length, take}
use Rattle.std.specs.List.{flat_map}
use Rattle.pw_embed.proofs.paths.path_length.Given as goal

abbrev pub invariant-loop-seg : goal.invariant-loop-seg
invariant-loop-seg l = record {
  text : l.length ≡ length (flat_map (λ seg. 46 ∷ seg) (take l.seg-index l.segs));
  count : l.length ≡ 5 * l.seg-index;
}
