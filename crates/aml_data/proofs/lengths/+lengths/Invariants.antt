use Rattle.std.proofs.Common.{◌≡◌, ◌+◌, ◌*◌, ◌<◌, ◌^◌, length, map, take}
use Rattle.aml_data.specs.Segment.{joined}
use Rattle.aml_data.specs.Written.{written}
use Rattle.aml_data.proofs.lengths.+lengths.Given as goal

abbrev pub decreases-any_len : goal.decreases-any_len
decreases-any_len l = 3 * l.depth

abbrev pub decreases-object_len : goal.decreases-object_len
decreases-object_len l = 3 * l.depth + 1

abbrev pub decreases-elements_len : goal.decreases-elements_len
decreases-elements_len l = 3 * l.depth + 2

abbrev pub invariant-elements_len-loop-element : goal.invariant-elements_len-loop-element
invariant-elements_len-loop-element l = record {
  so_far : l.total ≡ length (joined (map written (take l.element-index l.elements)));
  short : l.total < 2 ^ 28;
}
