use Rattle.std.proofs.Common.{◌≡◌, ◌++◌, map, length}
use Rattle.std.specs.List.{list_all}
use Rattle.aml_data.specs.Segment.{joined}
use Rattle.pw_text.proofs.name.put_segments.Given as goal
use Rattle.pw_text.specs.Fields.{parts}
use Rattle.pw_text.specs.Forms.{is_short, filled}

abbrev pub invariant-loop-seg : goal.invariant-loop-seg
invariant-loop-seg l = record {
  short : list_all is_short (parts 46 l.left) ≡ list_all is_short (parts 46 l.text);
  so_far : l.name.items ++ joined (map filled (parts 46 l.left)) ≡ joined (map filled (parts 46 l.text));
}

abbrev pub decreases-loop-seg : goal.decreases-loop-seg
decreases-loop-seg l = length l.left
