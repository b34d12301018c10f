use Rattle.std.proofs.Common.{◌≡◌, ◌+◌, length}
use Rattle.aml_data.specs.inner.Reading.{ups_at}
use Rattle.aml_data.proofs.name.ups_of.Given as goal

abbrev pub invariant-loop-rest : goal.invariant-loop-rest
invariant-loop-rest l = record {
  so_far : (l.ups + (ups_at l.rest).0, (ups_at l.rest).1) ≡ ups_at l.bytes;
  shorter : l.ups + length l.rest ≡ length l.bytes;
}

abbrev pub decreases-loop-rest : goal.decreases-loop-rest
decreases-loop-rest l = length l.rest
