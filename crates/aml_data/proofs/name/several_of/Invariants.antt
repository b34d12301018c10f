use Rattle.std.proofs.Common.{◌≡◌, ◌+◌, ◌-◌, ◌≤◌, length}
use Rattle.aml_data.specs.inner.Reading.{several_at}
use Rattle.aml_data.proofs.SegmentLoop.{with_front}
use Rattle.aml_data.proofs.name.several_of.Given as goal

abbrev pub invariant-loop : goal.invariant-loop
invariant-loop l = record {
  so_far : with_front l.segs.items (several_at (l.count - l.counter) l.end l.rest) ≡ several_at l.count l.end l.bytes;
  within : length l.rest ≤ l.end;
  shorter : length l.rest + l.counter ≤ length l.bytes;
}
