use Rattle.std.proofs.Common.{◌≡◌, ◌*◌, ◌≤◌, length, take}
use Rattle.std.specs.List.{flat_map}
use Rattle.pw_show.specs.inner.Pieces.{comma_number}
use Rattle.pw_show.proofs.json_buffers.write_numbers.Given as goal

abbrev pub invariant-loop-byte : goal.invariant-loop-byte
invariant-loop-byte l = record {
  long : length l.text ≡ 2048;
  within : l.end ≤ 4 * l.byte-index;
  done : take l.end l.text ≡ flat_map comma_number (take l.byte-index l.bytes);
}
