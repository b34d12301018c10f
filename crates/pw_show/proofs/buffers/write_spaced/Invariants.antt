use Rattle.std.proofs.Common.{◌≡◌, ◌*◌, length, take}
use Rattle.std.specs.List.{flat_map}
use Rattle.pw_show.specs.inner.Pieces.{spaced_byte}
use Rattle.pw_show.proofs.buffers.write_spaced.Given as goal

abbrev pub invariant-loop-i : goal.invariant-loop-i
invariant-loop-i l = record {
  long : length l.text ≡ 1536;
  done : take (3 * l.i) l.text ≡ flat_map spaced_byte (take l.i l.bytes);
}
