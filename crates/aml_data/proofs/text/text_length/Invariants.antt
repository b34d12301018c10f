use Rattle.std.proofs.Common.{◌≡◌, ℕ, List, ◌++◌, take, drop, Ok}
use Rattle.aml_data.specs.inner.Reading.{◌>>=◌, Read}
use Rattle.aml_data.specs.inner.ReadingObjects.{text_at}
use Rattle.aml_data.proofs.text.text_length.Given as goal

-- the bytes that were read before, and those still to be read
abbrev with_front : List ℕ → Read (List ℕ) → Read (List ℕ)
with_front front read = read >>= λ more. Ok (front ++ more.0, more.1)

abbrev pub invariant-loop-i : goal.invariant-loop-i
invariant-loop-i l = with_front (take l.i l.bytes) (text_at l.end (drop l.i l.bytes)) ≡ text_at l.end l.bytes
