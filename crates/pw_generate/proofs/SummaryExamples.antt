-- A summary, printed by computation alone.
use Rattle.std.proofs.Common.{◌≡◌, [], ◌∷◌, ◌++◌, refl}
use Rattle.std.specs.Prelude.{codes}
use Rattle.std.specs.Fmt.{digits}
use Rattle.pw_text.specs.Lines.{text_of}
use Rattle.pw_generate.specs.Summary.{labelled}
use Rattle.pw_generate.specs.inner.Counting.{reply_lines, size_lines}

counts : text_of (size_lines 8 64 ++ reply_lines (record { entered = 16; running = 8; stands = 31; refused = 9 }))
    ≡ codes "processors 8" ++ 10 ∷ (codes "lines 64" ++ 10 ∷ (codes "entered 16" ++ 10 ∷ (codes "running 8" ++ 10 ∷
    (codes "stands 31" ++ 10 ∷ (codes "refused 9" ++ 10 ∷ [])))))
unfolding digits
counts = refl

ends : text_of (labelled (codes "containers") (0 ∷ 12 ∷ []) ∷ labelled (codes "standing") [] ∷ [])
    ≡ codes "containers 0 12" ++ 10 ∷ (codes "standing" ++ 10 ∷ [])
unfolding digits
ends = refl
