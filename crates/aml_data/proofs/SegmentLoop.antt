-- Reading segments one after the other, as a loop does.
use Rattle.std.proofs.Common.{◌≡◌, ℕ, suc, ◌-◌, ◌+◌, ◌≤◌, ◌<◌, List, [], ◌∷◌, ◌++◌, Ok, Err, refl, sym, ap, ◌∙◌, append_assoc, arith}
use Rattle.std.proofs.lemmas.List.{append-nil}
use Rattle.aml_data.specs.declared.fault.DataFault.{DataFault}
use Rattle.aml_data.specs.inner.Reading.{◌>>=◌, Read, segment_at, several_at}

-- the segments that were read before, and those still to be read
abbrev pub with_front : List (List ℕ) → Read (List (List ℕ)) → Read (List (List ℕ))
with_front front read = read >>= λ x. Ok (front ++ x.0, x.1)

regroup : (front : List (List ℕ)) (s : List ℕ) (read : Read (List (List ℕ))) → with_front front (read >>= λ x. Ok (s ∷ x.0, x.1)) ≡ with_front (front ++ s ∷ []) read
regroup front s (Ok x) = ap (λ (ss : List (List ℕ)). Ok (ss, x.1)) (simp append_assoc)
regroup front s (Err f) = refl

pub segments_go_on : (front : List (List ℕ)) (end count i : ℕ) (bytes s after : List ℕ) (total : Read (List (List ℕ))) → i < count → segment_at end bytes ≡ Ok (s, after)
    → with_front front (several_at (count - i) end bytes) ≡ total → with_front (front ++ s ∷ []) (several_at (count - (i + 1)) end after) ≡ total
segments_go_on front end count i bytes s after total lt h so_far =
    let k : count - i ≡ suc (count - (i + 1)) = omega arith in
    let read = several_at (count - (i + 1)) end after in
    let one : with_front front (several_at (count - i) end bytes) ≡ with_front (front ++ s ∷ []) read = rw (k, h) (regroup front s read) in
    sym one ∙ so_far

pub segments_end : (front : List (List ℕ)) (end count i : ℕ) (bytes : List ℕ) (fault : DataFault) (total : Read (List (List ℕ))) → i < count → segment_at end bytes ≡ Err fault
    → with_front front (several_at (count - i) end bytes) ≡ total → total ≡ Err fault
segments_end front end count i bytes fault total lt h so_far =
    let k : count - i ≡ suc (count - (i + 1)) = omega arith in
    let one : with_front front (several_at (count - i) end bytes) ≡ Err fault = rw (k, h) refl in
    sym so_far ∙ one

pub segments_done : (front : List (List ℕ)) (end count i : ℕ) (bytes : List ℕ) (total : Read (List (List ℕ))) → count ≤ i → with_front front (several_at (count - i) end bytes) ≡ total
    → total ≡ Ok (front, bytes)
segments_done front end count i bytes total le so_far =
    let k : count - i ≡ 0 = omega arith in
    let one : with_front front (several_at (count - i) end bytes) ≡ Ok (front, bytes) = rw k (ap (λ (ss : List (List ℕ)). Ok (ss, bytes)) (append-nil front)) in
    sym so_far ∙ one
