-- Reading the elements of a package one after the other, as a loop does, and a package whose elements fail.
use Rattle.std.proofs.Common.{◌≡◌, ℕ, zero, suc, ◌-◌, ◌<◌, List, [], ◌∷◌, ◌++◌, length, Result, Ok, Err, refl, sym, ap, ◌∙◌, append_assoc, arith}
use Rattle.aml_data.specs.declared.data.Data.{Data}
use Rattle.aml_data.specs.declared.fault.DataFault.{DataFault}
use Rattle.aml_data.specs.inner.Reading.{◌>>=◌, Read}
use Rattle.aml_data.specs.inner.ReadingObjects.{counted_at, elements_at, pack_at, object_within, within}

-- the elements that were read before, and those still to be read
abbrev pub with_elements : List Data → Result (List Data) DataFault → Result (List Data) DataFault
with_elements front read = read >>= λ others. Ok (front ++ others)

regroup : (front : List Data) (v : Data) (read : Result (List Data) DataFault) → with_elements front (read >>= λ others. Ok (v ∷ others)) ≡ with_elements (front ++ v ∷ []) read
regroup front v (Ok others) = ap (λ (vs : List Data). Ok vs) (simp append_assoc)
regroup front v (Err f) = refl

pub elements_go_on : (read : ℕ → List ℕ → Read Data) (front : List Data) (end left : ℕ) (bytes after : List ℕ) (v : Data) (total : Result (List Data) DataFault)
    → 0 < left → 0 < length bytes → read end bytes ≡ Ok (v, after) → with_elements front (elements_at read left end bytes) ≡ total
    → with_elements (front ++ v ∷ []) (elements_at read (left - 1) end after) ≡ total
elements_go_on read front end left [] after v total some long h so_far = absurd (omega arith)
elements_go_on read front end zero (b ∷ bytes) after v total some long h so_far = absurd (omega arith)
elements_go_on read front end (suc n) (b ∷ bytes) after v total some long h so_far =
    let others = elements_at read n end after in
    let one : with_elements front (elements_at read (suc n) end (b ∷ bytes)) ≡ with_elements (front ++ v ∷ []) others = rw h (regroup front v others) in
    let k : suc n - 1 ≡ n = omega arith in
    rw k (sym one ∙ so_far)

pub pack_ends : (count : ℕ → List ℕ → Read ℕ) (make : ℕ → List Data → Data) (depth at end n : ℕ) (bytes after body : List ℕ) (fault : DataFault) → 0 < depth
    → counted_at count end bytes ≡ Ok ((n, body), after) → elements_at (object_within (depth - 1)) n (end - length after) body ≡ Err fault
    → pack_at count make (within depth) at end bytes ≡ Err fault
unfolding pack_at within
pack_ends count make zero at end n bytes after body fault deep counted fails = absurd (omega arith)
pack_ends count make (suc depth) at end n bytes after body fault deep counted fails =
    let k : suc depth - 1 ≡ depth = omega arith in
    let e : elements_at (object_within depth) n (end - length after) body ≡ Err fault = rw k at fails in
    rw (counted, e) refl
