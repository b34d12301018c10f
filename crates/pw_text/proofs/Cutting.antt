-- The first part, up to the first byte that is b.
use Rattle.std.proofs.Common.{◌≡◌, ◌≢◌, ◌<◌, ◌+◌, ◌==◌, ℕ, zero, suc, Bool, true, false, cond, List, [], ◌∷◌, length, get_or, take, drop, refl, arith, eq-eqb, add-one}
use Rattle.std.specs.List.{onto_first}
use Rattle.std.proofs.lemmas.Bool.{ne_eqb}
use Rattle.pw_text.specs.Fields.{parts, ended, without_return, fields_of, onto_fields}

pub cut_none : (b : ℕ) (xs : List ℕ) → ((k : ℕ) → k < length xs → get_or xs k 0 ≢ b) → parts b xs ≡ xs ∷ []
cut_none b [] none = refl
cut_none b (x ∷ xs) none =
    let first : (x == b) ≡ false = ne_eqb x b (none 0 (omega arith)) in
    let rest : parts b xs ≡ xs ∷ [] = cut_none b xs (λ k lt. none (suc k) (omega arith)) in
    rw (first, rest) refl

cut_at : (b : ℕ) (xs : List ℕ) (i : ℕ) → i < length xs → ((k : ℕ) → k < i → get_or xs k 0 ≢ b) → get_or xs i 0 ≡ b → parts b xs ≡ take i xs ∷ parts b (drop (suc i) xs)
cut_at b [] i lt none e = absurd (omega arith)
cut_at b (x ∷ xs) zero lt none e = let first : (x == b) ≡ true = eq-eqb x b e in rw first refl
cut_at b (x ∷ xs) (suc i) lt none e =
    let first : (x == b) ≡ false = ne_eqb x b (none 0 (omega arith)) in
    let rest : parts b xs ≡ take i xs ∷ parts b (drop (suc i) xs) = cut_at b xs i (omega arith) (λ k below. none (suc k) (omega arith)) e in
    rw (first, rest) refl

pub cut_first : (b : ℕ) (xs : List ℕ) (i : ℕ) → i < length xs → ((k : ℕ) → k < i → get_or xs k 0 ≢ b) → get_or xs i 0 ≡ b → parts b xs ≡ take i xs ∷ parts b (drop (i + 1) xs)
cut_first b xs i lt none e = rw add-one (cut_at b xs i lt none e)

-- there is always a part
parts_some : (b : ℕ) (xs : List ℕ) → (y : List ℕ) × (ys : List (List ℕ)) × (parts b xs ≡ y ∷ ys)
parts_some b [] = ([], [], refl)
parts_some b (x ∷ xs) = step (x == b) (parts_some b xs)
  where
    step : (c : Bool) → ((y : List ℕ) × (ys : List (List ℕ)) × (parts b xs ≡ y ∷ ys)) → (y : List ℕ) × (ys : List (List ℕ)) × (cond c ([] ∷ parts b xs) (onto_first x (parts b xs)) ≡ y ∷ ys)
    step true h = ([], parts b xs, refl)
    step false h = (x ∷ h.0, h.1, rw h.2 refl)

pub ended_onto : (b : ℕ) (part xs : List ℕ) → ended (part ∷ parts b xs) ≡ without_return part ∷ ended (parts b xs)
ended_onto b part xs = let h = parts_some b xs in rw h.2 refl

-- # Fields

pub field_some : (part xs rest : List ℕ) → parts 32 xs ≡ part ∷ parts 32 rest → 0 < length part → fields_of xs ≡ onto_fields part (fields_of rest)
field_some [] xs rest e lt = absurd (omega arith)
field_some (b ∷ part) xs rest e lt = rw e refl

pub field_none : (part xs rest : List ℕ) → parts 32 xs ≡ part ∷ parts 32 rest → length part ≡ 0 → fields_of rest ≡ fields_of xs
field_none [] xs rest e lt = rw e refl
field_none (b ∷ part) xs rest e lt = absurd (omega arith)

pub field_last : (part xs : List ℕ) → parts 32 xs ≡ part ∷ [] → fields_of xs ≡ onto_fields part (fields_of [])
field_last [] xs e = rw e refl
field_last (b ∷ part) xs e = rw e refl
