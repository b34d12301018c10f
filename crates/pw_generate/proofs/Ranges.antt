-- Ranges of numbers, and lists that are made of them piece by piece.
use Rattle.std.proofs.Common.{◌≡◌, ◌<◌, ◌≤◌, ◌+◌, ◌-◌, ◌*◌, ℕ, suc, zero, Bool, true, false, List, [], ◌∷◌, ◌++◌, map, length, get_or, refl, ap, sym, ◌∙◌, arith, length-append}
use Rattle.std.specs.Prelude.{filter}
use Rattle.std.specs.List.{AllByRecursion, range_with_len, flat_map}
use Rattle.std.proofs.lemmas.List.{map-append, get_or_append_left, get_or-append_right}
use Rattle.std.proofs.lemmas.List.Elements.{filter-append}

-- a range, and the one that begins at its end
pub range_append : (a m n : ℕ) → range_with_len a (m + n) ≡ range_with_len a m ++ range_with_len (a + m) n
range_append a zero n =
    let e : 0 + n ≡ n = omega arith in
    let f : a + 0 ≡ a = omega arith in
    rw (e, f) refl
range_append a (suc m) n =
    let e : suc m + n ≡ suc (m + n) = omega arith in
    let f : a + suc m ≡ a + 1 + m = omega arith in
    rw (e, f) (ap (λ ks. a ∷ ks) (range_append (a + 1) m n))

-- # Pieces that are equal number by number

pub same_pieces : {A : Type 0} (f g : ℕ → List A) (a n : ℕ) → ((x : ℕ) → a ≤ x → x < a + n → f x ≡ g x)
    → flat_map f (range_with_len a n) ≡ flat_map g (range_with_len a n)
same_pieces f g a zero each = refl
same_pieces f g a (suc n) each = rw (
  each a (omega arith) (omega arith),
  same_pieces f g (a + 1) n
      (λ x l r. each x (omega arith) (omega arith)),
) refl

pub same_map : {A : Type 0} (f g : ℕ → A) (a n : ℕ) → ((x : ℕ) → a ≤ x → x < a + n → f x ≡ g x)
    → map f (range_with_len a n) ≡ map g (range_with_len a n)
same_map f g a zero each = refl
same_map f g a (suc n) each = rw (each a (omega arith) (omega arith), same_map f g (a + 1) n (λ x l r. each x (omega arith) (omega arith)))
    refl

-- # Pieces that are changed

pub map_pieces : {A B : Type 0} (h : A → B) (f : ℕ → List A) (xs : List ℕ) → map h (flat_map f xs) ≡ flat_map (λ x. map h (f x)) xs
map_pieces h f [] = refl
map_pieces h f (x ∷ xs) = map-append h (f x) (flat_map f xs) ∙ ap (λ ys. map h (f x) ++ ys) (map_pieces h f xs)

pub filter_pieces : {A : Type 0} (t : A → Bool) (f : ℕ → List A) (xs : List ℕ)
    → filter t (flat_map f xs) ≡ flat_map (λ x. filter t (f x)) xs
filter_pieces t f [] = refl
filter_pieces t f (x ∷ xs) = filter-append t (f x) (flat_map f xs) ∙ ap (λ ys. filter t (f x) ++ ys) (filter_pieces t f xs)

-- # Pieces of one length

-- ranges of one length, each of which begins at the end of the one before, are one range
pub range_pieces : (m : ℕ) (first : ℕ → ℕ) → ((x : ℕ) → first (x + 1) ≡ first x + m) → (a n : ℕ)
    → flat_map (λ x. range_with_len (first x) m) (range_with_len a n) ≡ range_with_len (first a) (m * n)
range_pieces m first step a zero = let e : m * 0 ≡ 0 = omega arith in rw e refl
range_pieces m first step a (suc n) =
    let e : m * suc n ≡ m + m * n = omega arith in
    rw (e, range_append (first a) m (m * n), range_pieces m first step (a + 1) n, step a) refl

-- an element of a piece
pub get_piece : {A : Type 0} (f : ℕ → List A) (m : ℕ) → ((x : ℕ) → length (f x) ≡ m) → (a n i j : ℕ) (d : A) → i < n → j < m
    → get_or (flat_map f (range_with_len a n)) (m * i + j) d ≡ get_or (f (a + i)) j d
get_piece f m size a zero i j d l less = absurd (omega arith)
get_piece f m size a (suc n) zero j d l less =
    let e : m * 0 + j ≡ j = omega arith in
    let e2 : a + 0 ≡ a = omega arith in
    let s = size a in
    rw (e, e2) (get_or_append_left (f a) (flat_map f (range_with_len (a + 1) n)) d j (omega (arith, s, less)))
get_piece f m size a (suc n) (suc i) j d l less =
    let e : m * suc i + j ≡ m + (m * i + j) = omega arith in
    let e2 : a + suc i ≡ a + 1 + i = omega arith in
    let e3 : m + (m * i + j) - m ≡ m * i + j = omega arith in
    rw (e, e2, get_or-append_right (f a) (flat_map f (range_with_len (a + 1) n)) m (m + (m * i + j)) d (size a) (omega arith), e3)
    (get_piece f m size (a + 1) n i j d (omega arith) less)

pub length_pieces : {A : Type 0} (f : ℕ → List A) (m : ℕ) → ((x : ℕ) → length (f x) ≡ m) → (a n : ℕ)
    → length (flat_map f (range_with_len a n)) ≡ m * n
length_pieces f m size a zero = omega arith
length_pieces f m size a (suc n) =
    let s = size a in
    let more = length_pieces f m size (a + 1) n in
    let whole = length-append (f a) (flat_map f (range_with_len (a + 1) n)) in
    omega (arith, s, more, whole)

pieces_at : {A : Type 0} (f : ℕ → List A) (a i n : ℕ)
    → flat_map f (range_with_len (a + i) n) ≡ flat_map (λ j. f (a + j)) (range_with_len i n)
pieces_at f a i zero = refl
pieces_at f a i (suc n) =
    let e : a + i + 1 ≡ a + (i + 1) = omega arith in
    rw (e, pieces_at f a (i + 1) n) refl

-- pieces by their places from the first one on
pub pieces_from : {A : Type 0} (f : ℕ → List A) (a n : ℕ) → flat_map f (range_with_len a n) ≡ flat_map (λ i. f (a + i)) (range_with_len 0 n)
pieces_from f a n = let e : a ≡ a + 0 = omega arith in ap (λ b. flat_map f (range_with_len b n)) e ∙ pieces_at f a 0 n

map_at : {A : Type 0} (f : ℕ → A) (a i n : ℕ) → map f (range_with_len (a + i) n) ≡ map (λ j. f (a + j)) (range_with_len i n)
map_at f a i zero = refl
map_at f a i (suc n) =
    let e : a + i + 1 ≡ a + (i + 1) = omega arith in
    rw (e, map_at f a (i + 1) n) refl

pub map_from : {A : Type 0} (f : ℕ → A) (a n : ℕ) → map f (range_with_len a n) ≡ map (λ i. f (a + i)) (range_with_len 0 n)
map_from f a n = let e : a ≡ a + 0 = omega arith in ap (λ b. map f (range_with_len b n)) e ∙ map_at f a 0 n

-- # Filters of ranges

pub filter_none : (t : ℕ → Bool) (x m : ℕ) → ((j : ℕ) → j < m → t (x + j) ≡ false) → filter t (range_with_len x m) ≡ []
filter_none t x zero none = refl
filter_none t x (suc m) none =
    let e : x + 0 ≡ x = omega arith in
    let here : t x ≡ false = ap t (sym e) ∙ none 0 (omega arith) in
    rw here (filter_none t (x + 1) m (λ j l. (let f : x + 1 + j ≡ x + suc j = omega arith in ap t f ∙ none (suc j) (omega arith))))

-- only the first is kept
pub filter_first : (t : ℕ → Bool) (x m : ℕ) → t x ≡ true → ((j : ℕ) → j < m → t (x + suc j) ≡ false)
    → filter t (range_with_len x (suc m)) ≡ x ∷ []
filter_first t x m here none = rw here (ap (λ ks. x ∷ ks)
    (filter_none t (x + 1) m (λ j l. (let f : x + 1 + j ≡ x + suc j = omega arith in ap t f ∙ none j l))))

pub filter_every : {X : Type 0} (t : X → Bool) (xs : List X) → AllByRecursion (λ x. t x ≡ true) xs → filter t xs ≡ xs
filter_every t [] all = refl
filter_every t (x ∷ xs) all = rw all.0 (ap (λ ys. x ∷ ys) (filter_every t xs all.1))

pub filter_no : {X : Type 0} (t : X → Bool) (xs : List X) → AllByRecursion (λ x. t x ≡ false) xs → filter t xs ≡ []
filter_no t [] all = refl
filter_no t (x ∷ xs) all = rw all.0 (filter_no t xs all.1)
