-- The lines of a text are its line feeds, and one more where the last has none.
use Rattle.std.proofs.Common.{◌≡◌, ◌∙◌, ◌+◌, ◌-◌, ◌==◌, not, ℕ, suc, Bool, true, false, cond, List, [], ◌∷◌, length, refl, ap, sym, arith}
use Rattle.std.specs.Prelude.{slice_index}
use Rattle.std.specs.List.{count_by}
use Rattle.std.proofs.lemmas.List.Recursion.{is_count_by}
use Rattle.std.proofs.lemmas.List.Splits.{length-slice_split}
use Rattle.pw_text.specs.Fields.{lines_of, parts}
use Rattle.pw_text.specs.inner.Feeds.{is_open}

abbrev one_if : Bool → ℕ
one_if b = cond b 1 0

-- how many line feeds there are, byte by byte
feeds : List ℕ → ℕ
feeds [] = 0
feeds (b ∷ bytes) = cond (b == 10) (1 + feeds bytes) (feeds bytes)

feeds_are : (bytes : List ℕ) → feeds bytes ≡ count_by (λ b. b == 10) bytes
unfolding feeds
feeds_are bytes = is_count_by feeds (λ b. b == 10) refl (λ x xs. refl) bytes

-- a list of parts that isn't empty
record Parted (bytes : List ℕ) : Type 0 where
  first : List ℕ
  more : List (List ℕ)
  is : parts 10 bytes ≡ first ∷ more

parted : (bytes : List ℕ) → Parted bytes
parted bytes = by (parts 10 bytes) refl
  where
    by : (ps : List (List ℕ)) → parts 10 bytes ≡ ps → Parted bytes
    by [] e = let count = length-slice_split (λ b. b == 10) bytes in let none = ap length e in absurd (omega (arith, count, none))
    by (p ∷ ps) e = record { first = p; more = ps; is = e }

-- a byte at the front of a line that has one adds none
longer : (b c : ℕ) (bytes : List ℕ) → (b == 10) ≡ false → length (lines_of (b ∷ c ∷ bytes)) ≡ length (lines_of (c ∷ bytes))
longer b c bytes h = let p = parted bytes in more p.first p.more p.is (c == 10) refl
  where
    more : (f : List ℕ) (ps : List (List ℕ)) → parts 10 bytes ≡ f ∷ ps → (d : Bool) → (c == 10) ≡ d → length (lines_of (b ∷ c ∷ bytes)) ≡ length (lines_of (c ∷ bytes))
    more f [] e true g = rw (h, g, e) refl
    more f (q ∷ ps) e true g = rw (h, g, e) refl
    more f [] e false g = rw (h, g, e) refl
    more f (q ∷ ps) e false g = rw (h, g, e) refl

-- a line feed ends a line
one_more : (b : ℕ) (bytes : List ℕ) → (b == 10) ≡ true → length (lines_of (b ∷ bytes)) ≡ suc (length (lines_of bytes))
one_more b bytes h = let p = parted bytes in by p.first p.more p.is
  where
    by : (f : List ℕ) (ps : List (List ℕ)) → parts 10 bytes ≡ f ∷ ps → length (lines_of (b ∷ bytes)) ≡ suc (length (lines_of bytes))
    by f ps e = rw (h, e) refl

-- the last line is that of the rest
open_more : (b c : ℕ) (bytes : List ℕ) → is_open (b ∷ c ∷ bytes) ≡ is_open (c ∷ bytes)
open_more b c bytes =
    let long : length (b ∷ c ∷ bytes) - 1 ≡ suc (length bytes) = omega arith in
    let short : length (c ∷ bytes) - 1 ≡ length bytes = omega arith in
    ap (λ n. not (slice_index (b ∷ c ∷ bytes) n == 10)) long ∙ sym (ap (λ n. not (slice_index (c ∷ bytes) n == 10)) short)

lines_counted : (bytes : List ℕ) → length (lines_of bytes) ≡ feeds bytes + one_if (is_open bytes)
unfolding feeds
lines_counted [] = refl
lines_counted (b ∷ []) = by (b == 10) refl
  where
    by : (d : Bool) → (b == 10) ≡ d → length (lines_of (b ∷ [])) ≡ feeds (b ∷ []) + one_if (is_open (b ∷ []))
    by true h = rw h refl
    by false h = rw h refl
lines_counted (b ∷ c ∷ bytes) = rw (open_more b c bytes) (by (b == 10) refl (lines_counted (c ∷ bytes)))
  where
    by : (d : Bool) → (b == 10) ≡ d → length (lines_of (c ∷ bytes)) ≡ feeds (c ∷ bytes) + one_if (is_open (c ∷ bytes))
        → length (lines_of (b ∷ c ∷ bytes)) ≡ feeds (b ∷ c ∷ bytes) + one_if (is_open (c ∷ bytes))
    by true h ih =
        let more = one_more b (c ∷ bytes) h in
        let fed : feeds (b ∷ c ∷ bytes) ≡ 1 + feeds (c ∷ bytes) = rw h refl in
        omega (arith, more, fed, ih)
    by false h ih =
        let same = longer b c bytes h in
        let fed : feeds (b ∷ c ∷ bytes) ≡ feeds (c ∷ bytes) = rw h refl in
        omega (arith, same, fed, ih)

pub lines_open : (bytes : List ℕ) → is_open bytes ≡ true → count_by (λ b. b == 10) bytes + 1 ≡ length (lines_of bytes)
lines_open bytes e =
    let are = feeds_are bytes in
    let all = rw e at (lines_counted bytes) in
    omega (arith, are, all)

pub lines_closed : (bytes : List ℕ) → is_open bytes ≡ false → count_by (λ b. b == 10) bytes ≡ length (lines_of bytes)
lines_closed bytes e =
    let are = feeds_are bytes in
    let all = rw e at (lines_counted bytes) in
    omega (arith, are, all)
