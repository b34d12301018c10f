use Rattle.std.proofs.Common.{◌≡◌, ◌+◌, ◌/◌, ◌%◌, ◌<◌, ◌≤◌, ◌∙◌, ◌∷◌, ◌++◌, [], ℕ, List, ap, append_assoc, arith, decimal, length, refl, slice_set, sym, take}
use Rattle.std.proofs.lemmas.Fmt.{decimal_digit, decimal_step}
use Rattle.std.proofs.lemmas.Grind.{take-set_at}
use Rattle.std.proofs.lemmas.List.{length-set}
use Rattle.pw_show.specs.inner.Pieces.{comma_number}
use Rattle.pw_show.proofs.json_buffers.write_number.Goals as goal

-- a digit
abbrev digit : ℕ → List ℕ
digit n = (48 + n) ∷ []

one_digit : (n : ℕ) → n < 10 → 44 ∷ (48 + n % 10) ∷ [] ≡ comma_number n
one_digit n h = ap (λ l. 44 ∷ l) (ap digit {x = n % 10} {y = n} (omega arith) ∙ sym (decimal_digit n h))

two_digits : (n : ℕ) → 10 ≤ n → n < 100 → 44 ∷ (48 + n / 10 % 10) ∷ (48 + n % 10) ∷ [] ≡ comma_number n
two_digits n low high =
    let tens : decimal (n / 10) ≡ digit (n / 10 % 10) =
    decimal_digit (n / 10) (omega arith) ∙ ap digit {x = n / 10} {y = n / 10 % 10} (omega arith) in
    ap (λ l. 44 ∷ l) (sym (decimal_step n low (omega arith) ∙ ap (λ (l : List ℕ). l ++ digit (n % 10)) tens))

three_digits : (n : ℕ) → 100 ≤ n → n < 256 → 44 ∷ (48 + n / 100) ∷ (48 + n / 10 % 10) ∷ (48 + n % 10) ∷ [] ≡ comma_number n
three_digits n low high =
    let hundreds : decimal (n / 10 / 10) ≡ digit (n / 100) =
    decimal_digit (n / 10 / 10) (omega arith) ∙ ap digit {x = n / 10 / 10} {y = n / 100} (omega arith) in
    let tens : decimal (n / 10) ≡ digit (n / 100) ++ digit (n / 10 % 10) =
    decimal_step (n / 10) (omega arith) (omega arith) ∙ ap (λ (l : List ℕ). l ++ digit (n / 10 % 10)) hundreds in
    ap (λ l. 44 ∷ l) (sym (decimal_step n (omega arith) (omega arith) ∙ ap (λ (l : List ℕ). l ++ digit (n % 10)) tens))

-- # Where they are written

-- one more byte stands behind those before it
stored : (text done : List ℕ) (at n byte : ℕ) → take at text ≡ done → n ≡ at + 1 → at < length text → take n (slice_set text at byte) ≡ done ++ byte ∷ []
stored text done at n byte is next within = take-set_at text at n byte next within ∙ ap (λ (l : List ℕ). l ++ byte ∷ []) is

two_stored : (text : List ℕ) (at a b : ℕ) → at + 4 ≤ length text
    → take (at + 2) (slice_set (slice_set text at a) (at + 1) b) ≡ take at text ++ a ∷ b ∷ []
two_stored text at a b room =
    stored (slice_set text at a) _ (at + 1) (at + 2) b (stored text _ at (at + 1) a refl refl (omega (arith, room))) (omega arith)
    (omega (arith, room, length-set text at a))
    ∙ append_assoc (take at text) (a ∷ []) (b ∷ [])

three_stored : (text : List ℕ) (at a b c : ℕ) → at + 4 ≤ length text
    → take (at + 3) (slice_set (slice_set (slice_set text at a) (at + 1) b) (at + 2) c) ≡ take at text ++ a ∷ b ∷ c ∷ []
three_stored text at a b c room =
    let two = slice_set (slice_set text at a) (at + 1) b in
    stored two _ (at + 2) (at + 3) c (two_stored text at a b room) (omega arith)
    (omega (arith, room, length-set text at a, length-set (slice_set text at a) (at + 1) b))
    ∙ append_assoc (take at text) (a ∷ b ∷ []) (c ∷ [])

four_stored : (text : List ℕ) (at a b c d : ℕ) → at + 4 ≤ length text
    → take (at + 4) (slice_set (slice_set (slice_set (slice_set text at a) (at + 1) b) (at + 2) c) (at + 3) d) ≡ take at text ++ a ∷ b ∷ c ∷ d ∷ []
four_stored text at a b c d room =
    let two = slice_set (slice_set text at a) (at + 1) b in
    stored (slice_set two (at + 2) c) _ (at + 3) (at + 4) d (three_stored text at a b c room) (omega arith)
    (omega (arith, room, length-set text at a, length-set (slice_set text at a) (at + 1) b, length-set two (at + 2) c))
    ∙ append_assoc (take at text) (a ∷ b ∷ c ∷ []) (d ∷ [])

pub returns-then-byte-lt10-clause-text : goal.returns-then-byte-lt10-clause-text
returns-then-byte-lt10-clause-text c =
    let n = c.args.byte in
    two_stored c.args.text.now c.args.at 44 (48 + n % 10) (omega (arith, c.requires, c.told-text))
    ∙ ap (λ l. take c.args.at c.args.text.now ++ l) (one_digit n c.if-byte-lt10.true)

pub returns-then-byte-lt100-clause-text : goal.returns-then-byte-lt100-clause-text
returns-then-byte-lt100-clause-text c =
    let n = c.args.byte in
    three_stored c.args.text.now c.args.at 44 (48 + n / 10 % 10) (48 + n % 10) (omega (arith, c.requires, c.told-text))
    ∙ ap (λ l. take c.args.at c.args.text.now ++ l) (two_digits n c.if-byte-lt10.false c.if-byte-lt100.true)

pub returns-clause-text : goal.returns-clause-text
returns-clause-text c =
    let n = c.args.byte in
    four_stored c.args.text.now c.args.at 44 (48 + n / 100) (48 + n / 10 % 10) (48 + n % 10) (omega (arith, c.requires, c.told-text))
    ∙ ap (λ l. take c.args.at c.args.text.now ++ l) (three_digits n c.if-byte-lt100.false (omega (arith, c.ranges.byte.fits)))
