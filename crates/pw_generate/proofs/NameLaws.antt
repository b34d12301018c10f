-- The names of containers and processors are segments, and tell their numbers.
use Rattle.std.proofs.Common.{◌≡◌, ◌<◌, ◌/◌, ◌%◌, ℕ, true, List, get_or, refl, ap, arith}
use Rattle.std.specs.Prelude.{IsTrue}
use Rattle.std.specs.Fmt.{digit_glyph}
use Rattle.std.proofs.lemmas.Bool.Decides.{nat_tests}
use Rattle.aml_data.specs.Segment.{IsSegment, is_word}
use Rattle.pw_generate.specs.Names.{container_name, cpu_name, hex_digit}

-- # Digits

glyph_word : (d : ℕ) → d < 16 → IsTrue (is_word (digit_glyph true d))
glyph_word d lt = grind (arith, nat_tests)

glyph_one : (a b : ℕ) → a < 16 → b < 16 → digit_glyph true a ≡ digit_glyph true b → a ≡ b
glyph_one a b x y e = grind (arith, nat_tests)

pub digit_word : (n : ℕ) → IsTrue (is_word (hex_digit n))
digit_word n = glyph_word (n % 16) (omega arith)

digit_one : (m n : ℕ) → hex_digit m ≡ hex_digit n → m % 16 ≡ n % 16
digit_one m n e = glyph_one (m % 16) (n % 16) (omega arith) (omega arith) e

-- # Names

pub container_segment : (c : ℕ) → IsSegment (container_name c)
container_segment c = (refl, refl, digit_word (c / 16), digit_word c)

pub cpu_segment : (p : ℕ) → IsSegment (cpu_name p)
cpu_segment p = (refl, digit_word (p / 256), digit_word (p / 16), digit_word p)

-- the byte at a place of a name
abbrev byte : ℕ → List ℕ → ℕ
byte i bytes = get_or bytes i 0

pub container_one : (c d : ℕ) → c < 256 → d < 256 → container_name c ≡ container_name d → c ≡ d
container_one c d x y e =
    let high = digit_one (c / 16) (d / 16) (ap (byte 2) e) in
    let low = digit_one c d (ap (byte 3) e) in
    omega arith

pub cpu_one : (p q : ℕ) → p < 4096 → q < 4096 → cpu_name p ≡ cpu_name q → p ≡ q
cpu_one p q x y e =
    let high = digit_one (p / 256) (q / 256) (ap (byte 1) e) in
    let middle = digit_one (p / 16) (q / 16) (ap (byte 2) e) in
    let low = digit_one p q (ap (byte 3) e) in
    omega arith
