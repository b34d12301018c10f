-- Which bytes numbers and the words of faults have.
use Rattle.std.proofs.Common.{◌<◌, ◌==◌, ◌+◌, ◌/◌, ◌%◌, ℕ, suc, zero, Bool, true, false, cond, List, [], ◌∷◌, length, codes, decimal, refl, arith, nat_lt}
use Rattle.std.specs.Fmt.{digit_glyph, digits, digits_onto}
use Rattle.pw_text.specs.HistoryText.{fault_words}
use Rattle.pw_history.specs.Telling.{Over}
use Rattle.pw_history.proofs.Cuts.{AllOver, over-lower, over-test}

glyph_over : (upper : Bool) (d : ℕ) → 47 < digit_glyph upper d
glyph_over upper d = step (nat_lt d 10) upper
  where
    step : (b u : Bool) → 47 < cond b (48 + d) (cond u (55 + d) (87 + d))
    step true u = omega arith
    step false true = omega arith
    step false false = omega arith

onto_over : (k base : ℕ) (upper : Bool) (n : ℕ) (acc : List ℕ) → Over 47 acc → Over 47 (digits_onto k base upper n acc)
onto_over zero base upper n acc o = o
onto_over (suc k) base upper n acc o = step (n / base == 0) (onto_over k base upper (n / base) (digit_glyph upper (n % base) ∷ acc) (glyph_over upper (n % base), o))
  where
    step : (b : Bool) → Over 47 (digits_onto k base upper (n / base) (digit_glyph upper (n % base) ∷ acc))
        → Over 47 (cond b (digit_glyph upper (n % base) ∷ acc) (digits_onto k base upper (n / base) (digit_glyph upper (n % base) ∷ acc)))
    step true later = (glyph_over upper (n % base), o)
    step false later = later

pub digits_over : (base : ℕ) (upper : Bool) (n : ℕ) → Over 47 (digits base upper n)
unfolding digits
digits_over base upper n = onto_over 64 base upper n [] tt

pub decimal-over : (n : ℕ) → Over 47 (decimal n)
decimal-over n = digits_over 10 false n

pub decimal_word : (n : ℕ) → Over 32 (decimal n)
decimal_word n = over-lower 32 47 (decimal n) (omega arith) (decimal-over n)

onto_some : (k base : ℕ) (upper : Bool) (n : ℕ) (acc : List ℕ) → 0 < length acc → 0 < length (digits_onto k base upper n acc)
onto_some zero base upper n acc some = some
onto_some (suc k) base upper n acc some = step (n / base == 0) (onto_some k base upper (n / base) (digit_glyph upper (n % base) ∷ acc) (omega arith))
  where
    step : (b : Bool) → 0 < length (digits_onto k base upper (n / base) (digit_glyph upper (n % base) ∷ acc))
        → 0 < length (cond b (digit_glyph upper (n % base) ∷ acc) (digits_onto k base upper (n / base) (digit_glyph upper (n % base) ∷ acc)))
    step true later = omega arith
    step false later = later

first_onto : (k base : ℕ) (upper : Bool) (n : ℕ) → 0 < length (digits_onto (suc k) base upper n [])
first_onto k base upper n = step (n / base == 0) (onto_some k base upper (n / base) (digit_glyph upper (n % base) ∷ []) (omega arith))
  where
    step : (b : Bool) → 0 < length (digits_onto k base upper (n / base) (digit_glyph upper (n % base) ∷ []))
        → 0 < length (cond b (digit_glyph upper (n % base) ∷ []) (digits_onto k base upper (n / base) (digit_glyph upper (n % base) ∷ [])))
    step true later = omega arith
    step false later = later

-- a number has a digit
pub decimal_some : (n : ℕ) → 0 < length (decimal n)
unfolding digits
decimal_some n = first_onto 63 10 false n

pub fault_over : (k : ℕ) → AllOver 32 (fault_words k)
fault_over k = (over-test 32 (codes "register") refl, (over-test 32 (codes "fault") refl, (over-test 32 (codes "after") refl, (decimal_word k, tt))))

pub opening-over : (k : ℕ) → AllOver 32 (codes "open" ∷ codes "->" ∷ fault_words k)
opening-over k = (over-test 32 (codes "open") refl, (over-test 32 (codes "->") refl, fault_over k))
