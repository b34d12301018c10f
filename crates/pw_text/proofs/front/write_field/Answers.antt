use Rattle.std.proofs.Common.{◌≡◌, ◌∙◌, ◌≤◌, ◌<◌, ◌+◌, ◌/◌, ◌%◌, ◌∷◌, ◌++◌, ℕ, List, [], decimal, take, refl, ap, append_assoc, arith}
use Rattle.std.proofs.lemmas.Fmt.{decimal_digit}
use Rattle.pw_text.proofs.front.write_field.Goals as goal
use Rattle.pw_text.proofs.Shorts.{three, two}

-- digits behind what stands there, and a comma
one_digit : (before : List ℕ) (n d : ℕ) → n < 10 → d ≡ 48 + n → before ++ (d ∷ 44 ∷ []) ≡ before ++ (decimal n ++ (44 ∷ []))
one_digit before n d lt is = rw (is, decimal_digit n lt) refl

two_digits : (before : List ℕ) (n d e : ℕ) → 10 ≤ n → n < 100 → d ≡ 48 + n / 10 → e ≡ 48 + n % 10
    → (before ++ (d ∷ [])) ++ (e ∷ 44 ∷ []) ≡ before ++ (decimal n ++ (44 ∷ []))
two_digits before n d e from to is too = rw (is, too, two n from to) (append_assoc before ((48 + n / 10) ∷ []) ((48 + n % 10) ∷ 44 ∷ []))

three_digits : (before : List ℕ) (n d e f : ℕ) → 100 ≤ n → n < 1000 → d ≡ 48 + n / 10 / 10 → e ≡ 48 + n / 10 % 10 → f ≡ 48 + n % 10
    → (before ++ (d ∷ e ∷ [])) ++ (f ∷ 44 ∷ []) ≡ before ++ (decimal n ++ (44 ∷ []))
three_digits before n d e f from to is too last =
    rw (is, too, last, three n from to) (append_assoc before ((48 + n / 10 / 10) ∷ (48 + n / 10 % 10) ∷ []) ((48 + n % 10) ∷ 44 ∷ []))

pub returns-then-number-lt10-clause-text : goal.returns-then-number-lt10-clause-text
returns-then-number-lt10-clause-text c =
    let number = c.from-number.ensures in
    rw c.write_two.ensures.place (c.write_two.ensures.text
    ∙ one_digit (take c.args.at c.args.text.now) c.args.field c.digit.result (rw number at c.if-number-lt10.true) (rw number at c.digit.ensures))

pub returns-then-number-lt100-clause-text : goal.returns-then-number-lt100-clause-text
returns-then-number-lt100-clause-text c =
    let number = c.from-number.ensures in
    let before = take c.args.at c.args.text.now in
    let d = c.digit-then-number-lt100.result in
    let e = c.digit-then-number-lt100-2.result in
    let next : take c.write_byte-next.result c.write_byte-next.new.text ≡ before ++ (d ∷ []) = rw c.write_byte-next.ensures.place c.write_byte-next.ensures.text in
    rw c.write_two-then-number-lt100.ensures.place (c.write_two-then-number-lt100.ensures.text ∙ ap (λ (l : List ℕ). l ++ (e ∷ 44 ∷ [])) next
    ∙ two_digits before c.args.field d e (rw number at c.if-number-lt10.false) (rw number at c.if-number-lt100.true) (rw number at c.digit-then-number-lt100.ensures)
    (rw number at c.digit-then-number-lt100-2.ensures))

pub returns-clause-text : goal.returns-clause-text
returns-clause-text c =
    let number = c.from-number.ensures in
    let before = take c.args.at c.args.text.now in
    let fits = c.ranges.field.fits in
    let d = c.digit-2.result in
    let e = c.digit-3.result in
    let f = c.digit-4.result in
    let next : take c.write_two-next.result c.write_two-next.new.text ≡ before ++ (d ∷ e ∷ []) = rw c.write_two-next.ensures.place c.write_two-next.ensures.text in
    rw c.write_two-2.ensures.place (c.write_two-2.ensures.text ∙ ap (λ (l : List ℕ). l ++ (f ∷ 44 ∷ [])) next
    ∙ three_digits before c.args.field d e f (rw number at c.if-number-lt100.false) (omega (arith, fits)) (rw number at c.digit-2.ensures)
    (rw number at c.digit-3.ensures) (rw number at c.digit-4.ensures))
