-- Paths, segment by segment.
use Rattle.std.proofs.Common.{◌≡◌, ◌+◌, ◌-◌, ◌*◌, ◌≤◌, ℕ, List, [], ◌∷◌, ◌++◌, suc, length, take, drop, sym, ap, arith, append_assoc, get_or}
use Rattle.std.specs.List.{flat_map, join_with_byte}
use Rattle.std.proofs.lemmas.List.{drop-drop}
use Rattle.std.proofs.Math.Seq.{take-length}
use Rattle.pw_text.proofs.Joined.{join-flat_map}

abbrev pub led : List (List ℕ) → List ℕ
led segs = flat_map (λ seg. 46 ∷ seg) segs

-- the rest of segments, as a pattern has it
rest-is : (s : List ℕ) (ss : List (List ℕ)) → take (length (s ∷ ss) - 1) (drop 1 (s ∷ ss)) ≡ ss
rest-is s ss = let one : suc (length ss) - 1 ≡ length ss = omega arith in rw one (take-length ss)

pub led_length : (segs : List (List ℕ)) → 1 ≤ length segs → length (led segs) ≡ suc (length (join_with_byte 46 segs))
led_length [] some = absurd (omega (arith, some))
led_length (s ∷ ss) some = ap (λ (l : List ℕ). suc (length l)) (sym (join-flat_map 46 s ss))

-- segments with a dot before each are those joined by dots, behind one
pub led-joined : (segs : List (List ℕ)) → 1 ≤ length segs → led segs ≡ 46 ∷ join_with_byte 46 segs
led-joined [] some = absurd (omega (arith, some))
led-joined (s ∷ ss) some = ap (λ (l : List ℕ). 46 ∷ l) (sym (join-flat_map 46 s ss))

-- a segment behind a byte, and the others behind dots
pub led-next : (lead : ℕ) (segs : List (List ℕ)) (x : List ℕ) (out tail : List ℕ) → 1 ≤ length segs → x ≡ get_or segs 0 x → tail ≡ drop 5 out
    → (lead ∷ x) ++ (led (take (length segs - 1) (drop 1 segs)) ++ drop (5 * length (take (length segs - 1) (drop 1 segs))) tail)
    ≡ (lead ∷ join_with_byte 46 segs) ++ drop (5 * length segs) out
led-next lead [] x out tail some is back = absurd (omega (arith, some))
led-next lead (s ∷ ss) x out tail some is back =
    let five : 5 + 5 * length ss ≡ 5 * suc (length ss) = omega arith in
    rw (rest-is s ss, is, back, drop-drop (5 * length ss) 5 out, five, join-flat_map 46 s ss)
    (sym (append_assoc (lead ∷ s) (led ss) (drop (5 * suc (length ss)) out)))
