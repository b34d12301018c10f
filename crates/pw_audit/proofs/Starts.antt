-- Texts that begin with others.
use Rattle.std.proofs.Common.{◌≡◌, ◌≢◌, ◌<◌, ◌+◌, ◌∙◌, ℕ, zero, suc, true, false, List, [], ◌∷◌, ◌++◌, take, drop, length, get_or, refl, ap, sym, arith, Option, Some, None, inl, inr, take-append-drop}
use denote.Ref.{Bor}
use Rattle.std.specs.Prelude.{MatchOption, bytes_eq}
use Rattle.std.proofs.Math.Seq.{get_or-append_seam, take-append_seam}
use Rattle.std.proofs.lemmas.Bool.{cases_order}
use Rattle.std.proofs.lemmas.List.{get_or_append_left, length-append}
use Rattle.std.proofs.lemmas.Slice.Eq.{bytes_eq-Decides}
use Rattle.pw_history.specs.Asked.{Begins}
use Rattle.pw_audit.specs.inner.Looking.{IsWord}

-- # Stripping

differ : false ≡ true → ⊥
differ e = cc

pub strips : (r : Option (Bor (List ℕ))) (text left : List ℕ)
    → MatchOption r (bytes_eq (take (length text) left) text ≡ false)
    (λ x. (bytes_eq (take (length text) left) text ≡ true) × (x.now ≡ drop (length text) left) × (length x.now + length text ≡ length left))
    → MatchOption r (Begins text left → ⊥) (λ rest. left ≡ text ++ rest.now)
strips None text left e = λ b.
    let front : take (length text) left ≡ text = ap (take (length text)) b.is ∙ take-append_seam text b.rest in
    differ (sym e ∙ (bytes_eq-Decides (take (length text) left) text).1 front)
strips (Some x) text left h =
    let front : take (length text) left ≡ text = (bytes_eq-Decides (take (length text) left) text).0 h.0 in
    sym (take-append-drop (length text) left) ∙ ap (λ (l : List ℕ). l ++ drop (length text) left) front ∙ ap (λ (l : List ℕ). text ++ l) (sym h.1)

-- # Words

word_byte : (w : List ℕ) (i : ℕ) → IsWord w → i < length w → 32 < get_or w i 0
word_byte [] i o lt = absurd (omega arith)
word_byte (b ∷ w) zero o lt = o.0
word_byte (b ∷ w) (suc i) o lt = word_byte w i o.1 (omega arith)

no_space : (w rest : List ℕ) (i : ℕ) → IsWord w → i < length w → get_or (w ++ 32 ∷ rest) i 0 ≢ 32
no_space w rest i o lt e =
    let over = word_byte w i o lt in
    let same : get_or (w ++ 32 ∷ rest) i 0 ≡ get_or w i 0 = get_or_append_left w (32 ∷ rest) 0 i lt in
    absurd (omega (arith, over, same, e))

drop_behind : (w rest : List ℕ) → drop (length w + 1) (w ++ 32 ∷ rest) ≡ rest
drop_behind [] rest = refl
drop_behind (b ∷ w) rest = let n : length (b ∷ w) + 1 ≡ suc (length w + 1) = omega arith in ap (λ (k : ℕ). drop k (b ∷ (w ++ 32 ∷ rest))) n ∙ drop_behind w rest

pub space_at : (bytes : List ℕ) (i : ℕ) (w rest : List ℕ) → IsWord w → bytes ≡ w ++ 32 ∷ rest → ((k : ℕ) → k < i → get_or bytes k 0 ≢ 32) → get_or bytes i 0 ≡ 32 → i ≡ length w
space_at bytes i w rest o e before at = elim (cases_order i (length w)) [
  | inl same ↦ same
  | inr order ↦ elim order [
    | inl lt ↦ absurd (no_space w rest i o lt (ap (λ (l : List ℕ). get_or l i 0) (sym e) ∙ at))
    | inr gt ↦ absurd (before (length w) gt (ap (λ (l : List ℕ). get_or l (length w) 0) e ∙ get_or-append_seam w 32 rest 0))
  ]
]

pub word_front : (bytes : List ℕ) (i : ℕ) (w rest : List ℕ) → bytes ≡ w ++ 32 ∷ rest → i ≡ length w → take i bytes ≡ w
word_front bytes i w rest e n = ap (λ (k : ℕ). take k bytes) n ∙ ap (take (length w)) e ∙ take-append_seam w (32 ∷ rest)

pub word_back : (bytes : List ℕ) (i : ℕ) (w rest : List ℕ) → bytes ≡ w ++ 32 ∷ rest → i ≡ length w → drop (i + 1) bytes ≡ rest
word_back bytes i w rest e n = ap (λ (k : ℕ). drop (k + 1) bytes) n ∙ ap (drop (length w + 1)) e ∙ drop_behind w rest

pub space_somewhere : (bytes w rest : List ℕ) → bytes ≡ w ++ 32 ∷ rest → ((k : ℕ) → k < length bytes → get_or bytes k 0 ≢ 32) → ⊥
space_somewhere bytes w rest e none =
    let size : length bytes ≡ length w + length (32 ∷ rest) = ap length e ∙ length-append w (32 ∷ rest) in
    none (length w) (omega arith) (ap (λ (l : List ℕ). get_or l (length w) 0) e ∙ get_or-append_seam w 32 rest 0)
