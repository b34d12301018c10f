-- Lists joined by a byte that is smaller than all of theirs tell them.
use Rattle.std.proofs.Common.{◌≡◌, ◌<◌, ◌≤◌, ℕ, true, List, [], ◌∷◌, ◌++◌, refl, ap, ap₂, sym, ◌∙◌, arith, append_assoc, nat_lt, ltb-true}
use Rattle.std.specs.List.{AllByRecursion, flat_map, join_with_byte, list_all}
use Rattle.std.proofs.lemmas.Bool.{and_parts}
use Rattle.pw_history.specs.Telling.{Over}
use Rattle.pw_history.proofs.Each.{each_append}

abbrev pub AllOver : ℕ → List (List ℕ) → Type 0
AllOver c ws = AllByRecursion (Over c) ws

pub over-test : (c : ℕ) (w : List ℕ) → list_all (nat_lt c) w ≡ true → Over c w
over-test c [] e = tt
over-test c (b ∷ w) e = let both = and_parts (nat_lt c b) (list_all (nat_lt c) w) e in (ltb-true c b both.0, over-test c w both.1)

pub all_over-test : (c : ℕ) (ws : List (List ℕ)) → list_all (list_all (nat_lt c)) ws ≡ true → AllOver c ws
all_over-test c [] e = tt
all_over-test c (w ∷ ws) e = let both = and_parts (list_all (nat_lt c) w) (list_all (list_all (nat_lt c)) ws) e in (over-test c w both.0, all_over-test c ws both.1)

pub over-lower : (c d : ℕ) (w : List ℕ) → c ≤ d → Over d w → Over c w
over-lower c d [] le o = tt
over-lower c d (b ∷ w) le o = let lt = o.0 in (omega arith, over-lower c d w le o.1)

-- # Cutting at the byte

cut : (c : ℕ) (a b x y : List ℕ) → Over c a → Over c b → a ++ c ∷ x ≡ b ++ c ∷ y → (a ≡ b) × (x ≡ y)
cut c [] [] x y o p e = (refl, cc)
cut c [] (h ∷ b) x y o p e = let lt = p.0 in let same : c ≡ h = cc in absurd (omega arith)
cut c (h ∷ a) [] x y o p e = let lt = o.0 in let same : h ≡ c = cc in absurd (omega arith)
cut c (h ∷ a) (k ∷ b) x y o p e =
    let head : h ≡ k = cc in
    let tails : a ++ c ∷ x ≡ b ++ c ∷ y = cc in
    let r = cut c a b x y o.1 p.1 tails in
    (ap₂ (λ (m : ℕ) (l : List ℕ). m ∷ l) head r.0, r.1)

nowhere : (c : ℕ) (a b x : List ℕ) → Over c a → a ≡ b ++ c ∷ x → ⊥
nowhere c [] [] x o e = cc
nowhere c [] (h ∷ b) x o e = cc
nowhere c (h ∷ a) [] x o e = let lt = o.0 in let same : h ≡ c = cc in absurd (omega arith)
nowhere c (h ∷ a) (k ∷ b) x o e = nowhere c a b x o.1 (cc)

-- # Each ended by the byte

pub ended-same : (c : ℕ) (xs ys : List (List ℕ)) → AllOver c xs → AllOver c ys → flat_map (λ l. l ++ c ∷ []) xs ≡ flat_map (λ l. l ++ c ∷ []) ys → xs ≡ ys
ended-same c [] [] o p e = refl
ended-same c [] (y ∷ ys) o p e = absurd (nowhere c [] y (flat_map (λ l. l ++ c ∷ []) ys) tt (e ∙ append_assoc y (c ∷ []) (flat_map (λ l. l ++ c ∷ []) ys)))
ended-same c (x ∷ xs) [] o p e = absurd (nowhere c [] x (flat_map (λ l. l ++ c ∷ []) xs) tt (sym e ∙ append_assoc x (c ∷ []) (flat_map (λ l. l ++ c ∷ []) xs)))
ended-same c (x ∷ xs) (y ∷ ys) o p e =
    let r = cut c x y (flat_map (λ l. l ++ c ∷ []) xs) (flat_map (λ l. l ++ c ∷ []) ys) o.0 p.0
    (sym (append_assoc x (c ∷ []) (flat_map (λ l. l ++ c ∷ []) xs)) ∙ e ∙ append_assoc y (c ∷ []) (flat_map (λ l. l ++ c ∷ []) ys)) in
    ap₂ (λ (l : List ℕ) (ls : List (List ℕ)). l ∷ ls) r.0 (ended-same c xs ys o.1 p.1 r.1)

-- # Joined by the byte

pub joined-same : (c : ℕ) (x y : List ℕ) (xs ys : List (List ℕ)) → AllOver c (x ∷ xs) → AllOver c (y ∷ ys) → join_with_byte c (x ∷ xs) ≡ join_with_byte c (y ∷ ys) → x ∷ xs ≡ y ∷ ys
joined-same c x y [] [] o p e = ap (λ l. l ∷ []) e
joined-same c x y [] (z ∷ ys) o p e = absurd (nowhere c x y (join_with_byte c (z ∷ ys)) o.0 e)
joined-same c x y (z ∷ xs) [] o p e = absurd (nowhere c y x (join_with_byte c (z ∷ xs)) p.0 (sym e))
joined-same c x y (z ∷ xs) (w ∷ ys) o p e =
    let r = cut c x y (join_with_byte c (z ∷ xs)) (join_with_byte c (w ∷ ys)) o.0 p.0 e in
    ap₂ (λ (l : List ℕ) (ls : List (List ℕ)). l ∷ ls) r.0 (joined-same c z w xs ys o.1 p.1 r.1)

-- what is over the lower of two is so when joined
pub joined-over : (d c : ℕ) (ws : List (List ℕ)) → d < c → AllOver c ws → Over d (join_with_byte c ws)
joined-over d c [] lt o = tt
joined-over d c (w ∷ []) lt o = over-lower d c w (omega arith) o.0
joined-over d c (w ∷ v ∷ ws) lt o = each_append (λ b. d < b) w (c ∷ join_with_byte c (v ∷ ws)) (over-lower d c w (omega arith) o.0) (lt, joined-over d c (v ∷ ws) lt o.1)
