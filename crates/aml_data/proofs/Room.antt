-- Parts that are put into a room one before the other.
use Rattle.std.proofs.Common.{◌≡◌, ◌+◌, ◌-◌, ◌<◌, ◌≤◌, ◌^◌, ℕ, zero, suc, List, [], ◌∷◌, ◌++◌, map, take, drop, get_or, length, refl, sym, ap, subst, ◌∙◌, append_assoc, length-append, arith}
use Rattle.std.proofs.lemmas.List.{take-append-drop, take-append-le, take-take, drop_at, length-take, append-nil}
use Rattle.std.proofs.Math.Seq.{take-length}
use Rattle.std.proofs.Math.ListN.{drop_of_length-le}
use Rattle.aml_data.specs.declared.data.Data.TheVariants.{Package}
use Rattle.aml_data.specs.declared.data.Data.{Data}
use Rattle.aml_data.specs.Objects.{Buffer, VarPackage}
use Rattle.aml_data.specs.Segment.{joined}
use Rattle.aml_data.specs.Written.{written, written_constant, written_length, sized}
use Rattle.aml_data.specs.inner.Filling.{Fills}
use Rattle.aml_data.proofs.WrittenLengths.{content_fits, length-Buffer, length-Package, length-VarPackage}

pub Fills-nothing : (room : List ℕ) (end : ℕ) → end ≤ length room → Fills room room end end []
Fills-nothing room end le = record { within = le; reach = omega arith; is = sym (take-append-drop end room) }

-- one part, and then another before it
pub Fills-then : (old mid new : List ℕ) (start seam end : ℕ) (a b : List ℕ) → Fills old mid seam end b → Fills mid new start seam a → Fills old new start end (a ++ b)
Fills-then old mid new start seam end a b p q =
    let inside = p.within in
    let last = p.reach in
    let first = q.reach in
    let room = length-take seam old in
    let front_len : length (take seam old) ≡ seam = omega arith in
    let front : take start mid ≡ take start old =
    ap (take start) p.is ∙ take-append-le start (take seam old) (b ++ drop end old) (omega arith) ∙ take-take start seam old (omega arith) in
    let back : drop seam mid ≡ b ++ drop end old = ap (drop seam) p.is ∙ drop_at (take seam old) (b ++ drop end old) seam front_len in
    record {
      within = inside;
      reach = omega (arith, length-append a b);
      is = q.is ∙ ap (λ (t : List ℕ). t ++ (a ++ drop seam mid)) front ∙ ap (λ (t : List ℕ). take start old ++ (a ++ t)) back
          ∙ ap (λ (t : List ℕ). take start old ++ t) (sym (append_assoc a b (drop end old)));
    }

pub ruleset filling = (Fills-then)

-- a room that was added behind what stood there holds the bytes that were put into all of it
pub Fills-grown : (old room new : List ℕ) (start end : ℕ) (more bytes : List ℕ) → room ≡ old ++ more → length room ≡ end → end ≡ length old + length bytes → Fills room new start end bytes
    → new ≡ old ++ bytes
Fills-grown old room new start end more bytes grown all enough p =
    let reach = p.reach in
    let begins : start ≡ length old = omega arith in
    let front : take start room ≡ old = ap (take start) grown ∙ rw begins (take-append-le (length old) old more (omega arith) ∙ take-length old) in
    let le : length room ≤ end = omega arith in
    let none : drop end room ≡ [] = drop_of_length-le room le in
    p.is ∙ ap (λ (t : List ℕ). t ++ (bytes ++ drop end room)) front ∙ ap (λ (t : List ℕ). old ++ (bytes ++ t)) none ∙ ap (λ (t : List ℕ). old ++ t) (append-nil bytes)

-- a lead byte with a PkgLength, before the two parts that it counts
pub Fills-sized : (a b c d : List ℕ) (start head middle end lead n : ℕ) (first rest : List ℕ) → n ≡ length (first ++ rest) → Fills a b middle end rest → Fills b c head middle first
    → Fills c d start head (lead ∷ written_length n) → Fills a d start end (lead ∷ sized (first ++ rest))
Fills-sized a b c d start head middle end lead n first rest e p q r =
    let inner = Fills-then a b c head middle end first rest p q in
    let all = Fills-then a c d start head end (lead ∷ written_length n) (first ++ rest) inner r in
    let same : lead ∷ written_length n ++ (first ++ rest) ≡ lead ∷ sized (first ++ rest) = ap (λ k. lead ∷ written_length k ++ (first ++ rest)) e in
    subst (λ t. Fills a d start end t) same all

-- ---- lists from their end on

pub joined_map-drop : {X : Type 0} (f : X → List ℕ) (k : ℕ) (xs : List X) (x : X) → k < length xs → x ≡ get_or xs k x
    → joined (map f (drop k xs)) ≡ f x ++ joined (map f (drop (k + 1) xs))
joined_map-drop f k [] x h e = absurd (omega arith)
joined_map-drop f zero (y ∷ ys) x h e = ap (λ z. f z ++ joined (map f ys)) (sym e)
joined_map-drop f (suc k) (y ∷ ys) x h e = let next : suc k + 1 ≡ suc (k + 1) = omega arith in rw next (joined_map-drop f k ys x (omega arith) e)

pub joined-drop : (k : ℕ) (xs : List (List ℕ)) (x : List ℕ) → k < length xs → x ≡ get_or xs k x → joined (drop k xs) ≡ x ++ joined (drop (k + 1) xs)
joined-drop k [] x h e = absurd (omega arith)
joined-drop zero (y ∷ ys) x h e = ap (λ z. z ++ joined ys) (sym e)
joined-drop (suc k) (y ∷ ys) x h e = let next : suc k + 1 ≡ suc (k + 1) = omega arith in rw next (joined-drop k ys x (omega arith) e)

pub joined_map-drop-le : {X : Type 0} (f : X → List ℕ) (k : ℕ) (xs : List X) → length (joined (map f (drop k xs))) ≤ length (joined (map f xs))
joined_map-drop-le f zero xs = omega arith
joined_map-drop-le f (suc k) [] = omega arith
joined_map-drop-le f (suc k) (x ∷ xs) = let more = joined_map-drop-le f k xs in omega (arith, length-append (f x) (joined (map f xs)))

pub joined-drop-le : (k : ℕ) (xs : List (List ℕ)) → length (joined (drop k xs)) ≤ length (joined xs)
joined-drop-le zero xs = omega arith
joined-drop-le (suc k) [] = omega arith
joined-drop-le (suc k) (x ∷ xs) = let more = joined-drop-le k xs in omega (arith, length-append x (joined xs))

-- ---- the contents of an object for which there is room

-- a content of so many bytes has a PkgLength, and both have room behind a lead byte
pub record HasRoom (n end : ℕ) : Type 0 where
  pub fits : n ≤ 268435451
  pub head : 1 + length (written_length n) + n ≤ end

pub package_room : (count : ℕ) (vs : List Data) (end : ℕ) → length (written (Package count vs)) < 2 ^ 28 → length (written (Package count vs)) ≤ end
    → HasRoom (1 + length (joined (map written vs))) end
package_room count vs end short le =
    let n = 1 + length (joined (map written vs)) in
    record { fits = content_fits n (rw (length-Package count vs) at short); head = rw (length-Package count vs) at le }

pub var_package_room : (count : ℕ) (vs : List Data) (end : ℕ) → length (written (VarPackage count vs)) < 2 ^ 28 → length (written (VarPackage count vs)) ≤ end
    → HasRoom (length (written_constant count) + length (joined (map written vs))) end
var_package_room count vs end short le =
    let n = length (written_constant count) + length (joined (map written vs)) in
    record { fits = content_fits n (rw (length-VarPackage count vs) at short); head = rw (length-VarPackage count vs) at le }

pub buffer_room : (size : ℕ) (bytes : List ℕ) (end : ℕ) → length (written (Buffer size bytes)) < 2 ^ 28 → length (written (Buffer size bytes)) ≤ end
    → HasRoom (length (written_constant size) + length bytes) end
buffer_room size bytes end short le =
    let n = length (written_constant size) + length bytes in
    record { fits = content_fits n (rw (length-Buffer size n bytes refl) at short); head = rw (length-Buffer size n bytes refl) at le }

-- ---- one part before those that were put

before_last : (left : ℕ) → 0 < left → left - 1 + 1 ≡ left
before_last left some = omega arith

pub segment_step : (ss : List (List ℕ)) (left : ℕ) (s : List ℕ) → 0 < left → left ≤ length ss → s ≡ get_or ss (left - 1) s → joined (drop (left - 1) ss) ≡ s ++ joined (drop left ss)
segment_step ss left s some inside is =
    let same = before_last left some in
    rw same at (joined-drop (left - 1) ss s (omega arith) is)

pub segment_fits : (ss : List (List ℕ)) (left start end : ℕ) (s : List ℕ) → 0 < left → left ≤ length ss → s ≡ get_or ss (left - 1) s
    → start + length (joined (drop left ss)) ≡ end → length (joined ss) ≤ end → length s ≤ start
segment_fits ss left start end s some inside is reach fits =
    let step = ap (λ (t : List ℕ). length t) (segment_step ss left s some inside is) in
    let all = joined-drop-le (left - 1) ss in
    omega (arith, length-append s (joined (drop left ss)))

pub object_step : (vs : List Data) (left : ℕ) (v : Data) → 0 < left → left ≤ length vs → v ≡ get_or vs (left - 1) v
    → joined (map written (drop (left - 1) vs)) ≡ written v ++ joined (map written (drop left vs))
object_step vs left v some inside is =
    let same = before_last left some in
    rw same at (joined_map-drop written (left - 1) vs v (omega arith) is)

pub object_fits : (vs : List Data) (left start end : ℕ) (v : Data) → 0 < left → left ≤ length vs → v ≡ get_or vs (left - 1) v
    → start + length (joined (map written (drop left vs))) ≡ end → length (joined (map written vs)) ≤ end → length (written v) ≤ start
object_fits vs left start end v some inside is reach fits =
    let step = ap (λ (t : List ℕ). length t) (object_step vs left v some inside is) in
    let all = joined_map-drop-le written (left - 1) vs in
    omega (arith, length-append (written v) (joined (map written (drop left vs))))

-- what a PkgLength is told to count, where a content of so many bytes ends the room
pub record IsTold (told start n : ℕ) : Type 0 where
  pub is : told ≡ n
  pub fits : told ≤ 268435451
  pub head : 1 + length (written_length told) ≤ start

pub told : (n start end : ℕ) → HasRoom n end → start + n ≡ end → IsTold (end - start) start n
told n start end room reach =
    let same : end - start ≡ n = omega arith in
    let fits = room.fits in
    let head = room.head in
    record { is = same; fits = omega arith; head = rw same (omega arith) }
