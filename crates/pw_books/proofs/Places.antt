-- Workers of a program get seats one by one, from the last processor to the first.
use Rattle.std.proofs.Common.{◌≡◌, ◌≢◌, ◌≤◌, ◌<◌, ◌+◌, ℕ, List, Vec, [], ◌∷◌, ◌++◌, map, length, get_or, refl, ap, sym, ◌∙◌, subst, arith, length-append}
use Rattle.std.specs.List.{AllByRecursion}
use Rattle.std.specs.declared.alloc.Global.{Global}
use Rattle.std.proofs.Math.Seq.{get_or-append_seam}
use Rattle.std.proofs.lemmas.List.{get_or_append_left, map-append}
use mathlib.Core.Logic.{dite}
use native.Mathlib.Decide.{ℕ_discrete}
use Rattle.pw_books.specs.Workers.{AreApart, HasWorker, Worker}
use Rattle.pw_books.specs.inner.Seated.{AreSeated, Holding, SeatedFor}
use Rattle.pw_books.proofs.Gathering.{apart_more, each_append, has_last, has_more}

-- # Lists

module _ {Q : Type 0} where
  -- the lists that are left are the first ones
  pub record AreLeft (left all : List (Vec Q Global)) : Type 0 where
    pub few : length left ≤ length all
    pub same : (p : ℕ) (d : Vec Q Global) → p < length left → get_or left p d ≡ get_or all p d

  module _ (left rest all : List (Vec Q Global)) (x : Vec Q Global) (is : left ≡ rest ++ x ∷ []) (l : AreLeft left all) where
    pub size : length left ≡ length rest + 1
    size = ap length is ∙ length-append rest (x ∷ [])

    pub left_fewer : AreLeft rest all
    left_fewer = record {
      few = let f = l.few in omega (arith, size, f);
      same = λ p d lt. sym (get_or_append_left rest (x ∷ []) d p lt) ∙ sym (ap (λ (ys : List (Vec Q Global)). get_or ys p d) is) ∙ l.same p d (omega (arith, size, lt));
    }

    -- the last one of them
    pub left_last : (d : Vec Q Global) → x ≡ get_or all (length rest) d
    left_last d = sym (get_or-append_seam rest x [] d) ∙ sym (ap (λ (ys : List (Vec Q Global)). get_or ys (length rest) d) is) ∙ l.same (length rest) d (omega (arith, size))

    pub left_inside : length rest < length all
    left_inside = let f = l.few in omega (arith, size, f)

-- # Processors of workers

module _ {E : Type 0} where
  -- their processors are not below this one
  abbrev pub AreFrom : ℕ → List (Worker E) → Type 0
  AreFrom n ws = AllByRecursion (λ (w : Worker E). n ≤ w.cpu) ws

  above_less : (n m : ℕ) (ws : List (Worker E)) → m ≤ n → AreFrom n ws → AreFrom m ws
  above_less n m [] le above = tt
  above_less n m (w ∷ ws) le above = let here = above.0 in (omega (arith, le, here), above_less n m ws le above.1)

  above_apart : (n c : ℕ) (ws : List (Worker E)) → c < n → AreFrom n ws → AllByRecursion (λ (w : Worker E). w.cpu ≢ c) ws
  above_apart n c [] lt above = tt
  above_apart n c (w ∷ ws) lt above = let here = above.0 in ((λ is. absurd (omega (arith, lt, here, is))), above_apart n c ws lt above.1)

module _ {W E Q : Type 0} (H : Holding W E Q) where
  -- nor are those of these workers of the program
  abbrev pub AreAbove : ℕ → List W → Type 0
  AreAbove n ws = AreFrom n (map H.gathered ws)

  -- each processor from this one on whose list isn't empty has a worker
  abbrev pub AllSeatedFrom : ℕ → List (Vec Q Global) → List W → Type 0
  AllSeatedFrom n lists ws =
      (p : ℕ) (d : Vec Q Global) → n ≤ p → p < length lists → (get_or lists p d).items ≢ [] → HasWorker (map H.gathered ws) p

  gathered_more : (ws : List W) (w : W) → map H.gathered (ws ++ w ∷ []) ≡ map H.gathered ws ++ H.gathered w ∷ []
  gathered_more ws w = map-append H.gathered ws (w ∷ [])

  -- a processor without lines
  served_none : (n : ℕ) (lists : List (Vec Q Global)) (ws : List W) (x : Vec Q Global) → ((d : Vec Q Global) → x ≡ get_or lists n d) → x.items ≡ []
      → AllSeatedFrom (n + 1) lists ws → AllSeatedFrom n lists ws
  served_none n lists ws x is none served = λ p d le lt some. dite (ℕ_discrete p n)
      (λ same. absurd (some (ap (λ (y : Vec Q Global). y.items) (ap (λ (k : ℕ). get_or lists k d) same ∙ sym (is d)) ∙ none)))
      (λ other. served p d (omega (arith, le, other)) lt some)

  above_fewer : (n : ℕ) (ws : List W) → AreAbove (n + 1) ws → AreAbove n ws
  above_fewer n ws above = above_less (n + 1) n (map H.gathered ws) (omega arith) above

  module _ (HasSeat : W → Type 0) (lists : List (Vec Q Global)) (n : ℕ) (ws : List W) (w : W) (cpu : (H.gathered w).cpu ≡ n) where
    above_more : AreAbove (n + 1) ws → AreAbove n (ws ++ w ∷ [])
    above_more above = subst (AreFrom n) (sym (gathered_more ws w))
        (each_append (λ (v : Worker E). n ≤ v.cpu) (map H.gathered ws) (H.gathered w ∷ []) (above_fewer n ws above) (omega (arith, cpu), tt))

    seated_more : n < length lists → HasSeat w → ((d : Vec Q Global) → H.requests w ≡ get_or lists n d) → AreAbove (n + 1) ws
        → AreSeated H HasSeat lists ws → AreSeated H HasSeat lists (ws ++ w ∷ [])
    seated_more lt seat requests above seated = record {
      each = each_append (SeatedFor H HasSeat lists) ws (w ∷ []) seated.each
          (record { seat = seat; cpu = omega (arith, cpu, lt); requests = λ d. requests d ∙ ap (λ (k : ℕ). get_or lists k d) (sym cpu) }, tt);
      apart = subst AreApart (sym (gathered_more ws w))
          (apart_more (map H.gathered ws) (H.gathered w) seated.apart (above_apart (n + 1) (H.gathered w).cpu (map H.gathered ws) (omega (arith, cpu)) above));
    }

    served_more : AllSeatedFrom (n + 1) lists ws → AllSeatedFrom n lists (ws ++ w ∷ [])
    served_more served = λ p d le lt some. subst (λ l. HasWorker l p) (sym (gathered_more ws w)) (dite (ℕ_discrete p n)
        (λ same. subst (HasWorker (map H.gathered ws ++ H.gathered w ∷ [])) (cpu ∙ sym same) (has_last (map H.gathered ws) (H.gathered w)))
        (λ other. has_more (map H.gathered ws) (H.gathered w) p (served p d (omega (arith, le, other)) lt some)))

  -- A list is taken off, and its processor has no lines, or gets a worker.
  module _ (HasSeat : W → Type 0) (all left rest : List (Vec Q Global)) (x : Vec Q Global) (is : left ≡ rest ++ x ∷ []) (l : AreLeft left all) (ws : List W)
      (above : AreAbove (length left) ws) (served : AllSeatedFrom (length left) all ws) where
    above_behind : AreAbove (length rest + 1) ws
    above_behind = subst (λ n. AreAbove n ws) (size left rest all x is l) above

    served_behind : AllSeatedFrom (length rest + 1) all ws
    served_behind = subst (λ n. AllSeatedFrom n all ws) (size left rest all x is l) served

    pub passed_above : AreAbove (length rest) ws
    passed_above = above_fewer (length rest) ws above_behind

    pub passed_served : length x.items ≡ 0 → AllSeatedFrom (length rest) all ws
    passed_served none = served_none (length rest) all ws x (left_last left rest all x is l) (empty x.items none) served_behind
      where
        empty : (qs : List Q) → length qs ≡ 0 → qs ≡ []
        empty [] e = refl
        empty (q ∷ qs) e = absurd (omega (arith, e))

    module _ (w : W) (more : List W) (are : more ≡ ws ++ w ∷ []) (cpu : (H.gathered w).cpu ≡ length rest) where
      pub taken_above : AreAbove (length rest) more
      taken_above = subst (AreAbove (length rest)) (sym are) (above_more HasSeat all (length rest) ws w cpu above_behind)

      pub taken_served : AllSeatedFrom (length rest) all more
      taken_served = subst (AllSeatedFrom (length rest) all) (sym are) (served_more HasSeat all (length rest) ws w cpu served_behind)

      pub taken_seated : HasSeat w → H.requests w ≡ x → AreSeated H HasSeat all ws → AreSeated H HasSeat all more
      taken_seated seat requests seated = subst (AreSeated H HasSeat all) (sym are)
          (seated_more HasSeat all (length rest) ws w cpu (left_inside left rest all x is l) seat (λ d. requests ∙ left_last left rest all x is l d) above_behind seated)

      pub taken_size : length more ≡ length ws + 1
      taken_size = ap length are ∙ length-append ws (w ∷ [])
