-- What comes of a program's workers that had seats and ended, and of such as never began.
use Rattle.std.proofs.Common.{◌≡◌, ◌≢◌, ◌==◌, ◌⊎◌, ◌<◌, ℕ, suc, Bool, true, false, cond, List, Vec, [], ◌∷◌, ◌++◌, map, length, get_or, take}
use Rattle.std.proofs.Common.{refl, ap, sym, ◌∙◌, subst, arith, inl, inr}
use Rattle.std.specs.List.{AllByRecursion}
use Rattle.std.specs.declared.alloc.Global.{Global}
use Rattle.std.proofs.Math.Seq.{take-append_seam}
use Rattle.pw_books.specs.declared.calls.Calls.{Calls}
use Rattle.pw_books.specs.Books.{Begins, Knows, calls_of, count_in, entries_of}
use Rattle.pw_books.specs.Asked.{Telling, own}
use Rattle.pw_books.specs.Seats.{IsSeat}
use Rattle.pw_books.specs.Workers.{AreApart, Ended, Filled, HasWorker, MadeByWorkers, Worked, Worker, joined_down, seat_of}
use Rattle.pw_books.specs.inner.Lists.{AreLists, AreListsFor}
use Rattle.pw_books.specs.inner.Seated.{AllSeated, AreSeated, Holding, SeatedFor}
use Rattle.pw_books.proofs.Gathering.{counted_once, each_append, has_all}
use Rattle.pw_books.proofs.Joins.{each_map}
use Rattle.pw_books.proofs.Workers.{workers-asked}

-- # Lists and what became of them

-- what a loan of all elements leaves
pub written_back : {X : Type 0} (xs ys : List X) (n : ℕ) → length xs ≡ n → take n (xs ++ ys) ≡ xs
written_back xs ys n size = ap (λ (k : ℕ). take k (xs ++ ys)) (sym size) ∙ take-append_seam xs ys

module _ {X : Type 0} (R : X → X → Type 0) where
  -- each became the one in its place
  abbrev pub AllBecame : List X → List X → Type 0
  AllBecame [] [] = Unit {0}
  AllBecame [] (w ∷ ws) = ⊥
  AllBecame (v ∷ vs) [] = ⊥
  AllBecame (v ∷ vs) (w ∷ ws) = R v w × AllBecame vs ws

  pub all_became : (vs ws : List X) → length ws ≡ length vs → ((k : ℕ) (d : X) → k < length vs → R (get_or vs k d) (get_or ws k d)) → AllBecame vs ws
  all_became [] [] size each = tt
  all_became [] (w ∷ ws) size each = absurd (omega (arith, size))
  all_became (v ∷ vs) [] size each = absurd (omega (arith, size))
  all_became (v ∷ vs) (w ∷ ws) size each =
      (each 0 v (omega arith), all_became vs ws (omega (arith, size)) (λ k d lt. each (suc k) d (omega (arith, lt))))

  pub all_became_behind : (vs ws old : List X) → old ≡ vs → length ws ≡ length old
      → ((k : ℕ) (d : X) → k < length old → R (get_or old k d) (get_or ws k d)) → AllBecame vs ws
  all_became_behind vs ws old is size each = subst (λ l. AllBecame l ws) is (all_became old ws size each)

  -- what each is then
  pub each_became : (S T : X → Type 0) → ((v w : X) → S v → R v w → T w) → (vs ws : List X) → AllBecame vs ws → AllByRecursion S vs → AllByRecursion T ws
  each_became S T f [] [] became each = tt
  each_became S T f [] (w ∷ ws) became each = absurd became
  each_became S T f (v ∷ vs) [] became each = absurd became
  each_became S T f (v ∷ vs) (w ∷ ws) became each = (f v w each.0 became.0, each_became S T f vs ws became.1 each.1)

pub became_too : {X : Type 0} (R S : X → X → Type 0) → ((v w : X) → R v w → S v w) → (vs ws : List X) → AllBecame R vs ws → AllBecame S vs ws
became_too R S f [] [] became = tt
became_too R S f [] (w ∷ ws) became = absurd became
became_too R S f (v ∷ vs) [] became = absurd became
became_too R S f (v ∷ vs) (w ∷ ws) became = (f v w became.0, became_too R S f vs ws became.1)

-- # Before they begin

some_list : {Q : Type 0} (lists : List (Vec Q Global)) (p : ℕ) → p < length lists → Vec Q Global
some_list [] p lt = absurd (omega (arith, lt))
some_list (x ∷ xs) p lt = x

module _ {W E Q : Type 0} (T : Telling E Q) (H : Holding W E Q) where
  each_own : (S : Q → Type 0) (p : ℕ) (asked : List Q) → AllByRecursion S asked → AllByRecursion S (own T p asked)
  each_own S p [] has = tt
  each_own S p (q ∷ qs) has = step (T.cpu q == p) (each_own S p qs has.1)
    where
      step : (b : Bool) → AllByRecursion S (own T p qs) → AllByRecursion S (cond b (q ∷ own T p qs) (own T p qs))
      step true rest = (has.0, rest)
      step false rest = rest

  module _ (HasSeat : W → Type 0) (lists : List (Vec Q Global)) where
    -- its requests are its processor's
    requests_own : (asked : List Q) (n : ℕ) (w : W) → SeatedFor H HasSeat lists w → AreLists T asked n lists
        → (H.requests w).items ≡ own T (H.gathered w).cpu asked
    requests_own asked n w seated are =
        let cpu = (H.gathered w).cpu in
        let d = some_list lists cpu seated.cpu in
        ap (λ (x : Vec Q Global). x.items) (seated.requests d) ∙ are.each cpu d (let lt = seated.cpu in let size = are.sized in omega (arith, lt, size))

    pub all_ready : (S : Q → Type 0) (Ready : W → Type 0) → ((w : W) → HasSeat w → AllByRecursion S (H.requests w).items → Ready w)
        → (count : ℕ) (ws : List W) → AreListsFor T S count lists → AllByRecursion (SeatedFor H HasSeat lists) ws → AllByRecursion Ready ws
    all_ready S Ready ready count ws are seated = each_map (SeatedFor H HasSeat lists) Ready
        (λ w s. ready w s.seat (subst (AllByRecursion S) (sym (requests_own are.asked count w s are.are)) (each_own S (H.gathered w).cpu are.asked are.has))) ws seated

  -- # Once they ended

  -- its requests were made up to a fault, or to where there was no room for one more entry
  pub record EndedFrom (room : ℕ) (v w : W) : Type 0 where
    pub cpu : (H.gathered w).cpu ≡ (H.gathered v).cpu
    pub made : Worked T (H.requests v).items (H.gathered w).number (H.gathered w).book (H.gathered w).seen
        ⊎ Filled T (H.requests v).items room (H.gathered w).number (H.gathered w).book (H.gathered w).seen

  module _ (room : ℕ) where
    other_cpus : (c : ℕ) (vs ws : List W) → AllBecame (EndedFrom room) vs ws → AllByRecursion (λ (x : Worker E). x.cpu ≢ c) (map H.gathered vs)
        → AllByRecursion (λ (x : Worker E). x.cpu ≢ c) (map H.gathered ws)
    other_cpus c [] [] ended other = tt
    other_cpus c [] (w ∷ ws) ended other = absurd ended
    other_cpus c (v ∷ vs) [] ended other = absurd ended
    other_cpus c (v ∷ vs) (w ∷ ws) ended other = ((λ is. other.0 (sym ended.0.cpu ∙ is)), other_cpus c vs ws ended.1 other.1)

    apart_still : (vs ws : List W) → AllBecame (EndedFrom room) vs ws → AreApart (map H.gathered vs) → AreApart (map H.gathered ws)
    apart_still [] [] ended apart = tt
    apart_still [] (w ∷ ws) ended apart = absurd ended
    apart_still (v ∷ vs) [] ended apart = absurd ended
    apart_still (v ∷ vs) (w ∷ ws) ended apart = (
      subst (λ c. AllByRecursion (λ (x : Worker E). x.cpu ≢ c) (map H.gathered ws)) (sym ended.0.cpu) (other_cpus (H.gathered v).cpu vs ws ended.1 apart.0),
      apart_still vs ws ended.1 apart.1,
    )

    has_still : (p : ℕ) (vs ws : List W) → AllBecame (EndedFrom room) vs ws → HasWorker (map H.gathered vs) p → HasWorker (map H.gathered ws) p
    has_still p [] ws ended has = absurd has
    has_still p (v ∷ vs) [] ended has = absurd ended
    has_still p (v ∷ vs) (w ∷ ws) ended (inl is) = inl (ended.0.cpu ∙ is)
    has_still p (v ∷ vs) (w ∷ ws) ended (inr later) = inr (has_still p vs ws ended.1 later)

  each_saw : (es seen : List E) (ws : List W) → es ≡ seen → AllByRecursion (λ w. Begins seen (H.gathered w).seen) ws
      → AllByRecursion (λ (w : Worker E). Begins es w.seen) (map H.gathered ws)
  each_saw es seen [] is saw = tt
  each_saw es seen (w ∷ ws) is saw = (subst (λ l. Begins l (H.gathered w).seen) (sym is) saw.0, each_saw es seen ws is saw.1)

  -- One seat has all books, behind its own silent one, and has seen the history: its book has what the history has of each of its
  -- numbers, and each entry's number once.
  pub record AreTaken (first : List (Calls E)) (ws : List W) (seen : List E) (book : List (Calls E)) (es : List E) : Type 0 where
    pub silent : first ≡ calls_of 0 [] ∷ []
    pub saw : AllByRecursion (λ w. Begins seen (H.gathered w).seen) ws
    pub joined : book ≡ joined_down first (map H.gathered ws)
    pub all : es ≡ seen
    pub knows : Knows T.seat book es
    pub once : (n : ℕ) → 0 < length (entries_of T.seat n es) → count_in n book ≡ 1

  module _ (HasSeat : W → Type 0) (lists : List (Vec Q Global)) (first : List (Calls E)) (seen : List E) (book : List (Calls E))
      (es : List E) where
    each_ended : (asked : List Q) (n : ℕ) → AreLists T asked n lists → (vs ws : List W) → AllBecame (EndedFrom (length asked)) vs ws
        → AllByRecursion (SeatedFor H HasSeat lists) vs → AllByRecursion (Ended T asked) (map H.gathered ws)
    each_ended asked n are [] [] ended seated = tt
    each_ended asked n are [] (w ∷ ws) ended seated = absurd ended
    each_ended asked n are (v ∷ vs) [] ended seated = absurd ended
    each_ended asked n are (v ∷ vs) (w ∷ ws) ended seated =
        let x = H.gathered w in (
          subst (λ l. Worked T l x.number x.book x.seen ⊎ Filled T l (length asked) x.number x.book x.seen)
              (requests_own HasSeat lists asked n v seated.0 are ∙ ap (λ c. own T c asked) (sym ended.0.cpu)) ended.0.made,
          each_ended asked n are vs ws ended.1 seated.1,
        )

    pub made_by : (asked : List Q) (count : ℕ) → AllByRecursion (λ q. T.cpu q < count) asked → AreLists T asked count lists → (vs ws : List W)
        → AreSeated H HasSeat lists vs → AllSeated H lists vs → AllBecame (EndedFrom (length asked)) vs ws → AreTaken first ws seen book es
        → MadeByWorkers T asked (map H.gathered ws) book es
    made_by asked count has are vs ws seated all ended taken = record {
      ended = each_ended asked count are vs ws ended seated.each;
      apart = apart_still (length asked) vs ws ended seated.apart;
      all = has_all T count asked (map H.gathered ws) has (λ p lt some.
          let size = are.sized in
          let inside : p < length lists = omega (arith, size, lt) in
          let d = some_list lists p inside in
          has_still (length asked) p vs ws ended (all p d inside (λ none. some (sym (are.each p d lt) ∙ none))));
      saw = each_saw es seen ws taken.all taken.saw;
      joined = record {
        first = calls_of 0 [] ∷ [];
        silent = (refl, tt);
        joined = inr (taken.joined ∙ ap (λ b. joined_down b (map H.gathered ws)) taken.silent);
      };
      knows = taken.knows;
      numbers = counted_once T book es taken.once;
    }

  -- # Where none began

  -- a book in which nothing was asked
  abbrev Silent : List (Calls E) → Type 0
  Silent book = AllByRecursion (λ (c : Calls E). c.entries ≡ []) book

  none_seated : (seats : ℕ → ℕ) (es : List E) → AllByRecursion (λ (e : E). IsSeat T [] seats (T.seat e)) es → es ≡ []
  none_seated seats [] seated = refl
  none_seated seats (e ∷ es) seated = absurd (seated.0.some refl)

  silent_none : (book : List (Calls E)) (es : List E) → Silent book → Knows T.seat book es
      → ((n : ℕ) → 0 < length (entries_of T.seat n es) → count_in n book ≡ 1) → es ≡ []
  silent_none book es silent knows once = none_seated (seat_of {E = E} []) es (workers-asked T [] es [] book record {
    ended = tt;
    apart = tt;
    all = λ p some. absurd (some refl);
    saw = tt;
    joined = record { first = book; silent = silent; joined = inl refl };
    knows = knows;
    numbers = counted_once T book es once;
  }).seated

  module _ (HasSeat : W → Type 0) (fresh : (w : W) → HasSeat w → (H.gathered w).book ≡ calls_of (H.gathered w).number [] ∷ [])
      (lists : List (Vec Q Global)) where
    silent_down : (book : List (Calls E)) (ws : List W) → Silent book → AllByRecursion (SeatedFor H HasSeat lists) ws
        → Silent (joined_down book (map H.gathered ws))
    silent_down book [] silent seated = silent
    silent_down book (w ∷ ws) silent seated = each_append (λ (c : Calls E). c.entries ≡ []) (joined_down book (map H.gathered ws)) (H.gathered w).book
        (silent_down book ws silent seated.1) (subst Silent (sym (fresh w seated.0.seat)) (refl, tt))

    pub none_made : (first : List (Calls E)) (ws : List W) (seen : List E) (book : List (Calls E)) (es : List E)
        → AllByRecursion (SeatedFor H HasSeat lists) ws → AreTaken first ws seen book es → es ≡ []
    none_made first ws seen book es seated taken =
        silent_none book es (subst Silent (sym taken.joined) (silent_down first ws (subst Silent (sym taken.silent) (refl, tt)) seated)) taken.knows taken.once
