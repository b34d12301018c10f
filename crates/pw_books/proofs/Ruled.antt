-- A table that shows a machine shows the machine after a step.
use Rattle.std.proofs.Common.{◌≡◌, ◌≢◌, ⊎_elim, ℕ, zero, suc, ◌<◌, ◌≤◌, List, [], ◌∷◌, ◌++◌, length, map, set, set-set, sym, refl, ap, ◌∙◌, subst, arith}
use Rattle.std.proofs.lemmas.List.{length-map, length-set}
use mathlib.Core.Option.{some, some-injective, some-ne-none}
use lib.ListN.{get_elem?}
use Rattle.pw_books.specs.Ruled.{Showing, Shows}
use Rattle.pw_books.specs.Sums.{total}
use Rattle.pw_books.specs.Tracks.{AreKept, did, fresh, in_keeping, steps_of, took_over}
use Rattle.pw_books.specs.declared.track.Track.{Track}
use Rattle.pw_books.proofs.Lists.{at_map, at_set, elem_below, last_or_before, set_here}
use Rattle.pw_books.proofs.Keeping.{all_placed, kept_joined, kept_more, kept_split}
use Rattle.pw_books.proofs.Running.{Grows, map-set, map-snoc, none_past, one_more, steps_here, steps_there}

module _ {M V K H : Type 0} (S : Showing M V K H) (start : M) (ws : List ℕ) (hs : H) (ts : List (Track V K)) (o : Shows S start ws hs ts) where
  pub view_at : (id : ℕ) (x : Track V K) → get_elem? ts id ≡ some x → get_elem? (S.turning.views o.machine) id ≡ some x.view
  view_at id x at = subst (λ l. get_elem? l id ≡ some x.view) o.views (at_map (λ (t : Track V K). t.view) ts id x at)

  module _ (id : ℕ) (x : Track V K) (me : get_elem? ts id ≡ some x) (live : 0 < S.parts x.view) (k : K)
      (may : S.turning.May o.machine id x.view k) where
    abbrev next : M
    next = S.turning.after o.machine id x.view k

    -- each live seat's steps are its own
    pub own_more : (y : Track V K) → y.own ≡ x.own ++ S.own_kind k ∷ [] → (j : ℕ) (t : Track V K)
        → get_elem? (set ts id y) j ≡ some t → 0 < S.parts t.view → t.own ≡ steps_of S.own_kind j (o.run ++ (id, x.view, k) ∷ [])
    own_more y grew j t there lives = ⊎_elim
        (λ (b : (j ≡ id) × (y ≡ t)). ap (λ (t : Track V K). t.own) (sym b.1)
        ∙ (grew ∙ ap (λ l. l ++ S.own_kind k ∷ []) (o.own id x me live)
        ∙ (sym (steps_here S.own_kind o.run id x.view k) ∙ ap (λ j. steps_of S.own_kind j (o.run ++ (id, x.view, k) ∷ [])) (sym b.0))))
        (λ (b : (j ≢ id) × (get_elem? ts j ≡ some t)). o.own j t b.1 lives
        ∙ sym (steps_there S.own_kind o.run id j x.view k (λ e. b.0 (sym e))))
        (at_set ts id j y t there)

    -- a seat takes a step
    pub shows : (w : V) (words : List ℕ) (homes : H) → S.turning.views next ≡ set (S.turning.views o.machine) id w
        → words ≡ S.words_of next → S.IsHome next homes → Shows S start words homes (set ts id (did S.own_kind k w x))
    shows w words homes same told home = record {
      machine = next;
      run = o.run ++ (id, x.view, k) ∷ [];
      ran = one_more S.turning start o.run o.machine id x.view k o.ran (view_at id x me) may;
      words = told;
      views = map-set (λ (t : Track V K). t.view) ts id (did S.own_kind k w x)
          ∙ (ap (λ vs. set vs id w) o.views ∙ sym same);
      own = own_more (did S.own_kind k w x) refl;
      kept = kept_more S.own_kind o.run ts o.kept id x me (o.own id x me live) x.view k w;
      home = home;
    }

    -- it is split
    pub shows_split : Grows S.turning → (l r : V) (words : List ℕ) (homes : H)
        → S.turning.views next ≡ set (S.turning.views o.machine) id l ++ r ∷ [] → words ≡ S.words_of next → S.IsHome next homes
        → Shows S start words homes (set ts id (did S.own_kind k l x) ++ fresh r ∷ [])
    shows_split grows l r words homes same told home =
        let here = did S.own_kind k l x in let new : Track V K = fresh r in
        let wide : length (S.turning.views o.machine) ≡ length ts = ap (length {A = V}) (sym o.views) ∙ length-map ts (λ (t : Track V K). t.view) in
        let past : (j : ℕ) → length ts ≤ j → steps_of S.own_kind j (o.run ++ (id, x.view, k) ∷ []) ≡ [] = λ j far.
        steps_there S.own_kind o.run id j x.view k (λ e. omega (arith, e, far, elem_below ts id x me))
        ∙ none_past S.turning grows S.own_kind start o.run o.machine j o.ran (omega (arith, wide, far)) in
        record {
          machine = next;
          run = o.run ++ (id, x.view, k) ∷ [];
          ran = one_more S.turning start o.run o.machine id x.view k o.ran (view_at id x me) may;
          words = told;
          views = map-snoc (λ (t : Track V K). t.view) (set ts id here) new
              ∙ (ap (λ vs. vs ++ r ∷ []) (map-set (λ (t : Track V K). t.view) ts id here ∙ ap (λ vs. set vs id l) o.views) ∙ sym same);
          own = λ j t there lives. ⊎_elim
              (λ (b : get_elem? (set ts id here) j ≡ some t). own_more here refl j t b lives)
              (λ (e : (j ≡ length (set ts id here)) × (new ≡ t)). ap (λ (t : Track V K). t.own) (sym e.1)
              ∙ sym (past j (omega (arith, e.0, length-set ts id here))))
              (last_or_before (set ts id here) new t j there);
          kept = kept_split S.own_kind o.run ts o.kept id x me (o.own id x me live) x.view k l r (past (length ts) (omega arith));
          home = home;
        }

    -- another is joined into it
    pub shows_join : (mine : K) → S.own_kind k ≡ S.own_kind mine → (both spent : V) → S.parts spent ≡ 0 → (other : ℕ) (y : Track V K)
        → get_elem? (set ts id (took_over S.own_kind mine both x y)) other ≡ some y → (words : List ℕ) (homes : H)
        → S.turning.views next ≡ set (set (S.turning.views o.machine) id both) other spent → words ≡ S.words_of next → S.IsHome next homes
        → Shows S start words homes (set (set ts id (took_over S.own_kind mine both x y)) other (fresh spent))
    shows_join mine own both spent none other y there words homes same told home =
        let joined = took_over S.own_kind mine both x y in let gone : Track V K = fresh spent in record {
          machine = next;
          run = o.run ++ (id, x.view, k) ∷ [];
          ran = one_more S.turning start o.run o.machine id x.view k o.ran (view_at id x me) may;
          words = told;
          views = map-set (λ (t : Track V K). t.view) (set ts id joined) other gone
              ∙ (ap (λ vs. set vs other spent) (map-set (λ (t : Track V K). t.view) ts id joined ∙ ap (λ vs. set vs id both) o.views) ∙ sym same);
          own = λ j t there lives. ⊎_elim
              (λ (e : (j ≡ other) × (gone ≡ t)). absurd (omega (arith, lives, none, ap (λ (t : Track V K). S.parts t.view) e.1)))
              (λ (e : (j ≢ other) × (get_elem? (set ts id joined) j ≡ some t)).
              own_more joined (ap (λ k. x.own ++ k ∷ []) (sym own)) j t e.1 lives)
              (at_set (set ts id joined) other j gone t there);
          kept = kept_joined S.own_kind o.run ts o.kept id x me (o.own id x me live) x.view k mine own both spent other y there;
          home = home;
        }

-- two steps of a seat, between which the slots aren't at home
module _ {M V K H : Type 0} (S : Showing M V K H) (start : M) (ws : List ℕ) (hs : H) (ts : List (Track V K)) (o : Shows S start ws hs ts)
    (id : ℕ) (x : Track V K) (me : get_elem? ts id ≡ some x) (live : 0 < S.parts x.view) where
  -- whatever slots are
  abbrev anyhow : Showing M V K H
  anyhow = record S { IsHome = λ m h. Unit {0} }

  pub shows_two : (k : K) → S.turning.May o.machine id x.view k → (v : V) → S.turning.views (S.turning.after o.machine id x.view k) ≡ set (S.turning.views o.machine) id v
      → 0 < S.parts v → (k2 : K) → S.turning.May (S.turning.after o.machine id x.view k) id v k2 → (w : V)
      → S.turning.views (S.turning.after (S.turning.after o.machine id x.view k) id v k2) ≡ set (S.turning.views (S.turning.after o.machine id x.view k)) id w
      → (words : List ℕ) (homes : H) → words ≡ S.words_of (S.turning.after (S.turning.after o.machine id x.view k) id v k2)
      → S.IsHome (S.turning.after (S.turning.after o.machine id x.view k) id v k2) homes
      → Shows S start words homes (set ts id (did S.own_kind k2 w (did S.own_kind k v x)))
  unfolding shows
  shows_two k may v same lives k2 may2 w same2 words homes told home =
      let y = did S.own_kind k v x in let z = did S.own_kind k2 w y in let again = set-set ts id y z in
      let any : Shows anyhow start ws hs ts = record { machine = o.machine; run = o.run; ran = o.ran; words = o.words; views = o.views; own = o.own; kept = o.kept; home = tt } in
      let first = shows anyhow start ws hs ts any id x me live k may v (S.words_of (S.turning.after o.machine id x.view k)) hs same refl tt in
      let there = set_here ts id y (elem_below ts id x me) in
      let second = shows anyhow start (S.words_of (S.turning.after o.machine id x.view k)) hs (set ts id y) first id y there lives k2 may2 w words homes same2 told tt in
      record {
        machine = S.turning.after (S.turning.after o.machine id x.view k) id v k2;
        run = second.run;
        ran = second.ran;
        words = told;
        views = subst (λ l. map (λ (t : Track V K). t.view) l ≡ S.turning.views (S.turning.after (S.turning.after o.machine id x.view k) id v k2)) again second.views;
        own = λ j t at. second.own j t (subst (λ l. get_elem? l j ≡ some t) (sym again) at);
        kept = subst (AreKept S.own_kind second.run) again second.kept;
        home = home;
      }

module _ {M V K H : Type 0} (S : Showing M V K H) where
  -- a table with one seat, which took no step, shows the machine at the start
  pub shows_start : (start : M) (v : V) → S.turning.views start ≡ v ∷ [] → (words : List ℕ) (homes : H) → words ≡ S.words_of start
      → S.IsHome start homes → Shows S start words homes (fresh v ∷ [])
  shows_start start v one words homes told home = record {
    machine = start;
    run = [];
    ran = refl;
    words = told;
    views = sym one;
    own = λ j t there lives. first j t there;
    kept = λ f none. omega (arith, none);
    home = home;
  }
    where
      first : (j : ℕ) (t : Track V K) → get_elem? (fresh v ∷ []) j ≡ some t → t.own ≡ []
      first zero t e = ap (λ (t : Track V K). t.own) (sym (some-injective (fresh v) t e))
      first (suc j) t e = absurd (some-ne-none t (sym e))

-- no step of the run is in nobody's keeping
module _ {M V K H : Type 0} (S : Showing M V K H) (grows : Grows S.turning) where
  pub all_kept : (start : M) (ws : List ℕ) (hs : H) (ts : List (Track V K)) (o : Shows S start ws hs ts) → length o.run ≡ total (in_keeping length) ts
  all_kept start ws hs ts o =
      let wide : length (S.turning.views o.machine) ≡ length ts = ap (length {A = V}) (sym o.views) ∙ length-map ts (λ (t : Track V K). t.view) in
      sym (all_placed S.own_kind S.turning grows start o.run o.machine (length ts) o.ran (omega (arith, wide))) ∙ o.kept (length {A = K}) refl
