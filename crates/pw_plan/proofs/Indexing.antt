-- The index of a plan: what its loops find.
use Rattle.std.proofs.Common.{◌≡◌, ◌<◌, ◌≤◌, ◌+◌, ◌&&◌, ◌==◌, not, ℕ, suc, Bool, true, false, cond, List, [], ◌∷◌, map, length, get_or, drop, Option, Some, None, refl, ap, ◌∙◌, arith, drop-cons, add-one, zero-add}
use Rattle.std.specs.Prelude.{find, nat_lt}
use Rattle.std.specs.Option.{option_map}
use Rattle.std.specs.List.{position, position_or_len}
use Rattle.std.proofs.lemmas.Bool.Decides.{nat_tests}
use Rattle.std.proofs.lemmas.List.{drop_all, get_or-map, length-map}
use Rattle.std.proofs.lemmas.List.Elements.{All-from_recursion}
use Rattle.pw_plan.specs.declared.parts.ContainerParts.{ContainerParts}
use Rattle.pw_plan.specs.declared.domain.Domain.{Domain}
use Rattle.pw_plan.specs.declared.domain.DomainKind.TheVariants.{Idle}
use Rattle.pw_plan.specs.declared.index.Membership.{Membership}
use Rattle.pw_plan.specs.Groups.{no_domain}
use Rattle.pw_plan.specs.Index.{first_membership, idle_memberships, is_unfit, membership_in}
use Rattle.pw_plan.specs.inner.Memberships.{shows_unfit}
use Rattle.pw_plan.specs.Parts.{ParentsFall, container_in, is_below}
use Rattle.pw_plan.specs.Covering.{covers}
use Rattle.pw_plan.specs.Tree.{places_from}
use Rattle.pw_plan.proofs.Among.{drop_head}
use Rattle.pw_plan.proofs.Found.{position-here, position-later}
use Rattle.pw_plan.proofs.Lists.{places-each}

-- # The first that passes

position_is : (q k n : ℕ) → q ≡ k → k < n → cond (nat_lt q n) (Some q) None ≡ Some k
position_is q k n e lt =
    let h : nat_lt k n ≡ true = grind (arith, nat_tests) in
    rw (e, h) refl

position_none : (q n : ℕ) → n ≤ q → cond (nat_lt q n) (Some q) None ≡ None
position_none q n le =
    let h : nat_lt q n ≡ false = grind (arith, nat_tests) in
    rw h refl

module _ {X : Type 0} (t : X → Bool) (xs : List X) (k : ℕ) (d : X) (so_far : k + position_or_len t (drop k xs) ≡ position_or_len t xs) where
  pub found_at : k < length xs → t (get_or xs k d) ≡ true → position t xs ≡ Some k
  found_at lt e =
      let here : position_or_len t (drop k xs) ≡ 0 = ap (position_or_len t) (drop-cons xs k d lt) ∙ position-here t (get_or xs k d) (drop (suc k) xs) e in
      position_is (position_or_len t xs) k (length xs) (omega (arith, so_far, here)) lt

  pub found_none : length xs ≤ k → position t xs ≡ None
  found_none le =
      let here : position_or_len t (drop k xs) ≡ 0 = ap (position_or_len t) (drop_all k xs le) in
      position_none (position_or_len t xs) (length xs) (omega (arith, so_far, here, le))

-- # The first unfit one

-- the first of the places of those that pass one test whose element passes another
find_among : {X : Type 0} (t u : X → Bool) (whole : List X) (d : X) (f : ℕ → Membership) (v : Membership → Bool) → ((k : ℕ) → v (f k) ≡ u (get_or whole k d))
    → (k : ℕ) (xs : List X) → drop k whole ≡ xs → (q : ℕ) → q ≡ k + position_or_len (λ x. t x && u x) xs
    → find v (map f (places_from t k xs)) ≡ option_map f (cond (nat_lt q (k + length xs)) (Some q) None)
find_among t u whole d f v same k [] at q e =
    let h : nat_lt q (k + 0) ≡ false = grind (arith, nat_tests) in
    rw h refl
find_among t u whole d f v same k (x ∷ xs) at q e =
    by (find_among t u whole d f v same (k + 1) xs (rw add-one ((drop_head k whole x d xs at).1)) q) (t x) refl (u x) refl
  where
    shows : v (f k) ≡ u x
    shows = same k ∙ ap u ((drop_head k whole x d xs at).0)

    later : (q ≡ (k + 1) + position_or_len (λ y. t y && u y) xs → find v (map f (places_from t (k + 1) xs)) ≡ option_map f (cond (nat_lt q ((k + 1) + length xs)) (Some q) None))
        → (t x && u x) ≡ false → find v (map f (places_from t (k + 1) xs)) ≡ option_map f (cond (nat_lt q (k + suc (length xs))) (Some q) None)
    later ih fails =
        let pos = position-later (λ y. t y && u y) x xs fails in
        let len : (k + 1) + length xs ≡ k + suc (length xs) = omega arith in
        rw len at (ih (omega (arith, e, pos)))

    by : (q ≡ (k + 1) + position_or_len (λ y. t y && u y) xs → find v (map f (places_from t (k + 1) xs)) ≡ option_map f (cond (nat_lt q ((k + 1) + length xs)) (Some q) None))
        → (a : Bool) → t x ≡ a → (b : Bool) → u x ≡ b
        → find v (map f (cond (t x) (k ∷ places_from t (k + 1) xs) (places_from t (k + 1) xs))) ≡ option_map f (cond (nat_lt q (k + suc (length xs))) (Some q) None)
    by ih true ta true ub =
        let pos = position-here (λ y. t y && u y) x xs (rw (ta, ub) refl) in
        let is : q ≡ k = omega (arith, e, pos) in
        let lt : nat_lt k (k + suc (length xs)) ≡ true = grind (arith, nat_tests) in
        rw (ta, shows, ub, is, lt) refl
    by ih true ta false ub = rw (ta, shows, ub) (later ih (rw (ta, ub) refl))
    by ih false ta b ub = rw ta (later ih (rw ta refl))

pub first_unfit : (ds : List Domain) (p : ℕ) → find (shows_unfit ds) (idle_memberships ds p) ≡ first_membership (is_unfit p) ds p
first_unfit ds p =
    rw zero-add at (find_among (covers Idle p) (λ (x : Domain). not (x.unfit == 0)) ds no_domain (membership_in ds p) (shows_unfit ds) (λ k. refl) 0 ds refl
    (position_or_len (is_unfit p) ds) (omega arith))

-- # Where they stand

place_within : {X : Type 0} (t : X → Bool) (xs : List X) (d : X) (i : ℕ) → i < length (places_from t 0 xs) → get_or (places_from t 0 xs) i 0 < length xs
place_within t xs d i lt = All-from_recursion (λ q. q < length xs) (places_from t 0 xs) (places-each (λ q. q < length xs) t 0 xs d (λ j le e. omega arith)) i 0 lt

-- each idle domain is one of the list
pub idle_within : (ds : List Domain) (p i : ℕ) (d : Membership) → i < length (idle_memberships ds p) → (get_or (idle_memberships ds p) i d).place < length ds
idle_within ds p i d lt =
    let count = length-map (places_from (covers Idle p) 0 ds) (membership_in ds p) in
    let short : i < length (places_from (covers Idle p) 0 ds) = omega (arith, count) in
    rw (get_or-map (membership_in ds p) (places_from (covers Idle p) 0 ds) i 0 d short) (place_within (covers Idle p) ds no_domain i short)

-- # Parents

-- each container's parent is one of the containers
pub below_end : (cs : List ContainerParts) → ParentsFall cs → (n : ℕ) → n < length cs → is_below (length cs) (container_in cs n).parent ≡ true
below_end cs fall n lt = by (container_in cs n).parent (fall n lt)
  where
    by : (parent : Option ℕ) → is_below n parent ≡ true → is_below (length cs) parent ≡ true
    by None h = refl
    by (Some m) h = grind (arith, nat_tests)
