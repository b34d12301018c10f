-- Ways in numbers.
use Rattle.std.proofs.Common.{◌≡◌, ◌≢◌, ◌<◌, ◌≤◌, ◌+◌, ◌==◌, ◌||◌, ◌++◌, ℕ, suc, zero, Bool, true, false, cond, List, [], ◌∷◌, length, take, get_or, refl, sym, ◌∙◌, ap, subst, arith, inl, inr, eqb-true, eq-eqb}
use Rattle.std.specs.Prelude.{Contains}
use Rattle.std.specs.List.{AllByRecursion}
use Rattle.std.proofs.lemmas.Bool.Decides.{nat_tests}
use Rattle.acpi_values.specs.declared.idle.IdleKind.{IdleKind}
use Rattle.acpi_values.specs.declared.idle.IdleKind.TheVariants.{Lpi, Cst, Absent}
use Rattle.pw_plan.specs.declared.plan.Plan.{Plan}
use Rattle.pw_plan.specs.declared.request.Request.{Request}
use Rattle.pw_plan.specs.Groups.{has_member}
use Rattle.pw_plan.specs.Places.{cpu_at}
use Rattle.pw_plan.specs.Requests.{Has}
use Rattle.pw_plan.proofs.Lists.{any_at}
use Rattle.pw_model.specs.declared.state.State.{State}
use Rattle.pw_model.specs.States.{vote_of}
use Rattle.pw_model.specs.Answers.{states_along, states_by}
use Rattle.pw_model.specs.Containers.{ancestors, container_vote}
use Rattle.pw_model.specs.Domains.{c_state}
use Rattle.std.proofs.lemmas.List.{get_or-map, length-map}
use Rattle.pw_plan.specs.inner.Once.{Once}
use Rattle.pw_model.specs.Locality.{Apart}
use Rattle.pw_model.specs.Numbers.{HasWay, IsIn, NoneTwice}
use Rattle.pw_model.specs.Records.{IsRecord, Record, footprint, number_of, reach, record_count}
use Rattle.pw_model.specs.Routes.{ChainsFit, HasRoute, numbers}
use Rattle.pw_model.proofs.Ways.{has_way, numbers_tell, record_below}

-- # Chains

pub along_length : (P : Plan) (S : State) (ns : List ℕ) → length (states_along P S ns) ≤ length ns
along_length P S [] = omega arith
along_length P S (n ∷ ns) = step ((container_vote P S n).state == 0) (along_length P S ns)
  where
    step : (b : Bool) → length (states_along P S ns) ≤ length ns → length (cond b [] ((container_vote P S n).state ∷ states_along P S ns)) ≤ suc (length ns)
    step true le = omega arith
    step false le = omega (arith, le)

pub chains_fit : (P : Plan) → ChainsFit P
chains_fit P S p = by (cpu_at P p).idle.kind
  where
    fits : length ((vote_of S p).state ∷ states_along P S (ancestors P p)) ≤ 9
    fits = let a = along_length P S (ancestors P p) in let d = P.sound.small.depth p in omega (arith, a, d)

    by : (k : IdleKind) → length (states_by k (c_state P S p ∷ []) ((vote_of S p).state ∷ states_along P S (ancestors P p))) ≤ 9
    by Lpi = fits
    by Cst = omega arith
    by Absent = fits

-- # Numbers

not_in : (P : Plan) (r : Record) (rs : List Record) → IsRecord P r → AllByRecursion (IsRecord P) rs → (IsIn r rs → ⊥) → has_member (numbers P rs) (number_of P r) ≡ false
not_in P r [] a b out = refl
not_in P r (x ∷ rs) a b out = step (number_of P x == number_of P r) refl (not_in P r rs a b.1 (λ h. out (inr h)))
  where
    step : (t : Bool) → (number_of P x == number_of P r) ≡ t → has_member (numbers P rs) (number_of P r) ≡ false → (t || has_member (numbers P rs) (number_of P r)) ≡ false
    step true e later = absurd (out (inl (sym (numbers_tell P x r b.0 a (eqb-true (number_of P x) (number_of P r) e)))))
    step false e later = later

last_not_in : (P : Plan) (rs : List Record) → AllByRecursion (IsRecord P) rs → has_member (numbers P rs) (record_count P) ≡ false
last_not_in P [] a = refl
last_not_in P (r ∷ rs) a =
    let lt = record_below P r a.0 in
    let here : (number_of P r == record_count P) ≡ false = grind (arith, nat_tests) in
    let later = last_not_in P rs a.1 in
    rw here later

-- a number that isn't there and isn't the last isn't on the route
not_routed : (t last : ℕ) (ns : List ℕ) → has_member ns t ≡ false → t ≢ last → has_member (ns ++ last ∷ []) t ≡ false
not_routed t last [] e ne = let h : (last == t) ≡ false = grind (arith, nat_tests) in rw h refl
not_routed t last (n ∷ ns) e ne = step (n == t) e (not_routed t last ns)
  where
    step : (b : Bool) → (b || has_member ns t) ≡ false → (has_member ns t ≡ false → t ≢ last → has_member (ns ++ last ∷ []) t ≡ false) → (b || has_member (ns ++ last ∷ []) t) ≡ false
    step true e later = cc
    step false e later = later e ne

module _ (P : Plan) where
  routed_once : (t : ℕ) (rs : List Record) → AllByRecursion (IsRecord P) rs → NoneTwice rs → Once (λ u. u == t) (numbers P rs ++ record_count P ∷ [])
  routed_once t [] a n = (λ e. refl, tt)
  routed_once t (r ∷ rs) a n = (
    λ e.
        let same : number_of P r ≡ t = eqb-true (number_of P r) t e in
        let lt = record_below P r a.0 in
        rw (← same) (not_routed (number_of P r) (record_count P) (numbers P rs) (not_in P r rs a.0 a.1 n.0) (λ i. omega (arith, i, lt))),
    routed_once t rs a.1 n.1,
  )

  all_below : (rs : List Record) → AllByRecursion (IsRecord P) rs → AllByRecursion (λ t. t < record_count P + 1) (numbers P rs ++ record_count P ∷ [])
  all_below [] a = (omega arith, tt)
  all_below (r ∷ rs) a = (let lt = record_below P r a.0 in omega (arith, lt), all_below rs a.1)

  in_first : (r : Record) (k : ℕ) (rs : List Record) → IsIn r (take k rs) → IsIn r rs
  in_first r zero rs h = absurd h
  in_first r (suc k) [] h = absurd h
  in_first r (suc k) (x ∷ rs) (inl e) = inl e
  in_first r (suc k) (x ∷ rs) (inr h) = inr (in_first r k rs h)

  first_once : (k : ℕ) (rs : List Record) → NoneTwice rs → NoneTwice (take k rs)
  first_once zero rs n = tt
  first_once (suc k) [] n = tt
  first_once (suc k) (r ∷ rs) n = (λ h. n.0 (in_first r k rs h), first_once k rs n.1)

  first_exist : (k : ℕ) (rs : List Record) → AllByRecursion (IsRecord P) rs → AllByRecursion (IsRecord P) (take k rs)
  first_exist zero rs a = tt
  first_exist (suc k) [] a = tt
  first_exist (suc k) (r ∷ rs) a = (a.0, first_exist k rs a.1)

  contains_number : (r : Record) (ts : List Record) → Contains ts r → has_member (numbers P ts) (number_of P r) ≡ true
  contains_number r ts (k, lt, e) =
      any_at (λ u. u == number_of P r) (numbers P ts) k 0 (let n = length-map ts (number_of P) in omega (arith, n, lt))
      (eq-eqb (get_or (numbers P ts) k 0) (number_of P r) (get_or-map (number_of P) ts k r 0 lt ∙ ap (number_of P) e))

  pub has_route : (q : Request) → Has P q → HasRoute P q
  has_route q has =
      let way = has_way P q has in
      record {
        exist = exist way;
        within = λ S. all_below (footprint P S q) (exist way S);
        once = λ S t. routed_once t (footprint P S q) (exist way S) (subst (λ rs. NoneTwice rs) (sym (way.begins S).1) (first_once (way.begins S).0 (reach P q) way.once));
        apart = λ rs ts a b out. apart rs ts out;
      }
    where
      exist : HasWay P q → (S : State) → AllByRecursion (IsRecord P) (footprint P S q)
      exist way S = subst (λ rs. AllByRecursion (IsRecord P) rs) (sym (way.begins S).1) (first_exist (way.begins S).0 (reach P q) way.exist)

      apart : (rs ts : List Record) → AllByRecursion (λ t. has_member (numbers P ts) t ≡ false) (numbers P rs) → Apart rs ts
      apart [] ts out = tt
      apart (r ∷ rs) ts out = (λ c. let there = contains_number r ts c in let f : true ≡ false = sym there ∙ out.0 in cc, apart rs ts out.1)
