-- The plan of its parts tells what the laws ask of it.
use Rattle.std.proofs.Common.{◌≡◌, ◌<◌, ◌≤◌, ◌+◌, ◌==◌, ◌||◌, ◌&&◌, not, ℕ, suc, zero, Bool, true, false, cond, List, [], ◌∷◌, ◌++◌, map, length, get_or, Option, Some, None, refl, sym, ◌∙◌, ap, subst, arith, zero-add, inl, inr, eqb-true, eq-eqb}
use Rattle.std.specs.Prelude.{All, count_by, filter, find, is_some}
use Rattle.std.specs.Option.{option_map}
use Rattle.std.specs.List.{list_any, AllByRecursion}
use Rattle.std.specs.List.Sorted.{IsStrictlyIncreasing}
use Rattle.std.proofs.lemmas.Bool.{cases_lt}
use Rattle.std.proofs.lemmas.Bool.Decides.{nat_tests}
use Rattle.std.proofs.lemmas.List.{get_or-map, get_or_past, get_or_default, length-map}
use Rattle.std.proofs.lemmas.List.Elements.{All-from_recursion}
use Rattle.std.proofs.lemmas.List.Sums.{sum_by-cons}
use Rattle.std.proofs.lemmas.List.FromFn.{get_or-map-range_with_len, length-map-range_with_len}
use Rattle.acpi_values.specs.declared.dependency.CDependency.{CDependency}
use Rattle.acpi_values.specs.declared.idle.IdleKind.TheVariants.{Cst}
use Rattle.pw_plan.specs.declared.domain.Child.{Child}
use Rattle.pw_plan.specs.declared.domain.Child.TheVariants.{Cpu, Container}
use Rattle.pw_plan.specs.declared.domain.Domain.{Domain}
use Rattle.pw_plan.specs.declared.domain.DomainKind.{DomainKind}
use Rattle.pw_plan.specs.declared.domain.DomainKind.TheVariants.{Perf, Throttle, Idle}
use Rattle.pw_plan.specs.declared.domain.Group.{Group}
use Rattle.pw_plan.specs.declared.domains.DomainName.{DomainName}
use Rattle.pw_plan.specs.declared.parts.ContainerParts.{ContainerParts}
use Rattle.pw_plan.specs.declared.parts.CpuParts.{CpuParts}
use Rattle.pw_plan.specs.Domains.{as_dependency, is_alone, is_in}
use Rattle.pw_plan.specs.inner.DomainList.{all_domains, domain_with, domains_of, is_known, led_by, members_of, named_domains, names_of, own_domain}
use Rattle.pw_plan.specs.Groups.{no_group, AreGroups, here, onward, domain_in, first_of, has_member, is_idle, is_link, is_linked, no_domain}
use Rattle.pw_plan.specs.Parts.{PartsFit, container_in, cpu_in, no_container, no_cpu, scale_of}
use Rattle.pw_plan.specs.Planning.{IsPlanOf}
use Rattle.pw_plan.specs.Tree.{all_children, children_of, is_number, places_from}
use Rattle.pw_plan.proofs.Grouping.{are_groups}
use Rattle.pw_plan.proofs.Lines.{parent_below}
use Rattle.pw_plan.proofs.Lists.{and_both, and_first, and_second, any_append_left, any_append_right, any_at, any_false, each_append, each_flat_map, first_place, places-has, places-only}
use Rattle.pw_plan.proofs.Soundness.{members_exist}
use Rattle.pw_plan.specs.inner.Once.{Once}
use Rattle.pw_plan.specs.Orderly.{IsOrderly, child_in, group_in, is_cst, is_same, is_scaled}
use Rattle.pw_plan.proofs.Found.{found, passes}
use Rattle.pw_plan.proofs.Listing.{listed_are}
use Rattle.pw_plan.proofs.Rising.{Rises, first_there, least_first, places_rise, rises_of, rising_is}

-- # Children

pub same_child : (c d : Child) → is_same c d ≡ true → c ≡ d
same_child (Cpu p) (Cpu q) e = ap (λ k. Cpu k) (sym (eqb-true q p e))
same_child (Cpu p) (Container n) e = cc
same_child (Container m) (Cpu q) e = cc
same_child (Container m) (Container n) e = ap (λ k. Container k) (sym (eqb-true n m e))

pub itself : (c : Child) → is_same c c ≡ true
itself (Cpu p) = eq-eqb p p refl
itself (Container n) = eq-eqb n n refl

abbrev listing : List ℕ → List ℕ → List Child
listing xs ys = map (λ m. Container m) xs ++ map (λ p. Cpu p) ys

cpu_none : (low p : ℕ) (ys : List ℕ) → Rises low ys → p < low → list_any (is_same (Cpu p)) (map (λ q. Cpu q) ys) ≡ false
cpu_none low p [] r lt = refl
cpu_none low p (y ∷ ys) r lt =
    let le = r.0 in
    let here : (y == p) ≡ false = grind (arith, nat_tests) in
    let later = cpu_none (suc y) p ys r.1 (omega (arith, le, lt)) in
    rw here later

cpu_once : (low p : ℕ) (ys : List ℕ) → Rises low ys → Once (is_same (Cpu p)) (map (λ q. Cpu q) ys)
cpu_once low p [] r = tt
cpu_once low p (y ∷ ys) r = (λ e. cpu_none (suc y) p ys r.1 (let i = eqb-true y p e in omega (arith, i)), cpu_once (suc y) p ys r.1)

container_none_there : (m : ℕ) (ys : List ℕ) → list_any (is_same (Container m)) (map (λ q. Cpu q) ys) ≡ false
container_none_there m [] = refl
container_none_there m (y ∷ ys) = container_none_there m ys

container_none : (low m : ℕ) (xs ys : List ℕ) → Rises low xs → m < low → list_any (is_same (Container m)) (listing xs ys) ≡ false
container_none low m [] ys r lt = container_none_there m ys
container_none low m (x ∷ xs) ys r lt =
    let le = r.0 in
    let here : (x == m) ≡ false = grind (arith, nat_tests) in
    let later = container_none (suc x) m xs ys r.1 (omega (arith, le, lt)) in
    rw here later

container_never : (m : ℕ) (ys : List ℕ) → Once (is_same (Container m)) (map (λ q. Cpu q) ys)
container_never m [] = tt
container_never m (y ∷ ys) = (λ e. container_none_there m ys, container_never m ys)

listing_once : (c : Child) (low high : ℕ) (xs ys : List ℕ) → Rises low xs → Rises high ys → Once (is_same c) (listing xs ys)
listing_once (Cpu p) low high [] ys r s = cpu_once high p ys s
listing_once (Cpu p) low high (x ∷ xs) ys r s = (λ e. absurd (cc), listing_once (Cpu p) (suc x) high xs ys r.1 s)
listing_once (Container m) low high [] ys r s = container_never m ys
listing_once (Container m) low high (x ∷ xs) ys r s =
    (λ e. container_none (suc x) m xs ys r.1 (let i = eqb-true x m e in omega (arith, i)), listing_once (Container m) (suc x) high xs ys r.1 s)

once_at : (zs : List Child) → ((c : Child) → Once (is_same c) zs) → (j k : ℕ) → j < k → k < length zs → is_same (get_or zs j (Cpu 0)) (get_or zs k (Cpu 0)) ≡ false
once_at [] h j k lt in_it = absurd (omega arith)
once_at (z ∷ zs) h zero zero lt in_it = absurd (omega arith)
once_at (z ∷ zs) h zero (suc k) lt in_it = any_false (is_same z) zs k (Cpu 0) ((h z).0 (itself z)) (omega arith)
once_at (z ∷ zs) h (suc j) zero lt in_it = absurd (omega arith)
once_at (z ∷ zs) h (suc j) (suc k) lt in_it = once_at zs (λ c. (h c).1) j k (omega arith) (omega arith)

any_cpu : (ys : List ℕ) (p : ℕ) → has_member ys p ≡ true → list_any (is_same (Cpu p)) (map (λ q. Cpu q) ys) ≡ true
any_cpu [] p e = cc
any_cpu (y ∷ ys) p e = step (y == p) e (any_cpu ys p)
  where
    step : (b : Bool) → (b || has_member ys p) ≡ true → (has_member ys p ≡ true → list_any (is_same (Cpu p)) (map (λ q. Cpu q) ys) ≡ true)
        → (b || list_any (is_same (Cpu p)) (map (λ q. Cpu q) ys)) ≡ true
    step true e later = refl
    step false e later = later e

any_container : (xs : List ℕ) (m : ℕ) → has_member xs m ≡ true → list_any (is_same (Container m)) (map (λ n. Container n) xs) ≡ true
any_container [] m e = cc
any_container (x ∷ xs) m e = step (x == m) e (any_container xs m)
  where
    step : (b : Bool) → (b || has_member xs m) ≡ true → (has_member xs m ≡ true → list_any (is_same (Container m)) (map (λ n. Container n) xs) ≡ true)
        → (b || list_any (is_same (Container m)) (map (λ n. Container n) xs)) ≡ true
    step true e later = refl
    step false e later = later e

is_its : (n : ℕ) (parent : Option ℕ) → parent ≡ Some n → is_number n parent ≡ true
is_its n None e = cc
is_its n (Some m) e = let i : m ≡ n = cc in eq-eqb m n i

-- the members of an idle domain that software coordinates have C states
abbrev HasCStates : List CpuParts → Domain → Type 0
HasCStates ps d = (p : ℕ) → is_link d ≡ true → has_member d.members p ≡ true → (cpu_in ps p).idle.kind ≡ Cst

module _ (cs : List ContainerParts) (ps : List CpuParts) (fit : PartsFit cs ps) where
  abbrev below : ℕ → List ℕ
  below n = places_from (λ (c : ContainerParts). is_number n c.parent) 0 cs

  abbrev beside : ℕ → List ℕ
  beside n = places_from (λ (c : CpuParts). is_number n c.parent) 0 ps

  children_at_is : (n : ℕ) → n < length cs → get_or (all_children cs ps) n [] ≡ listing (below n) (beside n)
  children_at_is n lt = get_or-map-range_with_len (children_of cs ps) 0 (length cs) n n [] lt (zero-add n)

  once : (n j k : ℕ) → j < k → k < length (get_or (all_children cs ps) n []) → is_same (child_in (all_children cs ps) n j) (child_in (all_children cs ps) n k) ≡ false
  once n j k lt in_it = elim (cases_lt n (length cs)) [
    | inl in_cs ↦
        once_at (get_or (all_children cs ps) n []) (λ c. subst (λ (zs : List Child). Once (is_same c) zs) (sym (children_at_is n in_cs))
        (listing_once c 0 0 (below n) (beside n) (places_rise (λ (c : ContainerParts). is_number n c.parent) 0 cs) (places_rise (λ (c : CpuParts). is_number n c.parent) 0 ps))) j k lt in_it
    | inr past ↦
        let none = ap length (get_or_past (all_children cs ps) n [] (rw (length-map-range_with_len (children_of cs ps) 0 (length cs)) past)) in
        absurd (omega (arith, none, in_it))
  ]

  listed : (n p : ℕ) → p < length ps → (cpu_in ps p).parent ≡ Some n → list_any (is_same (Cpu p)) (get_or (all_children cs ps) n []) ≡ true
  listed n p lt e =
      let in_cs = parent_below (length cs) n (cpu_in ps p).parent (fit.processors p lt) e in
      let on : has_member (beside n) p ≡ true = rw zero-add at (places-has (λ (c : CpuParts). is_number n c.parent) 0 ps p no_cpu lt (is_its n (cpu_in ps p).parent e)) in
      ap (list_any (is_same (Cpu p))) (children_at_is n in_cs) ∙ any_append_right (is_same (Cpu p)) (map (λ m. Container m) (below n)) (map (λ q. Cpu q) (beside n)) (any_cpu (beside n) p on)

  nested : (n m : ℕ) → m < length cs → (container_in cs m).parent ≡ Some n → list_any (is_same (Container m)) (get_or (all_children cs ps) n []) ≡ true
  nested n m lt e =
      let up = parent_below m n (container_in cs m).parent (fit.containers m lt) e in
      let on : has_member (below n) m ≡ true = rw zero-add at (places-has (λ (c : ContainerParts). is_number n c.parent) 0 cs m no_container lt (is_its n (container_in cs m).parent e)) in
      ap (list_any (is_same (Container m))) (children_at_is n (omega (arith, up, lt))) ∙ any_append_left (is_same (Container m)) (map (λ k. Container k) (below n)) (map (λ q. Cpu q) (beside n))
      (any_container (below n) m on)

  -- # Domains

  each_kind : (Q : Domain → Type 0) (kind : DomainKind)
      → ((q : ℕ) → is_alone (scale_of kind (cpu_in ps q)) ≡ true → Q (domain_with kind None ps q (q ∷ [])))
      → ((q : ℕ) (d : DomainName) → Q (domain_with kind (Some d) ps q (members_of kind ps d)))
      → AllByRecursion Q (domains_of kind ps)
  each_kind Q kind own named = each_flat_map Q (led_by kind ps) 0 (length ps) (λ q le lt.
      each_append Q (own_domain kind ps q) (named_domains kind ps q (names_of kind (cpu_in ps q))) (alone q (is_alone (scale_of kind (cpu_in ps q))) refl)
      (mapped (filter (λ d. not (is_known kind ps q d)) (names_of kind (cpu_in ps q))) q))
    where
      alone : (q : ℕ) (b : Bool) → is_alone (scale_of kind (cpu_in ps q)) ≡ b → AllByRecursion Q (cond b (domain_with kind None ps q (q ∷ []) ∷ []) [])
      alone q true e = (own q e, tt)
      alone q false e = tt

      mapped : (names : List DomainName) (q : ℕ) → AllByRecursion Q (map (λ d. domain_with kind (Some d) ps q (members_of kind ps d)) names)
      mapped [] q = tt
      mapped (d ∷ names) q = (named q d, mapped names q)

  each_domain : (Q : Domain → Type 0) → ((kind : DomainKind) → AllByRecursion Q (domains_of kind ps)) → AllByRecursion Q (all_domains ps)
  each_domain Q h = each_append Q (domains_of Perf ps ++ domains_of Throttle ps) (domains_of Idle ps) (each_append Q (domains_of Perf ps) (domains_of Throttle ps) (h Perf) (h Throttle)) (h Idle)

  abbrev MembersRise : Domain → Type 0
  MembersRise d = IsStrictlyIncreasing d.members

  members : AllByRecursion MembersRise (all_domains ps)
  members = each_domain MembersRise (λ kind. each_kind MembersRise kind (λ q e. rising_is 0 (q ∷ []) (omega arith, tt)) (λ q d. rising_is 0 (members_of kind ps d) (places_rise (is_in kind d) 0 ps)))

  entries_some : (t : CDependency → Bool) (es : List CDependency) → is_some (option_map as_dependency (find t es)) ≡ true → 0 < length es
  entries_some t [] e = cc
  entries_some t (x ∷ es) e = omega arith

  c_states_of : (kind : DomainKind) → AllByRecursion (HasCStates ps) (domains_of kind ps)
  c_states_of Perf = each_kind (HasCStates ps) Perf (λ q e p link on. cc) (λ q d p link on. cc)
  c_states_of Throttle = each_kind (HasCStates ps) Throttle (λ q e p link on. cc) (λ q d p link on. cc)
  c_states_of Idle = each_kind (HasCStates ps) Idle (λ q e p link on. cc) (λ q d p link on.
      let at = places-only (is_in Idle d) 0 ps p no_cpu on in
      let same : at.0 ≡ p = omega (arith, at.1) in
      rw same at ((fit.csd at.0 at.2).kind 0 (entries_some _ (cpu_in ps at.0).csd at.3)))

  c_states : AllByRecursion (HasCStates ps) (all_domains ps)
  c_states = each_domain (HasCStates ps) c_states_of

  -- # Domains of scales come first

  scaled_kind : (kind : DomainKind) → is_idle kind ≡ false → AllByRecursion (λ d. is_scaled d ≡ true) (domains_of kind ps)
  scaled_kind kind e = each_kind (λ d. is_scaled d ≡ true) kind (λ q a. ap not e) (λ q d. ap not e)

  idle_kind : AllByRecursion (λ d. is_scaled d ≡ false) (domains_of Idle ps)
  idle_kind = each_kind (λ d. is_scaled d ≡ false) Idle (λ q a. refl) (λ q d. refl)

first_scaled : (xs ys : List Domain) (x : Domain) → AllByRecursion (λ d. is_scaled d ≡ true) xs → AllByRecursion (λ d. is_scaled d ≡ false) ys
    → (k : ℕ) → k < length (xs ++ ys) → is_scaled (get_or (xs ++ ys) k x) ≡ true → k < count_by is_scaled (xs ++ ys)
first_scaled [] ys x a b k lt e = let f = All-from_recursion (λ d. is_scaled d ≡ false) ys b k x lt in absurd (cc)
first_scaled (y ∷ xs) ys x a b k lt e =
    let more : count_by is_scaled (y ∷ (xs ++ ys)) ≡ suc (count_by is_scaled (xs ++ ys)) =
    sum_by-cons (λ (d : Domain). cond (is_scaled d) 1 0) y (xs ++ ys) ∙ ap (λ t. cond t 1 0 + count_by is_scaled (xs ++ ys)) a.0 ∙ one_more (count_by is_scaled (xs ++ ys)) in
    rw more (step k lt e (first_scaled xs ys x a.1 b))
  where
    one_more : (n : ℕ) → 1 + n ≡ suc n
    one_more n = omega arith

    step : (k : ℕ) → k < length (y ∷ (xs ++ ys)) → is_scaled (get_or (y ∷ (xs ++ ys)) k x) ≡ true
        → ((i : ℕ) → i < length (xs ++ ys) → is_scaled (get_or (xs ++ ys) i x) ≡ true → i < count_by is_scaled (xs ++ ys)) → k < suc (count_by is_scaled (xs ++ ys))
    step zero lt e later = omega arith
    step (suc i) lt e later = let r = later i (omega arith) e in omega (arith, r)

-- # Groups

-- numbers that rise are told apart by their places
rises_past : (low : ℕ) (xs : List ℕ) → Rises low xs → (k : ℕ) → k < length xs → low ≤ get_or xs k 0
rises_past low [] r k lt = absurd (omega arith)
rises_past low (x ∷ xs) r zero lt = r.0
rises_past low (x ∷ xs) r (suc k) lt = let a = r.0 in let b = rises_past (suc x) xs r.1 k (omega arith) in omega (arith, a, b)

rises_at : (low : ℕ) (xs : List ℕ) → Rises low xs → (j k : ℕ) → j < k → k < length xs → get_or xs j 0 < get_or xs k 0
rises_at low [] r j k lt in_it = absurd (omega arith)
rises_at low (x ∷ xs) r zero zero lt in_it = absurd (omega arith)
rises_at low (x ∷ xs) r zero (suc k) lt in_it = rises_past (suc x) xs r.1 k (omega arith)
rises_at low (x ∷ xs) r (suc j) zero lt in_it = absurd (omega arith)
rises_at low (x ∷ xs) r (suc j) (suc k) lt in_it = rises_at (suc x) xs r.1 j k (omega arith) (omega arith)

first_least : (ms : List ℕ) → IsStrictlyIncreasing ms → (q : ℕ) → has_member ms q ≡ true → first_of ms ≤ q
first_least [] inc q on = cc
first_least (m ∷ ms) inc q on = least_first m q (m ∷ ms) (omega arith, (rises_of (m ∷ ms) inc).1) on

module _ (ds : List Domain) (gs : List Group) (are : AreGroups ds gs) where
  abbrev at : ℕ → Group
  at g = get_or gs g no_group

  firsts : List ℕ
  firsts = map (λ (g : Group). first_of g.members) gs

  first_at : (g : ℕ) → g < length gs → get_or firsts g 0 ≡ first_of (at g).members
  unfolding firsts
  first_at g lt = get_or-map (λ (x : Group). first_of x.members) gs g no_group 0 lt

  -- a group that has a processor of another begins no later than it
  no_later : (g h p : ℕ) → g < length gs → h < length gs → has_member (at g).members p ≡ true → has_member (at h).members p ≡ true → first_of (at h).members ≤ first_of (at g).members
  no_later g h p lg lh on also =
      let f = first_of (at g).members in
      let chain = are.joined g no_group lg p f on (first_there (at g).members (are.some g no_group lg)) in
      first_least (at h).members (are.rising h no_group lh) f (are.whole h no_group lh p f also chain)

  same_group : (g h p : ℕ) → g < length gs → h < length gs → has_member (at g).members p ≡ true → has_member (at h).members p ≡ true → g < h → ⊥
  unfolding firsts
  same_group g h p lg lh on also lt =
      let a = no_later h g p lh lg also on in
      let b = no_later g h p lg lh on also in
      let rise = rises_at 0 firsts (rises_of firsts are.order) g h lt (let n = length-map gs (λ (x : Group). first_of x.members) in omega (arith, n, lh)) in
      let i = first_at g lg in
      let j = first_at h lh in
      omega (arith, a, b, rise, i, j)

  -- who is in a group is found there
  found_in : (p : ℕ) → list_any (λ (g : Group). has_member g.members p) gs ≡ true → (group_in gs p < length gs) × (has_member (at (group_in gs p)).members p ≡ true)
  found_in p e =
      let lt = found (λ (g : Group). has_member g.members p) gs e in
      (lt, passes (λ (g : Group). has_member g.members p) gs no_group lt)

  one_group : (g p : ℕ) → g < length gs → has_member (at g).members p ≡ true → group_in gs p ≡ g
  one_group g p lt on =
      let f = found_in p (any_at (λ (g : Group). has_member g.members p) gs g no_group lt on) in
      elim (cases_lt (group_in gs p) g) [
        | inl less ↦ absurd (same_group (group_in gs p) g p f.0 lt f.1 on less)
        | inr ge ↦ elim (cases_lt g (group_in gs p)) [
          | inl more ↦ absurd (same_group g (group_in gs p) p lt f.0 on f.1 more)
          | inr le ↦ omega (arith, ge, le)
        ]
      ]

  together : All (λ (d : Domain). (p q : ℕ) → is_link d ≡ true → has_member d.members p ≡ true → has_member d.members q ≡ true → (group_in gs p < length gs)
      × (has_member (at (group_in gs p)).members q ≡ true)) ds
  together k x lt p q link on also =
      let is : get_or ds k x ≡ domain_in ds k = get_or_default ds k x no_domain lt in
      let linked : is_linked ds p ≡ true = any_at (λ (d : Domain). is_link d && has_member d.members p) ds k x lt (and_both (is_link (get_or ds k x)) (has_member (get_or ds k x).members p) link on) in
      let f = found_in p (are.covered p linked) in
      (f.0, are.whole (group_in gs p) no_group f.0 p q f.1 (onward p q k here lt (rw is at link) (rw is at on) (rw is at also)))

  group_kind : (ps : List CpuParts) → AllByRecursion (HasCStates ps) ds → All (λ (g : Group). (p : ℕ) → has_member g.members p ≡ true → is_cst (cpu_in ps p).idle.kind ≡ true) gs
  group_kind ps h g x lt p on =
      let r = first_place (λ (d : Domain). is_link d && has_member d.members p) ds no_domain (are.linked g x lt p on) in
      ap is_cst (All-from_recursion (HasCStates ps) ds h r.0 no_domain r.1 p (and_first (is_link (domain_in ds r.0)) (has_member (domain_in ds r.0).members p) r.2)
      (and_second (is_link (domain_in ds r.0)) (has_member (domain_in ds r.0).members p) r.2))

-- # The plan of its parts

pub orderly : (cs : List ContainerParts) (ps : List CpuParts) (children : List (List Child)) (ds : List Domain) (gs : List Group) → IsPlanOf cs ps children ds gs → IsOrderly cs ps children ds gs
orderly cs ps children ds gs plan =
    let ds_are = listed_are ps ds plan.fit.csd plan.domains_are in
    let exist : All (λ (d : Domain). All (λ p. p < length ps) d.members) ds = rw ds_are (members_exist cs ps plan.within) in
    let are : AreGroups ds gs = rw plan.groups_are (are_groups ds (length ps) exist) in
    record {
      listed = rw plan.children_are (listed cs ps plan.fit);
      nested = rw plan.children_are (nested cs ps plan.fit);
      once = rw plan.children_are (once cs ps plan.fit);
      members = rw ds_are (All-from_recursion (λ (d : Domain). IsStrictlyIncreasing d.members) (all_domains ps) (members cs ps plan.fit));
      scaled_first = rw ds_are (λ d lt e. first_scaled (domains_of Perf ps ++ domains_of Throttle ps) (domains_of Idle ps) no_domain
          (each_append (λ (d : Domain). is_scaled d ≡ true) (domains_of Perf ps) (domains_of Throttle ps) (scaled_kind cs ps plan.fit Perf refl) (scaled_kind cs ps plan.fit Throttle refl))
          (idle_kind cs ps plan.fit) d lt e);
      grouped = are.rising;
      kind = group_kind ds gs are ps (rw ds_are (c_states cs ps plan.fit));
      one_group = one_group ds gs are;
      together = together ds gs are;
    }
