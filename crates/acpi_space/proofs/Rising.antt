-- What stands above a place, and the search from a scope up to the root.
use Rattle.std.proofs.Common.{◌≡◌, ◌+◌, ◌-◌, ◌<◌, ◌≤◌, ℕ, zero, suc, List, [], ◌∷◌, ◌++◌, length, get_or, take}
use Rattle.std.proofs.Common.{sym, ap, subst, ◌∙◌, arith, inl, inr, ◌⊎◌}
use Rattle.std.specs.Prelude.{Contains}
use Rattle.std.specs.BTreeMap.{BTreeMap}
use Rattle.std.proofs.lemmas.Bool.{cases_lt}
use Rattle.std.proofs.lemmas.List.{length_push, get_or_default, take_all, take-take, take-append-le, length-take-le}
use Rattle.acpi_space.specs.declared.tree.Name.{Name}
use Rattle.acpi_space.specs.Places.{Place}
use Rattle.acpi_space.specs.inner.Trees.{Key, below, places_in, IsTree, IsAt, back_of, no_name, IsBeginning, IsClosed, IsNearest, IsNowhere, IsOrdered, IsRisen, IsLast, HasNoneFrom}
use Rattle.acpi_space.proofs.Trees.{take_none, length_in, root_at, named, same_index, root_or_below}
use Rattle.pw_base.proofs.Facts.{subst2}

-- ---- what stands above a place

-- a place has no more segments than its number
short_up_to : (ns : List Name) (map : BTreeMap Key ℕ) (most : ℕ) → IsTree ns map → (k : ℕ) → k ≤ most → k < length (places_in ns) → length (get_or (places_in ns) k []) ≤ k
short_up_to ns map zero tree k le l = let e : k ≡ 0 = omega (arith, le) in rw (e, (root_at ns).1) (omega arith)
short_up_to ns map (suc most) tree k le l = elim (root_or_below ns map k tree l) [
  | inl root ↦ rw (root, (root_at ns).1) (omega arith)
  | inr (i, is, within, up, stands) ↦
      let above : ℕ = (get_or ns i no_name).above in
      let size = length_in ns in
      let rest = short_up_to ns map most tree above (omega (arith, le, is, up)) (omega (arith, l, is, up)) in
      let more = length_push (get_or (places_in ns) above []) (get_or ns i no_name).seg in
      let whole = ap length stands in
      omega (arith, rest, more, whole, is, up)
]

pub short : (ns : List Name) (map : BTreeMap Key ℕ) (places : List Place) (k : ℕ) → IsTree ns map → places_in ns ≡ places → k < length places → length (get_or places k []) ≤ k
short ns map places k tree v l = subst (λ t. length (get_or t k []) ≤ k) v (short_up_to ns map k tree k (omega arith) (subst (λ t. k < length t) (sym v) l))

-- a beginning of a place that is longer by one is the place, or a beginning of what is above
shorter_beginning : (q place : Place) (s : List ℕ) → IsBeginning q (place ++ s ∷ []) → (q ≡ place ++ s ∷ []) ⊎ IsBeginning q place
shorter_beginning q place s e = elim (cases_lt (length place) (length q)) [
  | inl longer ↦ let more = length_push place s in inl (sym e ∙ take_all (length q) (place ++ s ∷ []) (omega (arith, longer, more)))
  | inr fits ↦ inr (sym (take-append-le (length q) place (s ∷ []) (omega (arith, fits))) ∙ e)
]

ordered_root : (ns : List Name) (map : BTreeMap Key ℕ) → IsTree ns map → (j k : ℕ) → k ≡ 0 → j < length (places_in ns)
    → IsBeginning (get_or (places_in ns) j []) (get_or (places_in ns) k []) → j ≤ k
ordered_root ns map tree j k root lj begins =
    let bare : get_or (places_in ns) k [] ≡ [] = ap (λ n. get_or (places_in ns) n []) root ∙ (root_at ns).1 in
    let none : take (length (get_or (places_in ns) j [])) [] ≡ get_or (places_in ns) j [] = ap (take (length (get_or (places_in ns) j []))) (sym bare) ∙ begins in
    let empty : get_or (places_in ns) j [] ≡ [] = sym none ∙ take_none (length (get_or (places_in ns) j [])) in
    let same = same_index (places_in ns) j 0 [] tree.distinct lj (root_at ns).0 (empty ∙ sym (root_at ns).1) in omega (arith, same)

ordered_up_to : (ns : List Name) (map : BTreeMap Key ℕ) (most : ℕ) → IsTree ns map → (j k : ℕ) → k ≤ most → j < length (places_in ns) → k < length (places_in ns)
    → IsBeginning (get_or (places_in ns) j []) (get_or (places_in ns) k []) → j ≤ k
ordered_up_to ns map zero tree j k le lj lk begins = ordered_root ns map tree j k (omega (arith, le)) lj begins
ordered_up_to ns map (suc most) tree j k le lj lk begins = elim (root_or_below ns map k tree lk) [
  | inl root ↦ ordered_root ns map tree j k root lj begins
  | inr (i, is, within, up, stands) ↦
      let above : ℕ = (get_or ns i no_name).above in
      let size = length_in ns in
      elim (shorter_beginning (get_or (places_in ns) j []) (get_or (places_in ns) above []) (get_or ns i no_name).seg (subst (IsBeginning (get_or (places_in ns) j [])) stands begins)) [
        | inl whole ↦ let same = same_index (places_in ns) j k [] tree.distinct lj lk (whole ∙ sym stands) in omega (arith, same)
        | inr further ↦
            let less = ordered_up_to ns map most tree j above (omega (arith, le, is, up)) lj (omega (arith, lk, is, up)) further in
            omega (arith, less, is, up)
      ]
]

pub ordered : (ns : List Name) (map : BTreeMap Key ℕ) (places : List Place) → IsTree ns map → places_in ns ≡ places → IsOrdered places
ordered ns map places tree v = subst IsOrdered v (λ j k lj lk begins. ordered_up_to ns map k tree j k (omega arith) lj lk begins)

-- ---- the places right before one that stand above it

pub record InRun (ns : List Name) (k i : ℕ) : Type 0 where
  pub within : i ≤ k
  pub fits : i ≤ length (get_or (places_in ns) k [])
  pub here : IsAt (places_in ns) (k - i) (take (length (get_or (places_in ns) k []) - i) (get_or (places_in ns) k []))

pub in_run : (ns : List Name) (map : BTreeMap Key ℕ) → IsTree ns map → (i k : ℕ) → k < length (places_in ns) → i ≤ back_of ns k → InRun ns k i
in_run ns map tree zero k l le = record {
  within = omega arith;
  fits = omega arith;
  here = (omega (arith, l), ap (λ n. get_or (places_in ns) n []) (omega arith) ∙ sym (take_all (length (get_or (places_in ns) k []) - 0) (get_or (places_in ns) k []) (omega arith)));
}
in_run ns map tree (suc i) zero l le = absurd (omega (arith, le))
in_run ns map tree (suc i) (suc m) l le =
    let size = length_in ns in
    let within : m < length ns = omega (arith, l, size) in
    elim (tree.back m no_name within) [
      | inl none ↦ absurd (omega (arith, none, le))
      | inr (up, most) ↦
          let rest = in_run ns map tree i m (omega (arith, l)) (omega (arith, most, le)) in
          let above : ℕ = (get_or ns m no_name).above in
          let shift : suc m ≡ m + 1 = omega arith in
          let whole : get_or (places_in ns) (suc m) [] ≡ get_or (places_in ns) m [] ++ (get_or ns m no_name).seg ∷ [] =
          ap (λ n. get_or (places_in ns) n []) shift ∙ named ns m no_name within (tree.above m no_name within)
          ∙ ap (λ n. get_or (places_in ns) n [] ++ (get_or ns m no_name).seg ∷ []) up in
          let q = get_or (places_in ns) m [] in
          let s = (get_or ns m no_name).seg in
          let count : length (get_or (places_in ns) (suc m) []) ≡ length q + 1 = ap length whole ∙ length_push q s in
          let fits = rest.fits in
          let inside = rest.within in
          let number : suc m - suc i ≡ m - i = omega arith in
          let left : length (get_or (places_in ns) (suc m) []) - suc i ≡ length q - i = omega (arith, count) in
          let front : take (length (get_or (places_in ns) (suc m) []) - suc i) (get_or (places_in ns) (suc m) []) ≡ take (length q - i) q =
          ap (λ n. take n (get_or (places_in ns) (suc m) [])) left ∙ ap (take (length q - i)) whole ∙ take-append-le (length q - i) q (s ∷ []) (omega arith) in
          record {
            within = omega (arith, inside);
            fits = omega (arith, count, fits);
            here = subst2 (IsAt (places_in ns)) (sym number) (sym front) rest.here;
          }
    ]

-- ---- the search from a scope

pub record Sought (places : List Place) (scope : Place) (seg : List ℕ) (at : ℕ) : Type 0 where
  pub inside : at < length places
  pub kept : ℕ
  pub within : kept ≤ length scope
  pub is : get_or places at [] ≡ take kept scope
  pub missed : (n : ℕ) → kept < n → n ≤ length scope → Contains places (take n scope ++ seg ∷ []) → ⊥

pub sought_first : (places : List Place) (at : ℕ) (seg : List ℕ) → at < length places → Sought places (get_or places at []) seg at
sought_first places at seg inside = record {
  inside = inside;
  kept = length (get_or places at []);
  within = omega arith;
  is = sym (take_all (length (get_or places at [])) (get_or places at []) (omega arith));
  missed = λ n more fits. absurd (omega (arith, more, fits));
}

-- ---- one rise

-- the place above, where it is the next one up
pub risen_above : (places : List Place) (at least above : ℕ) (s : List ℕ) → get_or places at [] ≡ below places above s → above < at → IsRisen places at least above
risen_above places at least above s is less =
    let count = ap length is in
    let more = length_push (get_or places above []) s in
    record {
      less = less;
      above = ap (take (length (get_or places above []))) is ∙ take-append-le (length (get_or places above [])) (get_or places above []) (s ∷ []) (omega arith)
          ∙ take_all (length (get_or places above [])) (get_or places above []) (omega arith);
      shorter = omega (arith, count, more);
      passed = λ n past before. absurd (omega (arith, count, more, past, before));
    }

-- a place so many steps before one, where these all stand above it
pub risen_by : (ns : List Name) (map : BTreeMap Key ℕ) (places : List Place) (at least i : ℕ) → IsTree ns map → places_in ns ≡ places → at < length places
    → 0 < i → i ≤ back_of ns at → least + i ≤ at → IsRisen places at least (at - i)
risen_by ns map places at least i tree v l some le far = subst (λ t. IsRisen t at least (at - i)) v (
    let q = get_or (places_in ns) at [] in
    let run = in_run ns map tree i at (subst (λ t. at < length t) (sym v) l) le in
    let fits = run.fits in
    let is : get_or (places_in ns) (at - i) [] ≡ take (length q - i) q = run.here.1 in
    let size : length (get_or (places_in ns) (at - i) []) ≡ length q - i = ap length is ∙ length-take-le (length q - i) q (omega arith) in
    record {
      less = omega (arith, some, far);
      above = ap (λ n. take n q) size ∙ sym is;
      shorter = omega (arith, some, fits, size);
      passed = λ n past before. (
          let steps : ℕ = length q - n in
          let fewer : length q - n < i = omega (arith, past, size, fits) in
          let other = in_run ns map tree (length q - n) at (subst (λ t. at < length t) (sym v) l) (omega (arith, fewer, le)) in
          let back : length q - (length q - n) ≡ n = omega (arith, before) in
          (at - (length q - n), omega (arith, fewer, far), subst (λ m. IsAt (places_in ns) (at - (length q - n)) (take m q)) back other.here));
    })

-- ---- the search

pub sought_nowhere : (places : List Place) (scope : Place) (seg : List ℕ) (at : ℕ) → IsClosed places → IsOrdered places → Sought places scope seg at → HasNoneFrom places seg 0 at
    → IsNowhere places scope seg
sought_nowhere places scope seg at closed ordered sought none n fits among = elim (cases_lt sought.kept n) [
  | inl more ↦ sought.missed n more fits among
  | inr under ↦
      let q = take n scope in
      let there : Contains places q = closed q seg among in
      let j : ℕ = there.0 in
      let is : get_or places there.0 [] ≡ q = get_or_default places there.0 [] q there.1 ∙ there.2 in
      let size : length q ≡ n = length-take-le n scope fits in
      let begins : IsBeginning (get_or places there.0 []) (get_or places at []) =
      subst2 IsBeginning (sym is) (sym sought.is) (ap (λ m. take m (take sought.kept scope)) size ∙ take-take n sought.kept scope (omega (arith, under))) in
      let before = ordered there.0 at there.1 sought.inside begins in
      none there.0 (omega arith) before (subst (λ (p : Place). Contains places (p ++ seg ∷ [])) (sym is) among)
]

pub sought_risen : (places : List Place) (scope : Place) (seg : List ℕ) (at k : ℕ) (last : ℕ × ℕ) → IsOrdered places → Sought places scope seg at → IsLast places seg at last
    → last.0 < at → IsRisen places at last.0 k → Sought places scope seg k
sought_risen places scope seg at k last ordered sought found far risen =
    let q = get_or places at [] in
    let p = get_or places k [] in
    let fits = sought.within in
    let whole : length q ≡ sought.kept = ap length sought.is ∙ length-take-le sought.kept scope fits in
    let shorter = risen.shorter in
    let less = risen.less in
    let inside = sought.inside in
    let front : (n : ℕ) → n ≤ sought.kept → take n q ≡ take n scope = λ n le. ap (take n) sought.is ∙ take-take n sought.kept scope le in
    record {
      inside = omega arith;
      kept = length p;
      within = omega arith;
      is = sym risen.above ∙ front (length p) (omega arith);
      missed = λ n past le among. elim (cases_lt sought.kept n) [
        | inl more ↦ sought.missed n more le among
        | inr under ↦ elim (cases_lt n sought.kept) [
          | inl before ↦
              let passed = risen.passed n past (omega (arith, before, whole)) in
              let is : get_or places passed.0 [] ≡ take n scope = passed.2.1 ∙ front n (omega (arith, before)) in
              let begins : IsBeginning (get_or places passed.0 []) q = ap (λ (x : Place). take (length x) q) is
              ∙ ap (λ m. take m q) (length-take-le n scope le) ∙ front n (omega (arith, before)) ∙ sym is in
              let early = ordered passed.0 at passed.2.0 sought.inside begins in
              found.none passed.0 (omega (arith, passed.1)) early (subst (λ (x : Place). Contains places (x ++ seg ∷ [])) (sym is) among)
          | inr end ↦
              let same : n ≡ sought.kept = omega (arith, under, end) in
              let is : q ≡ take n scope = sought.is ∙ ap (λ m. take m scope) (sym same) in
              found.none at (omega (arith, far)) (omega arith) (subst (λ (x : Place). Contains places (x ++ seg ∷ [])) (sym is) among)
        ]
      ];
    }

-- the last place that has the segment is still the last one further up
pub last_on : (places : List Place) (seg : List ℕ) (at k : ℕ) (last : ℕ × ℕ) → IsLast places seg at last → k < at → last.0 ≤ k → IsLast places seg k last
last_on places seg at k last found less within = record {
  within = within;
  here = found.here;
  none = λ a least most among. found.none a least (omega (arith, most, less)) among;
}

pub sought_nearest : (places : List Place) (scope : Place) (seg : List ℕ) (at : ℕ) (last : ℕ × ℕ) → Sought places scope seg at → IsLast places seg at last → at ≤ last.0
    → IsNearest places scope seg last.1
sought_nearest places scope seg at last sought found end =
    let within = found.within in
    let same : last.0 ≡ at = omega (arith, end, within) in
    record {
      kept = sought.kept;
      within = sought.within;
      here = subst (λ (x : Place). IsAt places last.1 (x ++ seg ∷ [])) (ap (λ k. get_or places k []) same ∙ sought.is) found.here;
      first = sought.missed;
    }

pub back_read : (ns : List Name) (at : ℕ) (n : Name) → 0 < at → n ≡ get_or ns (at - 1) n → at < length (places_in ns) → n.back ≡ back_of ns at
back_read ns zero n some is l = absurd (omega (arith, some))
back_read ns (suc i) n some is l =
    let size = length_in ns in
    ap (λ (m : Name). m.back) (is ∙ ap (λ k. get_or ns k n) (omega arith) ∙ get_or_default ns i n no_name (omega (arith, l, size)))
