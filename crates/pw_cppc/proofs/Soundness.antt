-- What holds of every plan, of its lists alone.
use Rattle.std.proofs.Common.{◌≡◌, ◌<◌, ◌≤◌, ◌==◌, ◌&&◌, ◌||◌, ℕ, Bool, true, false, List, [], ◌∷◌, length, refl, ap, sym, ◌∙◌, arith, eqb-true, eq-eqb}
use Rattle.std.specs.Prelude.{All, Any, filter, is_some}
use Rattle.std.specs.List.{list_all, list_any, range_with_len, AllByRecursion}
use Rattle.std.proofs.lemmas.Bool.{ltb-true}
use Rattle.std.proofs.lemmas.List.{length-map}
use Rattle.std.proofs.lemmas.List.Elements.{All-from_recursion, recursion_from_All}
use Rattle.pw_plan.specs.Domains.{same_coord}
use Rattle.pw_plan.specs.Groups.{first_of, has_member}
use Rattle.pw_plan.proofs.Found.{found}
use Rattle.pw_plan.proofs.Lists.{and_both, and_first, and_second, any_at}
use Rattle.pw_plan.proofs.Ordered.{Sorted, each_weaker}
use Rattle.pw_plan.proofs.Placing.{OnlyOne, only_place}
use Rattle.pw_plan.proofs.Rising.{first_there, rises_of}
use Rattle.pw_cppc.specs.declared.parts.Control.TheVariants as controls
use Rattle.pw_cppc.specs.declared.parts.CppcParts.{CppcParts}
use Rattle.pw_cppc.specs.declared.plan.CppcDomain.{CppcDomain}
use Rattle.pw_cppc.specs.Parts.{has_cpc, highest_of, is_ranged, lowest_of, parts_in, register_of}
use Rattle.pw_cppc.specs.Domains.{IsDomain, domain_led_by, domains_of, leads, same_range, shown, together, unfit_by}
use Rattle.pw_cppc.specs.Sound.{IsSound, covers, no_domain}
use Rattle.pw_cppc.proofs.Kept.{first_least, kept_length, member_all, member_each}
use Rattle.pw_cppc.proofs.Listing.{all_are, each_domain, in_order, list_is, placed, stands_before}
use Rattle.pw_cppc.proofs.Together.{together_back, together_through}
use Rattle.pw_base.proofs.Facts.{is_false, or_none}

-- # At most one domain has a processor

module _ (ps : List CppcParts) where
  pub exists : (d : CppcDomain) → IsDomain ps d → (p : ℕ) → has_member d.members p ≡ true → p < length ps
  exists d is p e = (member_each (λ q. (q < length ps) × (has_cpc ps q ≡ true)) d.members (recursion_from_All (λ q. (q < length ps) × (has_cpc ps q ≡ true)) d.members is.exist) p e).0

  -- who is a member of both of two domains has one first member there
  pub not_after : (x y : CppcDomain) (p : ℕ) → IsDomain ps x → IsDomain ps y → has_member x.members p ≡ true → has_member y.members p ≡ true → first_of y.members ≤ first_of x.members
  not_after x y p is_x is_y on_x on_y =
      let lt = exists x is_x p on_x in
      let fx = first_of x.members in
      let fy = first_of y.members in
      let by_x : together ps fx p ≡ true = sym (is_x.joined p lt) ∙ on_x in
      let by_y : together ps fy p ≡ true = sym (is_y.joined p lt) ∙ on_y in
      let below = exists x is_x fx (first_there x.members is_x.some) in
      let there : has_member y.members fx ≡ true = is_y.joined fx below ∙ together_through ps fy p fx by_y (together_back ps fx p by_x) in
      first_least 0 fx y.members (rises_of y.members is_y.rising) there

  none_later : (x : CppcDomain) (ys : List CppcDomain) (p : ℕ) → IsDomain ps x → AllByRecursion (IsDomain ps) ys → AllByRecursion (λ y. stands_before x y ≡ true) ys → has_member x.members p ≡ true
      → list_any (covers p) ys ≡ false
  none_later x [] p is all before on = refl
  none_later x (y ∷ ys) p is all before on = or_none (covers p y) (list_any (covers p) ys)
      (is_false (covers p y) (λ e.
      let less = ltb-true (first_of x.members) (first_of y.members) before.0 in
      let le = not_after x y p is all.0 on e in
      absurd (omega (arith, less, le))))
      (none_later x ys p is all.1 before.1 on)

  only_one : (p : ℕ) (ds : List CppcDomain) → AllByRecursion (IsDomain ps) ds → Sorted stands_before ds → OnlyOne (covers p) ds
  only_one p [] all s = tt
  only_one p (d ∷ ds) all s = (λ e. none_later d ds p all.0 all.1 s.0 e, only_one p ds all.1 s.1)

-- # What a fit domain tells

fit : (a b c d e f : Bool) → unfit_by a b c d e f ≡ 0 → (d ≡ true) × (e ≡ true) × (f ≡ true)
fit false b c d e f h = cc
fit true false c d e f h = cc
fit true true false d e f h = cc
fit true true true false e f h = cc
fit true true true true false f h = cc
fit true true true true true false h = cc
fit true true true true true true h = (refl, refl, refl)

same_both : (a b c d e f : ℕ) → ((a == e) && (b == f)) ≡ true → ((c == e) && (d == f)) ≡ true → ((a == c) && (b == d)) ≡ true
same_both a b c d e f h i = and_both (a == c) (b == d)
    (eq-eqb a c (eqb-true a e (and_first (a == e) (b == f) h) ∙ sym (eqb-true c e (and_first (c == e) (d == f) i))))
    (eq-eqb b d (eqb-true b f (and_second (a == e) (b == f) h) ∙ sym (eqb-true d f (and_second (c == e) (d == f) i))))

module _ (ps : List CppcParts) (d : CppcDomain) (is : IsDomain ps d) (zero : d.unfit ≡ 0) where
  all_fit : (list_all (λ p. is_ranged (parts_in ps p)) d.members ≡ true)
      × (list_all (λ p. same_range (parts_in ps p) (parts_in ps (first_of d.members))) d.members ≡ true)
      × (list_all (λ p. is_some (register_of controls.Desired (parts_in ps p))) d.members ≡ true)
  all_fit = fit
      (list_all (λ p. same_coord (shown ps p).coord (shown ps (first_of d.members)).coord) d.members)
      (list_all (λ p. (shown ps p).processors == (shown ps (first_of d.members)).processors) d.members)
      ((shown ps (first_of d.members)).processors == length d.members)
      (list_all (λ p. is_ranged (parts_in ps p)) d.members)
      (list_all (λ p. same_range (parts_in ps p) (parts_in ps (first_of d.members))) d.members)
      (list_all (λ p. is_some (register_of controls.Desired (parts_in ps p))) d.members)
      (sym is.unfit ∙ zero)

  is_in_range : (p : ℕ) → has_member d.members p ≡ true → is_ranged (parts_in ps p) ≡ true
  is_in_range p e = member_all (λ p. is_ranged (parts_in ps p)) d.members all_fit.0 p e

  has_range : (p q : ℕ) → has_member d.members p ≡ true → has_member d.members q ≡ true → same_range (parts_in ps p) (parts_in ps q) ≡ true
  has_range p q e f =
      let first = parts_in ps (first_of d.members) in
      same_both (lowest_of (parts_in ps p)) (highest_of (parts_in ps p)) (lowest_of (parts_in ps q)) (highest_of (parts_in ps q)) (lowest_of first) (highest_of first)
      (member_all (λ p. same_range (parts_in ps p) first) d.members all_fit.1 p e) (member_all (λ p. same_range (parts_in ps p) first) d.members all_fit.1 q f)

  has_register : (p : ℕ) → has_member d.members p ≡ true → is_some (register_of controls.Desired (parts_in ps p)) ≡ true
  has_register p e = member_all (λ p. is_some (register_of controls.Desired (parts_in ps p))) d.members all_fit.2 p e

-- # The plan

any_passes : (p : ℕ) (ds : List CppcDomain) → Any (λ (d : CppcDomain). has_member d.members p ≡ true) ds → list_any (covers p) ds ≡ true
any_passes p ds a = any_at (covers p) ds a.0 a.1 a.2 (ap (covers p) a.3 ∙ a.4)

module _ (ps : List CppcParts) (few : length ps ≤ 256) where
  each : (P : CppcDomain → Type 0) → ((d : CppcDomain) → IsDomain ps d → P d) → All P (domains_of ps)
  each P h = All-from_recursion P (domains_of ps) (each_weaker (IsDomain ps) P (domains_of ps) h (all_are ps))

  count : length (domains_of ps) ≤ 256
  count =
      let n = kept_length (leads ps) 0 (length ps) in
      let m = length-map (filter (leads ps) (range_with_len 0 (length ps))) (domain_led_by ps) in
      rw (list_is ps, m) (omega (arith, n, few))

  size : (p : ℕ) → length (domain_led_by ps p).members ≤ 256
  size p = let n = kept_length (together ps p) 0 (length ps) in omega (arith, n, few)

  pub is_sound : IsSound ps (domains_of ps)
  is_sound = record {
    count = count;
    members = each (λ (d : CppcDomain). All (λ p. p < length ps) d.members) (λ d is. All-from_recursion (λ p. p < length ps) d.members
        (each_weaker (λ q. (q < length ps) × (has_cpc ps q ≡ true)) (λ p. p < length ps) d.members (λ p a. a.0) (recursion_from_All (λ q. (q < length ps)
        × (has_cpc ps q ≡ true)) d.members is.exist)));
    sizes = All-from_recursion (λ (d : CppcDomain). length d.members ≤ 256) (domains_of ps) (each_domain ps (λ (d : CppcDomain). length d.members ≤ 256) (λ p lt l. size p));
    placed = λ p lt has. found (covers p) (domains_of ps) (any_passes p (domains_of ps) (placed ps p lt has));
    only = λ d p lt e. only_place (covers p) (domains_of ps) d no_domain (only_one ps p (domains_of ps) (all_are ps) (in_order ps)) lt e;
    ranged = each (λ (d : CppcDomain). (p : ℕ) → d.unfit ≡ 0 → has_member d.members p ≡ true → is_ranged (parts_in ps p) ≡ true) (λ d is p zero e. is_in_range ps d is zero p e);
    one_range = each (λ (d : CppcDomain). (p q : ℕ) → d.unfit ≡ 0 → has_member d.members p ≡ true → has_member d.members q ≡ true → same_range (parts_in ps p) (parts_in ps q) ≡ true)
        (λ d is p q zero e f. has_range ps d is zero p q e f);
    registered = each (λ (d : CppcDomain). (p : ℕ) → d.unfit ≡ 0 → has_member d.members p ≡ true → is_some (register_of controls.Desired (parts_in ps p)) ≡ true)
        (λ d is p zero e. has_register ps d is zero p e);
  }
