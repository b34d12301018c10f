-- Names: what is written spells the path, no spelling is shorter, and what is spelled can be written.
use Rattle.std.proofs.Common.{◌≡◌, ◌<◌, ◌≤◌, ℕ, Bool, true, false, cond, eqb, List, [], ◌∷◌, ◌++◌, length, replicate, refl, sym, ap, subst, arith, length-append}
use Rattle.std.specs.List.{AllByRecursion}
use Rattle.std.proofs.lemmas.Bool.{eqb-true, eqb-false}
use Rattle.aml_data.specs.declared.path.Path.{Path}
use Rattle.aml_data.specs.Segment.{IsSegment, joined}
use Rattle.aml_data.specs.Grammar.{Prefix, spells_root, spells_ups, Segments, spells_no_segment, spells_one_segment, spells_two_segments, spells_many_segments, NameOf, spells_name}
use Rattle.aml_data.specs.Written.{written_prefix, segments_lead, written_segments, written_name, IsWritablePath}
use Rattle.pw_base.proofs.Facts.{by_test}

prefix_spelled : (root : Bool) (ups : ℕ) → (root ≡ true → ups ≡ 0) → Prefix root ups (cond root (92 ∷ []) (replicate ups 94))
prefix_spelled true ups none = subst (λ (n : ℕ). Prefix true n (92 ∷ [])) (sym (none refl)) spells_root
prefix_spelled false ups none = spells_ups ups

-- what holds of each lead that may be written
lead_cases : (P : List ℕ → Type 0) (n : ℕ) → (n ≡ 0 → P (0 ∷ [])) → (n ≡ 1 → P []) → (n ≡ 2 → P (46 ∷ [])) → (2 < n → P (47 ∷ n ∷ [])) → P (segments_lead n)
lead_cases P n none one two many =
    by_test P (eqb n 0) _ _ (λ e. none (eqb-true _ _ e))
    (λ e0. by_test P (eqb n 1) _ _ (λ e. one (eqb-true _ _ e))
    (λ e1. by_test P (eqb n 2) _ _ (λ e. two (eqb-true _ _ e))
    (λ e2. let a = eqb-false _ _ e0 in let b = eqb-false _ _ e1 in let c = eqb-false _ _ e2 in many (omega arith))))

none_spelled : (ss : List (List ℕ)) → length ss ≡ 0 → Segments ss (0 ∷ joined ss)
none_spelled [] e = spells_no_segment
none_spelled (s ∷ ss) e = absurd (omega arith)

segments_spelled : (ss : List (List ℕ)) → length ss < 256 → AllByRecursion IsSegment ss → Segments ss (written_segments ss)
segments_spelled ss few all =
    lead_cases (λ lead. Segments ss (lead ++ joined ss)) (length ss) (λ e. none_spelled ss e) (λ e. spells_one_segment ss e all) (λ e. spells_two_segments ss e all)
    (λ lt. spells_many_segments ss (omega arith) few all)

pub name_spelled : (path : Path) → IsWritablePath path → NameOf path (written_name path)
name_spelled path h = spells_name (prefix_spelled path.root path.ups h.no_ups) (segments_spelled path.segs h.few h.segments)

-- there is one spelling of a prefix
prefix_is : (root : Bool) (ups : ℕ) (p : List ℕ) → Prefix root ups p → cond root (92 ∷ []) (replicate ups 94) ≡ p
prefix_is root ups p spells_root = refl
prefix_is root ups p (spells_ups n) = refl

lead_at_most : (n k : ℕ) → (n ≡ 0 → 1 ≤ k) → (2 ≤ n → 1 ≤ k) → (3 ≤ n → 2 ≤ k) → length (segments_lead n) ≤ k
lead_at_most n k none two more = lead_cases (λ lead. length lead ≤ k) n (λ e. none e) (λ e. omega arith) (λ e. two (omega arith)) (λ lt. more (omega arith))

segments_least : (ss : List (List ℕ)) (s : List ℕ) → Segments ss s → length (written_segments ss) ≤ length s
segments_least ss s spells_no_segment = omega arith
segments_least ss s (spells_one_segment _ one all) =
    let lead = lead_at_most (length ss) 0 (λ h. omega arith) (λ h. omega arith) (λ h. omega arith) in omega (arith, length-append (segments_lead (length ss)) (joined ss))
segments_least ss s (spells_two_segments _ two all) =
    let lead = lead_at_most (length ss) 1 (λ h. omega arith) (λ h. omega arith) (λ h. omega arith) in omega (arith, length-append (segments_lead (length ss)) (joined ss))
segments_least ss s (spells_many_segments _ some few all) =
    let lead = lead_at_most (length ss) 2 (λ h. omega arith) (λ h. omega arith) (λ h. omega arith) in omega (arith, length-append (segments_lead (length ss)) (joined ss))

pub name_least : (path : Path) (b : List ℕ) → NameOf path b → length (written_name path) ≤ length b
name_least path b (spells_name {p = p} {s = s} prefix segs) =
    let same = ap (λ (l : List ℕ). length l) (prefix_is path.root path.ups p prefix) in
    let least = segments_least path.segs s segs in
    omega (arith, length-append (written_prefix path) (written_segments path.segs), length-append p s)

no_steps : (root : Bool) (ups : ℕ) (p : List ℕ) → Prefix root ups p → root ≡ true → ups ≡ 0
no_steps root ups p spells_root e = refl
no_steps root ups p (spells_ups n) e = absurd (cc)

are_few : (ss : List (List ℕ)) (s : List ℕ) → Segments ss s → length ss < 256
are_few ss s spells_no_segment = omega arith
are_few ss s (spells_one_segment _ one all) = omega arith
are_few ss s (spells_two_segments _ two all) = omega arith
are_few ss s (spells_many_segments _ some few all) = few

are_segments : (ss : List (List ℕ)) (s : List ℕ) → Segments ss s → AllByRecursion IsSegment ss
are_segments ss s spells_no_segment = tt
are_segments ss s (spells_one_segment _ one all) = all
are_segments ss s (spells_two_segments _ two all) = all
are_segments ss s (spells_many_segments _ some few all) = all

pub name_writable : (path : Path) (b : List ℕ) → NameOf path b → IsWritablePath path
name_writable path b (spells_name {p = p} {s = s} prefix segs) =
    record { few = are_few path.segs s segs; no_ups = no_steps path.root path.ups p prefix; segments = are_segments path.segs s segs }
