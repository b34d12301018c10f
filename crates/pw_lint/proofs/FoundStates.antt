-- What is found of C states, and of terms that are passed over.
use Rattle.std.proofs.Common.{eqb-true, ◌≡◌, ◌≢◌, ◌⊎◌, ◌↔◌, ◌<◌, ◌+◌, ◌==◌, inl, inr, ℕ, not, List, length, Option, Some, None, refl, sym, subst, arith}
use Rattle.std.specs.Prelude.{Contains, nat_lt}
use Rattle.std.specs.List.{Any, flat_map}
use Rattle.std.proofs.lemmas.Bool.Decides.{Decides-ltb}
use Rattle.std.proofs.lemmas.List.Elements.{Contains-append_cases, Contains-append_left, Contains-append_right}
use Rattle.aml_data.specs.declared.path.FullPath.{FullPath}
use Rattle.acpi_space.specs.declared.passed.PassedOver.{PassedOver}
use Rattle.acpi_values.specs.declared.idle.CState.{CState}
use Rattle.pw_findings.specs.declared.finding.Finding.{Finding}
use Rattle.pw_findings.specs.declared.finding.FindingKind.TheVariants as kinds
use Rattle.pw_findings.specs.declared.finding.OfCst.TheVariants.{NoC1}
use Rattle.pw_findings.specs.declared.finding.OfObject.TheVariants as objects
use Rattle.pw_findings.specs.declared.finding.Unused.{Unused}
use Rattle.pw_findings.specs.Findings.{finding}
use Rattle.pw_states.specs.CStates.{costlier, cst_findings, lowered, rootless, state_in}
use Rattle.pw_lint.specs.Laws.{IsCostlier, IsLowered, IsRootless, IsSkipped}
use Rattle.pw_lint.specs.Notes.{of_object}
use Rattle.pw_lint.specs.Passed.{passed_findings, skipped}
use Rattle.pw_lint.proofs.Found.{alone_is, both_true, both_ways, differ, each_in, in_all, in_each, in_when, tell, true_both, when_in}

-- # C states

abbrev IsRootlessAt : FullPath → List CState → Finding → ℕ → Type 0
IsRootlessAt path states f k = (k < length states) × ((state_in states k).kind ≢ 1) × (f ≡ finding path (kinds.Cst (NoC1 (state_in states k).kind)))

pub found_of_c_states : (path : FullPath) (states : List CState) (f : Finding)
    → Contains (cst_findings path states) f ↔ (IsRootless path states f ⊎ (IsLowered path states f ⊎ IsCostlier path states f))
unfolding cst_findings
found_of_c_states path states f = (
  λ c.
      let s = in_each (length states) _ f c in
      elim (Contains-append_cases (rootless path states s.0) _ f s.2) [
        | inl one ↦
            let w = in_when _ _ f one in
            let both = both_true (s.0 == 0) _ w.0 in
            inl (subst (IsRootlessAt path states f) (eqb-true s.0 0 both.0) (s.1, differ (state_in states s.0).kind 1 both.1, w.1))
        | inr more ↦ elim (Contains-append_cases (lowered path states s.0) (costlier path states s.0) f more) [
          | inl one ↦
              let w = in_when _ _ f one in
              let both = both_true (nat_lt (s.0 + 1) (length states)) _ w.0 in
              inr (inl (s.0, (Decides-ltb _ _).0 both.0, (Decides-ltb _ _).0 both.1, w.1))
          | inr one ↦
              let w = in_when _ _ f one in
              let both = both_true (nat_lt (s.0 + 1) (length states)) _ w.0 in
              inr (inr (s.0, (Decides-ltb _ _).0 both.0, (Decides-ltb _ _).0 both.1, w.1))
        ]
      ],
  λ e. elim e [
    | inl u ↦ each_in (length states) _ f (
      0,
      u.0,
      Contains-append_left (rootless path states 0) _ f (when_in (not ((state_in states 0).kind == 1)) _ f (tell (state_in states 0).kind 1 u.1) u.2),
    )
    | inr (inl g) ↦
        let inside : g.0 < length states = (let l = g.1 in omega arith) in
        each_in (length states) _ f (
          g.0,
          inside,
          Contains-append_right (rootless path states g.0) _ f
              (Contains-append_left (lowered path states g.0) (costlier path states g.0) f
              (when_in _ _ f (true_both _ _ ((Decides-ltb _ _).1 g.1) ((Decides-ltb _ _).1 g.2)) g.3)),
        )
    | inr (inr g) ↦
        let inside : g.0 < length states = (let l = g.1 in omega arith) in
        each_in (length states) _ f (
          g.0,
          inside,
          Contains-append_right (rootless path states g.0) _ f
              (Contains-append_right (lowered path states g.0) (costlier path states g.0) f
              (when_in _ _ f (true_both _ _ ((Decides-ltb _ _).1 g.1) ((Decides-ltb _ _).1 g.2)) g.3)),
        )
  ],
)

-- # Terms that are passed over

in_object : (path : FullPath) (o : Option Unused) (f : Finding)
    → Contains (of_object path o) f ↔ ((why : Unused) × (o ≡ Some why) × (f ≡ finding path (kinds.Object (objects.Unused why))))
in_object path None f = (λ (k, l, e). absurd (let bad = l in omega arith), λ u. let bad : None ≡ Some u.0 = u.1 in absurd (cc))
in_object path (Some why) f = (
  λ c. (why, refl, alone_is (finding path (kinds.Object (objects.Unused why))) f c),
  λ u.
      let same : why ≡ u.0 = cc in
      (0, omega arith, sym (rw same u.2)),
)

-- what holds of one of these holds of it in other words
any_of : {X : Type 0} (P Q : X → Type 0) → ((x : X) → P x → Q x) → (xs : List X) → Any P xs → Any Q xs
any_of P Q h xs (k, x, l, e, p) = (k, x, l, e, h x p)

pub found_passed : (passed : List PassedOver) (f : Finding) → Contains (flat_map passed_findings passed) f ↔ Any (λ (t : PassedOver). IsSkipped t f) passed
found_passed passed f = both_ways (in_all passed_findings passed f) (
  any_of (λ (t : PassedOver). Contains (passed_findings t) f) (λ (t : PassedOver). IsSkipped t f) (λ t. (in_object t.path (skipped t.opcode) f).0) passed,
  any_of (λ (t : PassedOver). IsSkipped t f) (λ (t : PassedOver). Contains (passed_findings t) f) (λ t. (in_object t.path (skipped t.opcode) f).1) passed,
)
