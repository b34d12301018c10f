-- What is found of idle states beside those of the container around.
use Rattle.std.proofs.Common.{◌≡◌, ◌⊎◌, ◌↔◌, ◌+◌, inl, inr, ℕ, Bool, true, false, not, List, [], length, Option, Some, None, refl, sym, ap, arith}
use Rattle.std.specs.Prelude.{Contains, nat_lt}
use Rattle.std.specs.List.{list_any}
use Rattle.std.proofs.lemmas.Bool.{false≢true}
use Rattle.std.proofs.lemmas.Bool.Decides.{Decides-ltb}
use Rattle.aml_data.specs.declared.path.FullPath.{FullPath}
use Rattle.acpi_values.specs.Idle.{rows_of}
use Rattle.acpi_values.specs.declared.idle.IdleRow.{IdleRow}
use Rattle.acpi_values.specs.declared.idle.IdleTable.{IdleTable}
use Rattle.pw_plan.specs.declared.parts.ContainerParts.{ContainerParts}
use Rattle.pw_findings.specs.declared.finding.Finding.{Finding}
use Rattle.pw_findings.specs.declared.finding.FindingKind.TheVariants as kinds
use Rattle.pw_findings.specs.declared.finding.OfParent.TheVariants.{Overflows}
use Rattle.pw_findings.specs.Findings.{finding, of_each}
use Rattle.pw_states.specs.Idle.{row_in}
use Rattle.pw_states.specs.Parents.{count_in, enables, nowhere, number_of, overflowing, parent_findings, past, past_findings, sum_amiss, sum_at, sum_findings, unreached_where}
use Rattle.pw_lint.specs.Laws.{IsNowhere, IsOverflowing, IsPast, IsUnreached}
use Rattle.pw_lint.proofs.Found.{alone_is, both_true, both_ways, each_in, either, in_each, in_either, in_when, true_both, when_in}

none_there : {X : Type 0} (x : X) → None ≡ Some x → ⊥
none_there x e = cc

-- a list that is empty contains nothing
no_more : (f : Finding) → Contains [] f → ⊥
no_more f (k, l, e) = absurd (let bad = l in omega arith)

-- # States that aren't there

found_nowhere : (path : FullPath) (rows : List IdleRow) (f : Finding)
    → Contains (of_each (length rows) (nowhere path rows)) f ↔ (IsNowhere path None rows f ⊎ IsPast path None rows f)
found_nowhere path rows f = (
  λ c.
      let s = in_each (length rows) _ f c in
      let w = in_when _ _ f s.2 in
      inl (s.0, refl, s.1, (Decides-ltb _ _).0 w.0, w.1),
  λ e. elim e [
    | inl u ↦ each_in (length rows) _ f (u.0, u.2, when_in _ _ f ((Decides-ltb _ _).1 u.3) u.4)
    | inr u ↦ absurd (none_there u.0 u.2)
  ],
)

found_past : (path : FullPath) (c : ContainerParts) (rows : List IdleRow) (f : Finding)
    → Contains (of_each (length rows) (past path c rows)) f ↔ (IsNowhere path (Some c) rows f ⊎ IsPast path (Some c) rows f)
found_past path c rows f = (
  λ found.
      let s = in_each (length rows) _ f found in
      let w = in_when _ _ f s.2 in
      inr (c, s.0, refl, s.1, (Decides-ltb _ _).0 w.0, w.1),
  λ e. elim e [
    | inl u ↦ absurd (let other = u.1 in cc)
    | inr u ↦
        let same : c ≡ u.0 = (let is = u.2 in cc) in
        each_in (length rows) _ f (u.1, u.3, when_in _ _ f ((Decides-ltb (count_in c) (row_in rows u.1).parent).1 (rw same u.4)) (rw same u.5))
  ],
)

found_absent : (path : FullPath) (parent : Option ContainerParts) (rows : List IdleRow) (f : Finding)
    → Contains (past_findings path parent rows) f ↔ (IsNowhere path parent rows f ⊎ IsPast path parent rows f)
found_absent path None rows f = found_nowhere path rows f
found_absent path (Some c) rows f = found_past path c rows f

-- # States that are never enabled

true_not : (b : Bool) → not b ≡ true → b ≡ false
true_not true e = absurd (false≢true e)
true_not false e = refl

found_unreached : (path : FullPath) (known : Bool) (parent : Option ContainerParts) (rows : List IdleRow) (f : Finding)
    → Contains (unreached_where known path parent rows) f ↔ IsUnreached path known parent rows f
found_unreached path true None rows f = (λ c. absurd (no_more f c), λ u. absurd (none_there u.0 u.1))
found_unreached path true (Some c) rows f = (
  λ found.
      let w = in_when _ _ f found in
      let both = both_true (nat_lt 0 (count_in c)) _ w.0 in
      (c, refl, refl, (Decides-ltb _ _).0 both.0, true_not _ both.1, w.1),
  λ u.
      let same : c ≡ u.0 = (let is = u.1 in cc) in
      let none : not (list_any (enables (count_in c)) rows) ≡ true = rw same (ap not u.4) in
      when_in _ _ f (true_both _ _ ((Decides-ltb 0 (count_in c)).1 (rw same u.3)) none) (rw same u.5),
)
found_unreached path false parent rows f = (λ c. absurd (no_more f c), λ u. absurd (false≢true u.2))

-- # Sums

found_sum : (path : FullPath) (c : ContainerParts) (row : IdleRow) (k : ℕ) (o : Option ℕ) (f : Finding)
    → Contains (sum_amiss path c row k o) f ↔ ((j : ℕ) × (o ≡ Some j)
    × (f ≡ finding path (kinds.Parent (Overflows (k + 1) (number_of row.entry) (j + 1) c.path (number_of (row_in (rows_of c.idle) j).entry)))))
found_sum path c row k None f = (λ found. absurd (no_more f found), λ u. absurd (none_there u.0 u.1))
found_sum path c row k (Some j) f = (
  λ found. (j, refl, alone_is _ f found),
  λ u.
      let same : j ≡ u.0 = (let is = u.1 in cc) in
      (0, omega arith, sym (rw same u.2)),
)

found_sums : (path : FullPath) (parent : Option ContainerParts) (rows : List IdleRow) (f : Finding)
    → Contains (sum_findings path parent rows) f ↔ IsOverflowing path parent rows f
found_sums path None rows f = (λ c. absurd (no_more f c), λ u. absurd (none_there u.0 u.3))
found_sums path (Some c) rows f = (
  λ found.
      let s = in_each (length rows) (sum_at path c rows) f found in
      let u = (found_sum path c (row_in rows s.0) s.0 (overflowing c (row_in rows s.0)) f).0 s.2 in
      (c, s.0, u.0, refl, s.1, u.1, u.2),
  λ u.
      let same : c ≡ u.0 = (let is = u.3 in cc) in
      each_in (length rows) (sum_at path c rows) f (
        u.1,
        u.4,
        (found_sum path c (row_in rows u.1) u.1 (overflowing c (row_in rows u.1)) f).1 (u.2, rw same u.5, rw same u.6),
      ),
)

pub found_beside : (path : FullPath) (known : Bool) (parent : Option ContainerParts) (t : IdleTable) (f : Finding)
    → Contains (parent_findings path known parent t) f
    ↔ ((IsNowhere path parent (rows_of t) f ⊎ IsPast path parent (rows_of t) f) ⊎ (IsUnreached path known parent (rows_of t) f ⊎ IsOverflowing path parent (rows_of t) f))
unfolding parent_findings
found_beside path known parent t f =
    both_ways (in_either (past_findings path parent (rows_of t)) _ f) (either (found_absent path parent (rows_of t) f)
    (both_ways (in_either (unreached_where known path parent (rows_of t)) _ f)
    (either (found_unreached path known parent (rows_of t) f) (found_sums path parent (rows_of t) f))))
