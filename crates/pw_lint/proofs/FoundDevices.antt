-- What is found of devices.
use Rattle.std.proofs.Common.{eqb-true, eq-eqb, ne_eqb, ◌≡◌, ◌≢◌, ◌⊎◌, ◌↔◌, ◌∙◌, ◌<◌, ◌/◌, ◌%◌, inl, inr, ℕ, Bool, true, false, not, List, length, take, get_or, get_or-take, Option, Some, None, unwrap_or, refl, sym, ap, subst, arith}
use Rattle.std.specs.Prelude.{codes, Contains}
use Rattle.std.proofs.lemmas.Bool.{false≢true}
use Rattle.std.proofs.lemmas.List.{length-take}
use Rattle.std.proofs.lemmas.List.Quantifiers.{position-Some}
use Rattle.aml_data.specs.declared.path.FullPath.{FullPath}
use Rattle.acpi_space.specs.Namespace.{Entry}
use Rattle.pw_findings.specs.declared.finding.Finding.{Finding}
use Rattle.pw_findings.specs.declared.finding.FindingKind.TheVariants as kinds
use Rattle.pw_findings.specs.declared.finding.OfDevice.TheVariants.{NotPresent, NotEnabled, SameUid}
use Rattle.pw_findings.specs.Findings.{finding}
use Rattle.pw_plan.specs.declared.parts.CpuParts.{CpuParts}
use Rattle.pw_plan.specs.Parts.{cpu_in}
use Rattle.pw_lint.specs.Devices.{beside, by_status, is_enabled, is_present, same_uid, status_findings, twin, twin_at, twin_findings, uid_in, uids_of}
use Rattle.pw_lint.specs.Laws.{IsAbsent, IsDisabled, IsTwin}
use Rattle.pw_lint.specs.Tables.{integer_at}
use Rattle.pw_lint.proofs.Found.{alone_is, differ, in_each, in_when, tell, when_in}

-- by the number of `_STA`
abbrev IsAbsentBy : FullPath → Option ℕ → Finding → Type 0
IsAbsentBy path o f = (n : ℕ) × (o ≡ Some n) × (n % 2 ≢ 1) × (f ≡ finding path (kinds.Device (NotPresent n)))

abbrev IsDisabledBy : FullPath → Option ℕ → Finding → Type 0
IsDisabledBy path o f = (n : ℕ) × (o ≡ Some n) × (n % 2 ≡ 1) × (n / 2 % 2 ≢ 1) × (f ≡ finding path (kinds.Device (NotEnabled n)))

told_of : (path : FullPath) (n : ℕ) (f : Finding) (b : Bool) → is_present n ≡ b → Contains (by_status path (Some n)) f
    → IsAbsentBy path (Some n) f ⊎ IsDisabledBy path (Some n) f
told_of path n f true e c =
    let w = in_when (not (is_enabled n)) _ f (rw e at c) in
    inr (n, refl, eqb-true _ _ e, differ _ _ w.0, w.1)
told_of path n f false e c =
    inl (n, refl, λ one. absurd (false≢true (sym e ∙ eq-eqb _ _ one)), alone_is _ f (rw e at c))

by_number : (path : FullPath) (o : Option ℕ) (f : Finding) → Contains (by_status path o) f → IsAbsentBy path o f ⊎ IsDisabledBy path o f
by_number path None f (k, l, e) = absurd (let bad = l in omega arith)
by_number path (Some n) f c = told_of path n f (is_present n) refl c

absent_in : (path : FullPath) (o : Option ℕ) (f : Finding) → IsAbsentBy path o f → Contains (by_status path o) f
absent_in path o f u = rw (u.1, ne_eqb (u.0 % 2) 1 u.2) (0, omega arith, sym u.3)

disabled_in : (path : FullPath) (o : Option ℕ) (f : Finding) → IsDisabledBy path o f → Contains (by_status path o) f
disabled_in path o f u = rw (u.1, eq-eqb (u.0 % 2) 1 u.2) (when_in _ _ f (tell (u.0 / 2 % 2) 1 u.3) u.4)

pub found_of_status : (entries : List Entry) (path : FullPath) (f : Finding)
    → Contains (status_findings entries path) f ↔ (IsAbsent entries path f ⊎ IsDisabled entries path f)
unfolding status_findings
found_of_status entries path f = (
  by_number path (integer_at entries path (codes "_STA")) f,
  λ e. elim e [
    | inl u ↦ absent_in path (integer_at entries path (codes "_STA")) f u
    | inr u ↦ disabled_in path (integer_at entries path (codes "_STA")) f u
  ],
)

-- # Two of one name

both_are : (a b : Option ℕ) → same_uid a b ≡ true → (n : ℕ) × (a ≡ Some n) × (b ≡ Some n)
both_are None b e = absurd (false≢true e)
both_are (Some m) None e = absurd (false≢true e)
both_are (Some m) (Some n) e = (m, refl, ap Some (sym (eqb-true m n e)))

is_other : (n : ℕ) (b : Option ℕ) → same_uid (Some n) b ≡ false → b ≢ Some n
is_other n b e same = absurd (false≢true (sym (rw same at e) ∙ eq-eqb n n refl))

told_twin : (entries : List Entry) (cpus : List CpuParts) (k : ℕ) (f : Finding) (o : Option ℕ) → k < length cpus
    → twin (uids_of entries cpus) k ≡ o → Contains (beside cpus (uids_of entries cpus) k o) f → IsTwin entries cpus f
told_twin entries cpus k f None within e (n, l, is) = absurd (let bad = l in omega arith)
told_twin entries cpus k f (Some j) within e c =
    let uids = uids_of entries cpus in
    let s = position-Some (same_uid (uid_in uids k)) (take k uids) j None e in
    let before : j < k = (let l = s.0 in let m = length-take k uids in omega arith) in
    let at_j : get_or (take k uids) j None ≡ uid_in uids j = get_or-take k uids j None before in
    let both = both_are (uid_in uids k) (uid_in uids j) (subst (λ (x : Option ℕ). same_uid (uid_in uids k) x ≡ true) at_j s.1) in
    record {
      j = j;
      k = k;
      uid = both.0;
      order = before;
      within = within;
      one = both.2;
      other = both.1;
      first = λ i less.
          let under : i < k = omega arith in
          is_other both.0 (uid_in uids i) (subst (λ (x : Option ℕ). same_uid (Some both.0) x ≡ false) (get_or-take k uids i None under)
          (subst (λ (y : Option ℕ). same_uid y (get_or (take k uids) i None) ≡ false) both.1 (s.2 i less)));
      told = subst (λ (o : Option ℕ). f ≡ finding (cpu_in cpus k).path (kinds.Device (SameUid (unwrap_or o 0) (cpu_in cpus j).path))) both.1
          (alone_is _ f c);
    }

pub found_twins : (entries : List Entry) (cpus : List CpuParts) (f : Finding) → Contains (twin_findings entries cpus) f → IsTwin entries cpus f
unfolding twin_findings
found_twins entries cpus f c =
    let s = in_each (length cpus) (twin_at cpus (uids_of entries cpus)) f c in
    told_twin entries cpus s.0 f (twin (uids_of entries cpus) s.0) s.1 refl s.2
