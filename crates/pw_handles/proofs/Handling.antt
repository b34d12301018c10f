-- How a call on what is kept becomes one on its handle.
use Rattle.std.proofs.Common.{◌≡◌, Bool, true, false, refl, inl, inr, Result}
use Rattle.pw_handles.specs.declared.kept.Kept.{Kept}
use Rattle.pw_embed.specs.declared.status.Status.{Status}
use Rattle.pw_embed.specs.declared.machine.Machine.{Machine}
use Rattle.pw_embed.specs.declared.status.Status.TheVariants.{Begun, Closed, Done, NoMemory, Open}
use Rattle.pw_handles.specs.Handled.{BecomesBy, ClosedBy, Handled, JoinsFrom, KeptBy, LeftBy, OfMachine, OpensFrom, SplitsFrom}

pub handled : (full full' : Bool) (old new k l : Kept) (s : Status) (same : Type 0) (P : Kept → Kept → Status → Type 0)
    → full ≡ true → old ≡ k → full' ≡ true → new ≡ l → P k l s → Handled full old full' new s same P
unfolding Handled
handled full full' old new k l s same P f o f' n p = rw (f, o, n) (f', p)

-- # What another handle keeps

pub kept_same : (full : Bool) (k : Kept) → KeptBy full k full k
unfolding KeptBy
kept_same true k = (refl, refl)
kept_same false k = refl

pub kept_closed : (full full' : Bool) (old new : Kept) → full ≡ false → full' ≡ false → KeptBy full old full' new
unfolding KeptBy
kept_closed full full' old new f f' = rw f f'

pub kept_open : (full full' : Bool) (old new k : Kept) → full ≡ true → old ≡ k → full' ≡ true → new ≡ k → KeptBy full old full' new
unfolding KeptBy
kept_open full full' old new k f o f' n = rw (f, o) (f', n)

-- # What is opened from a machine

module _ {A : Type 0} (in_handle : A → Kept) (P : Machine → Result A Status → Type 0) where
  pub opens_open : (full : Bool) (old : Kept) (other : Bool) (k : Kept) → full ≡ true → OpensFrom in_handle P full old other k full old Open
  unfolding OpensFrom
  opens_open full old other k f = rw f (refl, refl, refl)

  pub opens_none : (full : Bool) (old : Kept) (other : Bool) (k : Kept) → full ≡ false → other ≡ false → OpensFrom in_handle P full old other k full old Closed
  unfolding OpensFrom
  opens_none full old other k f o = rw (f, o) (refl, refl)

  pub opens_made : (full : Bool) (old : Kept) (other : Bool) (was k : Kept) (r : Result A Status) (full' : Bool) (new : Kept) (s : Status)
      → full ≡ false → other ≡ true → was ≡ k → OfMachine k r P → BecomesBy in_handle r full' new s
      → OpensFrom in_handle P full old other was full' new s
  unfolding OpensFrom
  opens_made full old other was k r full' new s f o w made by = rw (f, o, w) (r, made, by)

-- # Splits

module _ {A : Type 0} (in_handle : A → Kept) (P : Kept → Kept → Result A Status → Type 0) where
  pub splits_open : (full : Bool) (old : Kept) (of : Bool) (o : Kept) → of ≡ true → SplitsFrom in_handle P full old full old of o of o Open
  unfolding SplitsFrom
  splits_open full old of o e = rw e (kept_same full old, refl, refl, refl)

  pub splits_closed : (full : Bool) (old : Kept) (full' : Bool) (new : Kept) (of : Bool) (o : Kept) → full ≡ false → full' ≡ false → of ≡ false
      → SplitsFrom in_handle P full old full' new of o of o Closed
  unfolding SplitsFrom
  splits_closed full old full' new of o f f' e = rw (f, e) (f', refl, refl)

  pub splits_unmade : (full : Bool) (old : Kept) (full' : Bool) (new k : Kept) (of : Bool) (o : Kept) → full ≡ true → old ≡ k → full' ≡ true → new ≡ k
      → of ≡ false → SplitsFrom in_handle P full old full' new of o of o NoMemory
  unfolding SplitsFrom
  splits_unmade full old full' new k of o f is f' now e = rw (f, e, is) (f', inl (now, refl, refl))

  pub splits_made : (full : Bool) (old k : Kept) (full' : Bool) (new l : Kept) (of : Bool) (o : Kept) (of' : Bool) (o' : Kept) (r : Result A Status)
      (s : Status) → full ≡ true → old ≡ k → full' ≡ true → new ≡ l → of ≡ false → P k l r → BecomesBy in_handle r of' o' s
      → SplitsFrom in_handle P full old full' new of o of' o' s
  unfolding SplitsFrom
  splits_made full old k full' new l of o of' o' r s f is f' now e made by = rw (f, e, is, now) (f', inr (r, made, by))

-- # Joins

module _ (P : Kept → Kept → Kept → Kept → Status → Type 0) where
  pub joins_first_closed : (full : Bool) (old : Kept) (full' : Bool) (new : Kept) (of : Bool) (o : Kept) → full ≡ false → full' ≡ false
      → JoinsFrom P full old full' new of o of o Closed
  unfolding JoinsFrom
  joins_first_closed full old full' new true o f f' = rw f (kept_closed false full' old new refl f', kept_same true o, refl)
  joins_first_closed full old full' new false o f f' = rw f (kept_closed false full' old new refl f', kept_same false o, refl)

  pub joins_second_closed : (full : Bool) (old : Kept) (full' : Bool) (new k : Kept) (of : Bool) (o : Kept) (of' : Bool) (o' : Kept)
      → full ≡ true → old ≡ k → full' ≡ true → new ≡ k → of ≡ false → of' ≡ false → JoinsFrom P full old full' new of o of' o' Closed
  unfolding JoinsFrom
  joins_second_closed full old full' new k of o of' o' f is f' now e e' =
      rw (f, e) (kept_open true full' old new k refl is f' now, kept_closed false of' o o' refl e', refl)

  pub joins_made : (full : Bool) (old k : Kept) (full' : Bool) (new m : Kept) (of : Bool) (o l : Kept) (left : Kept) (of' : Bool) (o' : Kept)
      (s : Status) → full ≡ true → old ≡ k → full' ≡ true → new ≡ m → of ≡ true → o ≡ l → P k l m left s → LeftBy s left of' o'
      → JoinsFrom P full old full' new of o of' o' s
  unfolding JoinsFrom
  joins_made full old k full' new m of o l left of' o' s f is f' now e it made by = rw (f, e, is, it, now) (f', (left, made, by))

-- # The end

pub closes_closed : (full begun : Bool) (old : Kept) (full' : Bool) (new : Kept) → full ≡ false → full' ≡ false
    → ClosedBy full begun old full' new Closed
unfolding ClosedBy
closes_closed full begun old full' new f f' = rw f (f', refl)

pub closes_rest : (full begun : Bool) (old : Kept) (full' : Bool) (new : Kept) → full ≡ true → begun ≡ false → full' ≡ false
    → ClosedBy full begun old full' new Done
unfolding ClosedBy
closes_rest full begun old full' new f b f' = rw (f, b) (f', refl)

pub closes_begun : (full begun : Bool) (old : Kept) (full' : Bool) (new k : Kept) → full ≡ true → begun ≡ true → old ≡ k → full' ≡ true
    → new ≡ k → ClosedBy full begun old full' new Begun
unfolding ClosedBy
closes_begun full begun old full' new k f b is f' now = rw (f, b, is) (f', now, refl)
