-- What requests and histories keep.
use Rattle.std.proofs.Common.{◌≡◌, ◌<◌, ◌≤◌, ◌==◌, ℕ, suc, zero, Bool, true, false, cond, List, [], ◌∷◌, length, Option, Some, None, refl, ap, ◌∙◌, arith, inl, inr}
use Rattle.std.specs.Prelude.{◌⊎◌, nat_lt, slice_index_or, slice_set}
use Rattle.std.proofs.lemmas.Bool.Decides.{nat_tests}
use Rattle.pw_plan.specs.Groups.{has_member}
use Rattle.pw_kind.specs.History as histories
use Rattle.pw_cppc.specs.declared.plan.CppcPlan.{CppcPlan}
use Rattle.pw_cppc.specs.declared.request.CppcRequest.{CppcRequest}
use Rattle.pw_cppc.specs.declared.request.CppcRequest.TheVariants.{Desired, Minimum, Maximum}
use Rattle.pw_cppc.specs.Planning.{domain_at}
use Rattle.pw_cppc.specs.declared.entry.CppcEntry.{CppcEntry}
use Rattle.pw_cppc.specs.declared.numbers.CppcNumbers.{CppcNumbers}
use Rattle.pw_cppc.specs.declared.reply.CppcReply.{CppcReply}
use Rattle.pw_cppc.specs.declared.reply.CppcReply.TheVariants.{Crossed}
use Rattle.pw_cppc.specs.States.{AreNumbers, changed, maximum_of, minimum_of, opening}
use Rattle.pw_cppc.specs.Answers.{after, crossing, fixed_refusal, if_accepted, refusal, refuse_if, ◌or_else◌}
use Rattle.pw_cppc.specs.History.{after_entry, replay, replay_from, request_of}
use Rattle.pw_cppc.proofs.Software.{opening_fits}
use Rattle.pw_cppc.proofs.Starting.{bounds_at_start}

set_length : (xs : List ℕ) (p v : ℕ) → length (slice_set xs p v) ≡ length xs
set_length [] p v = refl
set_length (x ∷ xs) zero v = refl
set_length (x ∷ xs) (suc p) v = ap (λ n. suc n) (set_length xs p v)

-- what is read after a number was written
read : (xs : List ℕ) (p v q : ℕ) → ((slice_index_or (slice_set xs p v) q 0 ≡ v) × (p ≡ q)) ⊎ (slice_index_or (slice_set xs p v) q 0 ≡ slice_index_or xs q 0)
read [] p v q = inr refl
read (x ∷ xs) zero v zero = inl (refl, refl)
read (x ∷ xs) zero v (suc q) = inr refl
read (x ∷ xs) (suc p) v zero = inr refl
read (x ∷ xs) (suc p) v (suc q) = elim (read xs p v q) [
  | inl h ↦ inl (h.0, ap (λ n. suc n) h.1)
  | inr e ↦ inr e
]

second_none : (a b : Option CppcReply) → (a or_else b) ≡ None → b ≡ None
second_none None b e = e
second_none (Some r) b e = cc

none_if : (b : Bool) (r : CppcReply) → refuse_if b r ≡ None → b ≡ false
none_if true r e = cc
none_if false r e = refl

-- # The numbers are of the plan

changed_fits : (P : CppcPlan) (S : CppcNumbers) (q : CppcRequest) → AreNumbers P S → AreNumbers P (changed S q)
changed_fits P S (Desired p v) h = record { asks = set_length S.asks p v ∙ h.asks; minima = h.minima; maxima = h.maxima }
changed_fits P S (Minimum p v) h = record { asks = h.asks; minima = set_length S.minima p v ∙ h.minima; maxima = h.maxima }
changed_fits P S (Maximum p v) h = record { asks = h.asks; minima = h.minima; maxima = set_length S.maxima p v ∙ h.maxima }

-- # What accepted requests keep, histories keep

module _ (P : CppcPlan) (Holds : CppcNumbers → Type 0) (keeps : (S : CppcNumbers) (q : CppcRequest) → refusal P S q ≡ None → Holds S → Holds (changed S q)) where
  pub after_keeps : (S : CppcNumbers) (q : CppcRequest) → Holds S → Holds (after P S q)
  unfolding after
  after_keeps S q h = step (refusal P S q) refl
    where
      step : (r : Option CppcReply) → refusal P S q ≡ r → Holds (if_accepted r (λ reply. S) (changed S q))
      step None e = keeps S q e h
      step (Some r) e = h

  entry_keeps : (S : CppcNumbers) (e : CppcEntry) → Holds S → Holds (after_entry P S e)
  entry_keeps S e h = step (e.fault == 0)
    where
      step : (b : Bool) → Holds (cond b (after P S (request_of e)) S)
      step true = after_keeps S (request_of e) h
      step false = h

  from_keeps : (S : CppcNumbers) (es : List CppcEntry) → Holds S → Holds (replay_from P S es)
  from_keeps S [] h = h
  from_keeps S (e ∷ es) h = from_keeps (after_entry P S e) es (entry_keeps S e h)

  pub replay_keeps : (es : List CppcEntry) → Holds (opening P) → Holds (replay P es)
  unfolding histories.replay
  replay_keeps es h = from_keeps (opening P) es h

pub after_fits : (P : CppcPlan) (S : CppcNumbers) (q : CppcRequest) → AreNumbers P S → AreNumbers P (after P S q)
after_fits P S q h = after_keeps P (AreNumbers P) (λ T r e fits. changed_fits P T r fits) S q h

pub replay_fits : (P : CppcPlan) (es : List CppcEntry) → AreNumbers P (replay P es)
replay_fits P es = replay_keeps P (AreNumbers P) (λ T r e fits. changed_fits P T r fits) es (opening_fits P)

-- # Minima stay below maxima

uncrossed : (P : CppcPlan) (p : ℕ) (S : CppcNumbers) (q : CppcRequest) → refusal P S q ≡ None → minimum_of S p ≤ maximum_of S p → minimum_of (changed S q) p ≤ maximum_of (changed S q) p
uncrossed P p S (Desired r v) e h = h
uncrossed P p S (Minimum r v) e h =
    let below = none_if (nat_lt (maximum_of S r) v) (Crossed (maximum_of S r)) (second_none (fixed_refusal P (Minimum r v)) (crossing S (Minimum r v)) e) in
    let le : v ≤ maximum_of S r = grind (arith, nat_tests) in
    elim (read S.minima r v p) [
      | inl w ↦ let own : maximum_of S r ≡ maximum_of S p = ap (maximum_of S) w.1 in let is = w.0 in omega (arith, is, own, le)
      | inr w ↦ omega (arith, w, h)
    ]
uncrossed P p S (Maximum r v) e h =
    let below = none_if (nat_lt v (minimum_of S r)) (Crossed (minimum_of S r)) (second_none (fixed_refusal P (Maximum r v)) (crossing S (Maximum r v)) e) in
    let le : minimum_of S r ≤ v = grind (arith, nat_tests) in
    elim (read S.maxima r v p) [
      | inl w ↦ let own : minimum_of S r ≡ minimum_of S p = ap (minimum_of S) w.1 in let is = w.0 in omega (arith, is, own, le)
      | inr w ↦ omega (arith, w, h)
    ]

pub minima_below : (P : CppcPlan) (es : List CppcEntry) (d p : ℕ) → d < length P.domains → (domain_at P d).unfit ≡ 0 → has_member (domain_at P d).members p ≡ true
    → minimum_of (replay P es) p ≤ maximum_of (replay P es) p
minima_below P es d p lt fit m = replay_keeps P (λ S. minimum_of S p ≤ maximum_of S p) (uncrossed P p) es (bounds_at_start P d lt fit p m)
