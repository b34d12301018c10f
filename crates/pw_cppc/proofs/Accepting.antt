-- What an accepted request sets, and how it is taken back.
use Rattle.std.proofs.Common.{◌≡◌, ◌==◌, ℕ, suc, zero, cond, List, [], ◌∷◌, Option, Some, None, refl, ap}
use Rattle.std.specs.Prelude.{slice_index_or, slice_set}
use Rattle.std.specs.List.{flat_map}
use Rattle.pw_model.specs.Operations.{set_at}
use Rattle.pw_cppc.specs.declared.parts.Control.TheVariants as controls
use Rattle.pw_cppc.specs.declared.plan.CppcPlan.{CppcPlan}
use Rattle.pw_cppc.specs.declared.request.CppcRequest.{CppcRequest}
use Rattle.pw_cppc.specs.declared.request.CppcRequest.TheVariants.{Desired, Minimum, Maximum}
use Rattle.pw_cppc.specs.Planning.{domain_at, domain_of}
use Rattle.pw_cppc.specs.declared.numbers.CppcNumbers.{CppcNumbers}
use Rattle.pw_cppc.specs.declared.reply.CppcReply.{CppcReply}
use Rattle.pw_cppc.specs.Answers.{after, if_accepted, refusal}
use Rattle.pw_cppc.specs.States.{changed, number_of, standing}
use Rattle.pw_cppc.specs.Operations.{set_on, standing_ops}
use Rattle.pw_cppc.specs.inner.Changes.{with_number}

pub sets_standing : (P : CppcPlan) (S T : CppcNumbers) (place p before after : ℕ) → domain_of P p ≡ place → before ≡ standing P S place p → after ≡ standing P T place p
    → cond (before == after) [] (flat_map (λ q. set_on P controls.Desired q after) (set_at (domain_at P place).coord (domain_at P place).members p)) ≡ standing_ops P S T p
sets_standing P S T place p before after at was is = rw (was, is, ← at) refl

set_back : (xs : List ℕ) (p v : ℕ) → slice_set (slice_set xs p v) p (slice_index_or xs p 0) ≡ xs
set_back [] p v = refl
set_back (x ∷ xs) zero v = refl
set_back (x ∷ xs) (suc p) v = ap (λ ys. x ∷ ys) (set_back xs p v)

pub taken_back : (S : CppcNumbers) (q : CppcRequest) → with_number (changed S q) q (number_of S q) ≡ S
taken_back S (Desired p v) = ap (λ (xs : List ℕ). record S { asks = xs }) (set_back S.asks p v)
taken_back S (Minimum p v) = ap (λ (xs : List ℕ). record S { minima = xs }) (set_back S.minima p v)
taken_back S (Maximum p v) = ap (λ (xs : List ℕ). record S { maxima = xs }) (set_back S.maxima p v)

same_element : (xs : List ℕ) (p : ℕ) → slice_set xs p (slice_index_or xs p 0) ≡ xs
same_element [] p = refl
same_element (x ∷ xs) zero = refl
same_element (x ∷ xs) (suc p) = ap (λ ys. x ∷ ys) (same_element xs p)

with_own : (S : CppcNumbers) (q : CppcRequest) → with_number S q (number_of S q) ≡ S
with_own S (Desired p v) = ap (λ (xs : List ℕ). record S { asks = xs }) (same_element S.asks p)
with_own S (Minimum p v) = ap (λ (xs : List ℕ). record S { minima = xs }) (same_element S.minima p)
with_own S (Maximum p v) = ap (λ (xs : List ℕ). record S { maxima = xs }) (same_element S.maxima p)

-- refused or not
undone : (S : CppcNumbers) (q : CppcRequest) (o : Option CppcReply) → with_number (if_accepted o (λ reply. S) (changed S q)) q (number_of S q) ≡ S
undone S q None = taken_back S q
undone S q (Some reply) = with_own S q

pub after_taken_back : (P : CppcPlan) (S : CppcNumbers) (q : CppcRequest) → with_number (after P S q) q (number_of S q) ≡ S
unfolding after
after_taken_back P S q = undone S q (refusal P S q)
