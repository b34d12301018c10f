-- The bounds on operations.
use Rattle.std.proofs.Common.{◌≡◌, ◌<◌, ◌≤◌, ◌+◌, ◌==◌, ℕ, suc, Bool, true, false, cond, List, [], ◌∷◌, ◌++◌, length, get_or, Option, Some, None, refl, arith, length-append, zero-add}
use Rattle.std.specs.Prelude.{sum_by}
use Rattle.std.specs.List.{flat_map, range_with_len}
use Rattle.std.proofs.lemmas.List.Sums.{sum_by-cons}
use Rattle.acpi_values.specs.declared.dependency.Coord.{Coord}
use Rattle.acpi_values.specs.declared.dependency.Coord.TheVariants.{HwAll, SwAll, SwAny}
use Rattle.pw_plan.specs.Requests.{set_count}
use Rattle.pw_model.specs.Operations.{set_at}
use Rattle.pw_cppc.specs.declared.parts.Control.TheVariants as controls
use Rattle.pw_cppc.specs.declared.plan.CppcPlan.{CppcPlan}
use Rattle.pw_cppc.specs.declared.request.CppcRequest.{CppcRequest}
use Rattle.pw_cppc.specs.declared.request.CppcRequest.TheVariants.{Desired, Minimum, Maximum}
use Rattle.pw_cppc.specs.Planning.{domain_at, domain_of}
use Rattle.pw_cppc.specs.Requests.{cpu_of, opening_bound, opening_count, ops_bound}
use Rattle.pw_cppc.specs.Sound.{no_domain}
use Rattle.pw_cppc.specs.declared.numbers.CppcNumbers.{CppcNumbers}
use Rattle.pw_cppc.specs.declared.reply.CppcReply.{CppcReply}
use Rattle.pw_cppc.specs.States.{changed, stands}
use Rattle.pw_cppc.specs.Answers.{if_accepted, refusal}
use Rattle.pw_cppc.specs.Operations.{bound_ops, opening_ops, opening_ops_of, ops_of, set_on, standing_ops}
use Rattle.pw_cppc.proofs.Counting.{opening_of_length, set_on_le}
use Rattle.pw_model.proofs.Bounds.{set_at-length, total}

-- # Requests

bound_ops-le : (P : CppcPlan) (q : CppcRequest) → length (bound_ops P q) ≤ 1
bound_ops-le P (Desired p v) = omega arith
bound_ops-le P (Minimum p v) = set_on_le P controls.Minimum p v
bound_ops-le P (Maximum p v) = set_on_le P controls.Maximum p v

each-le : (P : CppcPlan) (v : ℕ) (ms : List ℕ) → length (flat_map (λ q. set_on P controls.Desired q v) ms) ≤ length ms
each-le P v [] = omega arith
each-le P v (m ∷ ms) =
    let here = set_on_le P controls.Desired m v in
    let later = each-le P v ms in
    let both = length-append (set_on P controls.Desired m v) (flat_map (λ q. set_on P controls.Desired q v) ms) in
    omega (arith, here, later, both)

standing_ops-le : (P : CppcPlan) (S T : CppcNumbers) (p : ℕ) → length (standing_ops P S T p) ≤ set_count (domain_at P (domain_of P p)).coord (length (domain_at P (domain_of P p)).members)
standing_ops-le P S T p = step (stands P S p == stands P T p)
  where
    step : (b : Bool) → length (cond b [] (flat_map (λ q. set_on P controls.Desired q (stands P T p)) (set_at (domain_at P (domain_of P p)).coord (domain_at P (domain_of P p)).members p)))
        ≤ set_count (domain_at P (domain_of P p)).coord (length (domain_at P (domain_of P p)).members)
    step true = omega arith
    step false =
        let le = each-le P (stands P T p) (set_at (domain_at P (domain_of P p)).coord (domain_at P (domain_of P p)).members p) in
        let n = set_at-length (domain_at P (domain_of P p)).coord (domain_at P (domain_of P p)).members p in
        omega (arith, le, n)

pub ops_of-le : (P : CppcPlan) (S : CppcNumbers) (q : CppcRequest) → length (ops_of P S q) ≤ ops_bound P q
unfolding ops_of
ops_of-le P S q = step (refusal P S q)
  where
    step : (r : Option CppcReply) → length (if_accepted r (λ reply. []) (bound_ops P q ++ standing_ops P S (changed S q) (cpu_of q))) ≤ ops_bound P q
    step (Some reply) = omega arith
    step None =
        let own = bound_ops-le P q in
        let domain = standing_ops-le P S (changed S q) (cpu_of q) in
        let both = length-append (bound_ops P q) (standing_ops P S (changed S q) (cpu_of q)) in
        omega (arith, own, domain, both)

-- # The start

pub opening_ops-length : (P : CppcPlan) → length (opening_ops P) ≡ opening_bound P
unfolding opening_ops
opening_ops-length P = total (opening_ops_of P) (opening_count P) no_domain P.domains 0 (λ i lt. rw zero-add (opening_of_length P i lt))
