-- How many operations a request has.
use Rattle.std.proofs.Common.{◌≡◌, ◌≤◌, ◌<◌, ◌+◌, ◌++◌, ◌∙◌, ℕ, true, List, [], length, take, Some, None, Result, Ok, Err, ap, arith, inl, inr}
use Rattle.std.specs.Prelude.{IfErr, OnErr, OnOk}
use Rattle.std.specs.Result.{result_err}
use Rattle.std.proofs.lemmas.Bool.{cases_lt}
use Rattle.std.proofs.lemmas.List.{get_or_past}
use Rattle.acpi_values.specs.declared.operation.Op.{Op}
use Rattle.pw_base.specs.Outside.{Rose}
use Rattle.pw_base.specs.Room.{Bounded}
use Rattle.pw_regs.specs.Seen.{RegistersSeen}
use Rattle.pw_regs.specs.Doing.{Did}
use Rattle.pw_regs.proofs.Operating.{did_by, did_within}
use Rattle.pw_cppc.specs.declared.plan.CppcPlan.{CppcPlan}
use Rattle.pw_cppc.specs.declared.request.CppcRequest.{CppcRequest}
use Rattle.pw_cppc.specs.Planning.{domain_at, domain_of}
use Rattle.pw_cppc.specs.Requests.{cpu_of, opening_bound, ops_bound}
use Rattle.pw_cppc.specs.Sound.{no_domain}
use Rattle.pw_cppc.specs.declared.numbers.CppcNumbers.{CppcNumbers}
use Rattle.pw_cppc.specs.Operations.{opening_ops, ops_of}
use Rattle.pw_cppc.proofs.NumberBounds.{opening_ops-length, ops_of-le}
use Rattle.pw_cppc_desk.specs.Entries.{done_of}
use Rattle.pw_plan.proofs.RequestBounds.{set_few}

members_few : (P : CppcPlan) (d : ℕ) → length (domain_at P d).members ≤ 256
unfolding no_domain
members_few P d = elim (cases_lt d (length P.domains)) [
  | inl lt ↦ P.sound.sizes d no_domain lt
  | inr ge ↦ let e : domain_at P d ≡ no_domain = get_or_past P.domains d no_domain ge in rw e (omega arith)
]

pub bound_small : (P : CppcPlan) (q : CppcRequest) → ops_bound P q ≤ 257
bound_small P q =
    let d = domain_at P (domain_of P (cpu_of q)) in
    let few = set_few d.coord (length d.members) (members_few P (domain_of P (cpu_of q))) in
    omega (arith, few)

-- operations that were put into an empty list
pub put_in : (ops : List Op) (before next : Bounded Op) → next ≡ record before { elements = before.elements ++ ops } → before.elements ≡ [] → next.elements ≡ ops
put_in ops before next list empty = ap (λ (b : Bounded Op). b.elements) list ∙ ap (λ (os : List Op). os ++ ops) empty

pub opening_few : (P : CppcPlan) (ops : List Op) → ops ≡ opening_ops P → length ops ≡ opening_bound P
opening_few P ops is = ap length is ∙ opening_ops-length P

pub opening_within : (P : CppcPlan) → length (opening_ops P) ≤ opening_bound P
opening_within P = let same = opening_ops-length P in omega (arith, same)

pub few_ops : (P : CppcPlan) (S : CppcNumbers) (q : CppcRequest) (ops : List Op) → ops ≡ ops_of P S q → length ops ≤ ops_bound P q
few_ops P S q ops is = let le = ops_of-le P S q in let same = ap length is in omega (arith, le, same)

-- # What operations did, of which at most so many are done

pub did_most : {X : Type 0} (most : ℕ) (ops list : List Op) (result : Result X ℕ) (old new : RegistersSeen) → list ≡ ops → length ops ≤ most → new.told ≡ old.told → old.faults ≤ new.faults
    → OnOk result (old.told ≡ true → new.log ≡ old.log ++ list) → IfErr result (λ k. old.told ≡ true → new.log ≡ old.log ++ take k list)
    → OnErr result (Rose old.faults new.faults) → OnErr result (old.room < length list)
    → (length list ≤ old.room → new.faults ≡ old.faults) → old.room ≤ new.room + length list
    → Did most (done_of result ops) (result_err result) old new
did_most {X = X} most ops list (Ok x) old new is few told count done part failed promised steady left =
    let did = did_by {X = X} list (Ok x) old new told count done part failed promised steady left in
    did_within (length ops) most ops None old new few (rw is at did)
did_most {X = X} most ops list (Err k) old new is few told count done part failed promised steady left =
    let did = did_by {X = X} list (Err k) old new told count done part failed promised steady left in
    did_within (length ops) most (take k ops) (Some k) old new few (rw is at did)
