-- Which requests are refused and why, what one changes, and its answer.
use Rattle.std.specs.Prelude.{◌==◌, ◌||◌, not, Bool, true, false, Option, Some, None, is_none, nat_lt}
use Rattle.pw_cppc.specs.declared.plan.CppcPlan.{CppcPlan}
use Rattle.pw_cppc.specs.declared.request.CppcRequest.{CppcRequest}
use Rattle.pw_cppc.specs.declared.request.CppcRequest.TheVariants.{Desired, Minimum, Maximum}
use Rattle.pw_cppc.specs.Parts.{highest_of, lowest_of}
use Rattle.pw_cppc.specs.Planning.{domain_at, domain_of, parts_at}
use Rattle.pw_cppc.specs.Requests.{cpu_of, value_of}
use Rattle.pw_cppc.specs.declared.numbers.CppcNumbers.{CppcNumbers}
use Rattle.pw_cppc.specs.declared.reply.CppcReply.{CppcReply}
use Rattle.pw_cppc.specs.declared.reply.CppcReply.TheVariants.{Stands, NoTable, Unfit, OutOfRange, Crossed}
use Rattle.pw_cppc.specs.States.{changed, maximum_of, minimum_of, stands}

-- the first refusal, or what the rest says where there is none
infixr 20 ◌or_else◌
abbrev pub ◌or_else◌ : Option CppcReply → Option CppcReply → Option CppcReply
None or_else rest = rest
(Some reply) or_else rest = Some reply

abbrev pub refuse_if : Bool → CppcReply → Option CppcReply
refuse_if true reply = Some reply
refuse_if false reply = None

-- # Refusals

-- a refusal that comes whatever was asked before: no `_CPC`; an unfit domain; a value that isn't from the lowest to the highest
abbrev pub fixed_refusal : CppcPlan → CppcRequest → Option CppcReply
fixed_refusal P q =
    let c = parts_at P (cpu_of q) in
    let d = domain_at P (domain_of P (cpu_of q)) in
    refuse_if (is_none c.cpc) NoTable
    or_else refuse_if (not (d.unfit == 0)) (Unfit d.unfit)
    or_else refuse_if (nat_lt (value_of q) (lowest_of c) || nat_lt (highest_of c) (value_of q)) (OutOfRange (lowest_of c) (highest_of c))

-- a minimum above the processor's maximum, or a maximum below its minimum
abbrev pub crossing : CppcNumbers → CppcRequest → Option CppcReply
crossing S (Desired p v) = None
crossing S (Minimum p v) = refuse_if (nat_lt (maximum_of S p) v) (Crossed (maximum_of S p))
crossing S (Maximum p v) = refuse_if (nat_lt v (minimum_of S p)) (Crossed (minimum_of S p))

-- Why the request is refused, if it is.
abbrev pub refusal : CppcPlan → CppcNumbers → CppcRequest → Option CppcReply
refusal P S q = fixed_refusal P q or_else crossing S q

-- # What comes of a request

-- what follows a refusal, or what follows where there is none
abbrev pub if_accepted : {X : Type 0} → Option CppcReply → (CppcReply → X) → X → X
if_accepted None refused accepted = accepted
if_accepted (Some reply) refused accepted = refused reply

-- The numbers after a request: a refusal changes nothing.
unfoldable pub after : CppcPlan → CppcNumbers → CppcRequest → CppcNumbers
after P S q = if_accepted (refusal P S q) (λ reply. S) (changed S q)

-- The answer to a request: where the processor stands after it.
unfoldable pub answer : CppcPlan → CppcNumbers → CppcRequest → CppcReply
answer P S q = if_accepted (refusal P S q) (λ reply. reply) (Stands (stands P (changed S q) (cpu_of q)))
