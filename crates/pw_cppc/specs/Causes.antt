-- Why a request is refused, said of each refusal by itself (ACPI 6.5, 8.4.6.1.2).
use Rattle.std.specs.Prelude.{◌≡◌, ◌<◌, ◌≤◌, ◌⊎◌, ℕ, true, false, length}
use Rattle.pw_plan.specs.Groups.{has_member}
use Rattle.pw_cppc.specs.declared.numbers.CppcNumbers.{CppcNumbers}
use Rattle.pw_cppc.specs.declared.plan.CppcPlan.{CppcPlan}
use Rattle.pw_cppc.specs.declared.reply.CppcReply.{CppcReply}
use Rattle.pw_cppc.specs.declared.reply.CppcReply.TheVariants.{Stands, NoTable, Unfit, OutOfRange, Crossed}
use Rattle.pw_cppc.specs.declared.request.CppcRequest.{CppcRequest}
use Rattle.pw_cppc.specs.declared.request.CppcRequest.TheVariants.{Desired, Minimum, Maximum}
use Rattle.pw_cppc.specs.Parts.{has_cpc, highest_of, lowest_of}
use Rattle.pw_cppc.specs.Planning.{domain_at, parts_at}
use Rattle.pw_cppc.specs.Requests.{cpu_of, value_of}
use Rattle.pw_cppc.specs.States.{maximum_of, minimum_of}

-- Processor p has `_CPC`, and a domain that is unfit for this reason, 0 where it is fit.
pub record HasDomain (P : CppcPlan) (p why : ℕ) : Type 0 where
  pub table : has_cpc P.cpus p ≡ true
  pub domain : ℕ
  pub exists : domain < length P.domains
  pub member : has_member (domain_at P domain).members p ≡ true
  pub unfit : (domain_at P domain).unfit ≡ why

-- The processor's domain is fit, and the value is at least its lowest and at most its highest performance.
pub record IsOnScale (P : CppcPlan) (q : CppcRequest) : Type 0 where
  pub fit : HasDomain P (cpu_of q) 0
  pub from : lowest_of (parts_at P (cpu_of q)) ≤ value_of q
  pub to : value_of q ≤ highest_of (parts_at P (cpu_of q))

-- Its domain is fit, and the value is below its lowest performance or above its highest: these.
pub record IsOffScale (P : CppcPlan) (q : CppcRequest) (lowest highest : ℕ) : Type 0 where
  pub fit : HasDomain P (cpu_of q) 0
  pub from : lowest ≡ lowest_of (parts_at P (cpu_of q))
  pub to : highest ≡ highest_of (parts_at P (cpu_of q))
  pub off : (value_of q < lowest) ⊎ (highest < value_of q)

-- a minimum is above the processor's maximum, or a maximum below its minimum: this one
abbrev pub Crosses : CppcNumbers → CppcRequest → ℕ → Type 0
Crosses S (Desired p v) bound = ⊥
Crosses S (Minimum p v) bound = (bound ≡ maximum_of S p) × (bound < v)
Crosses S (Maximum p v) bound = (bound ≡ minimum_of S p) × (v < bound)

-- a minimum is at most the processor's maximum, and a maximum at least its minimum
abbrev pub CrossesNone : CppcNumbers → CppcRequest → Type 0
CrossesNone S (Desired p v) = Unit {0}
CrossesNone S (Minimum p v) = v ≤ maximum_of S p
CrossesNone S (Maximum p v) = minimum_of S p ≤ v

-- The request may be made: its processor's domain is fit, its value is on the scale, and it crosses no bound.
pub record MayAsk (P : CppcPlan) (S : CppcNumbers) (q : CppcRequest) : Type 0 where
  pub scaled : IsOnScale P q
  pub uncrossed : CrossesNone S q

-- The request is due this refusal: that there is no `_CPC`; else that the domain is unfit, and why; else that the value is off the scale,
-- and where that ends; else that a bound is crossed, and which.
abbrev pub IsDue : CppcPlan → CppcNumbers → CppcRequest → CppcReply → Type 0
IsDue P S q NoTable = has_cpc P.cpus (cpu_of q) ≡ false
IsDue P S q (Unfit why) = HasDomain P (cpu_of q) why × (0 < why)
IsDue P S q (OutOfRange lowest highest) = IsOffScale P q lowest highest
IsDue P S q (Crossed bound) = IsOnScale P q × Crosses S q bound
IsDue P S q (Stands value) = ⊥
