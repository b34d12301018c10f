-- What stands at a number in a plan.
use Rattle.std.specs.Prelude.{ℕ}
use Rattle.std.specs.List.{position_or_len}
use Rattle.pw_cppc.specs.declared.parts.CppcParts.{CppcParts}
use Rattle.pw_cppc.specs.declared.plan.CppcDomain.{CppcDomain}
use Rattle.pw_cppc.specs.declared.plan.CppcPlan.{CppcPlan}
use Rattle.pw_cppc.specs.Parts.{parts_in}
use Rattle.pw_cppc.specs.Sound.{covers, domain_in}

abbrev pub parts_at : CppcPlan → ℕ → CppcParts
parts_at P p = parts_in P.cpus p

abbrev pub domain_at : CppcPlan → ℕ → CppcDomain
domain_at P d = domain_in P.domains d

-- the place of the domain that has the processor, or how many domains there are
abbrev pub domain_of : CppcPlan → ℕ → ℕ
domain_of P p = position_or_len (covers p) P.domains
