use Rattle.std.proofs.Common.{◌≡◌, true}
use Rattle.pw_plan.specs.Groups.{has_member}
use Rattle.pw_plan.proofs.Ordered.{each_weaker}
use Rattle.pw_cppc.specs.declared.plan.CppcDomain.{CppcDomain}
use Rattle.pw_cppc.specs.Domains.{IsDomain, domains_of}
use Rattle.pw_cppc.specs.Reasons.{IsAlone, IsReason}
use Rattle.pw_cppc.proofs.Listing.{all_are}
use Rattle.pw_cppc.proofs.Reasoning.{domain_reason, is_alone}
use Rattle.pw_cppc.proofs.laws.domains_have_reasons.Goals as goal

pub returns-clause-reasons : goal.returns-clause-reasons
returns-clause-reasons c = λ ps. each_weaker (IsDomain ps) (λ (d : CppcDomain). IsReason ps d.members d.unfit) (domains_of ps) (λ d is. domain_reason ps d is) (all_are ps)

pub returns-clause-alone : goal.returns-clause-alone
returns-clause-alone c = λ ps p none. each_weaker (IsDomain ps) (λ (d : CppcDomain). has_member d.members p ≡ true → IsAlone d p) (domains_of ps) (λ d is on. is_alone ps d is p none on) (all_are ps)
