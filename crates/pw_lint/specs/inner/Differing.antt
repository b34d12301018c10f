-- The ways in which a member of a domain with `_CPC` may differ from the first.
use Rattle.std.specs.Prelude.{Bool, Option}
use Rattle.pw_lint.specs.declared.cpc_domains.Differing.{Differing}
use Rattle.pw_lint.specs.declared.cpc_domains.Differing.TheVariants as ways
use Rattle.pw_lint.specs.declared.cpc_domains.Member.{Member}
use Rattle.pw_lint.specs.CpcDomains.{has_other_number, has_other_range, has_other_type}

-- whether a processor is a member that differs in this way
abbrev pub differs : Differing → Member → Option Member → Bool
differs ways.Type = has_other_type
differs ways.Number = has_other_number
differs ways.Range = has_other_range
