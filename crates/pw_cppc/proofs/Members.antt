-- Who the members of the domains are.
use Rattle.std.proofs.Common.{◌<◌, ℕ, List, length, arith}
use Rattle.std.specs.Prelude.{All}
use Rattle.std.proofs.lemmas.List.Elements.{All-from_recursion}
use Rattle.pw_cppc.specs.declared.parts.CppcParts.{CppcParts}
use Rattle.pw_cppc.specs.Domains.{members_of, together}
use Rattle.pw_cppc.proofs.Kept.{kept_each}

-- members are processors
pub members_exist : (ps : List CppcParts) (p : ℕ) → All (λ q. q < length ps) (members_of ps p)
members_exist ps p = All-from_recursion (λ q. q < length ps) (members_of ps p) (kept_each (λ q. q < length ps) (together ps p) 0 (length ps) (λ q a b e. omega arith))
