use Rattle.std.proofs.Common.{◌≡◌, ◌-◌, not}
use Rattle.std.specs.List.{list_all, range_with_len}
use Rattle.pw_cppc.specs.Domains.{together}
use Rattle.pw_cppc.proofs.domains.is_first.Given as goal

abbrev pub invariant-loop-earlier : goal.invariant-loop-earlier
invariant-loop-earlier l =
    list_all (λ q. not (together l.cpus q l.cpu)) (range_with_len l.earlier (l.cpu - l.earlier))
    ≡ list_all (λ q. not (together l.cpus q l.cpu)) (range_with_len 0 l.cpu)
