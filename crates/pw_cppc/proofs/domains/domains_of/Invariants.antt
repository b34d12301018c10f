use Rattle.std.proofs.Common.{◌≡◌, ◌++◌, ◌-◌, length, map}
use Rattle.std.specs.Prelude.{filter}
use Rattle.std.specs.List.{range_with_len}
use Rattle.pw_cppc.specs.Domains.{domain_led_by, domains_of, leads}
use Rattle.pw_cppc.proofs.domains.domains_of.Given as goal

abbrev pub invariant-loop-cpu : goal.invariant-loop-cpu
invariant-loop-cpu l =
    l.domains.items ++ map (domain_led_by l.cpus) (filter (leads l.cpus) (range_with_len l.cpu (length l.cpus - l.cpu)))
    ≡ domains_of l.cpus
