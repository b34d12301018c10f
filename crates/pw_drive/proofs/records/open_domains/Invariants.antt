use Rattle.std.proofs.Common.{◌≡◌, ◌<◌, ℕ, length}
use Rattle.pw_drive.specs.Keeping.{OpensDomain, domain_in}
use Rattle.pw_drive.proofs.records.open_domains.Given as goal

abbrev pub invariant-loop-domain : goal.invariant-loop-domain
invariant-loop-domain l = record {
  count : length l.domains.items ≡ l.domain;
  each : (k : ℕ) → k < l.domain → OpensDomain l.plan k (domain_in l.domains.items k);
}
