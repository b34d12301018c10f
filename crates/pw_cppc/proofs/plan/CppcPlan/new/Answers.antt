use Rattle.std.proofs.Common.{◌≡◌, length}
use Rattle.pw_cppc.specs.Domains.{domains_of}
use Rattle.pw_cppc.specs.Sound.{IsPlanOf, places_of}
use Rattle.pw_cppc.proofs.Soundness.{is_sound}
use Rattle.pw_cppc.proofs.plan.CppcPlan.new.Goals as goal

domains_are : (c : goal.After-from_vec-cpus) → c.in_ok-domains.domains ≡ domains_of c.args.cpus.items
domains_are c = rw c.as_slice.ensures.value at c.in_ok-domains.ensures

planned : (c : goal.After-from_vec-cpus) → IsPlanOf c.from_vec-paths.result c.from_vec-cpus.result c.in_ok-domains.domains c.in_ok-places.places
planned c =
    let size = rw c.as_slice.ensures.value at c.as_slice.ensures.len in
    let places : c.in_ok-places.places ≡ places_of c.in_ok-domains.domains (length c.args.cpus.items) = rw (c.as_slice-2.ensures, c.len.ensures, ← size) at c.in_ok-places.ensures in
    rw (c.from_vec-paths.ensures, c.from_vec-cpus.ensures) (record {
      paths_are = c.requires.paths;
      paths_differ = c.requires.differ;
      few = c.requires.few;
      domains_are = domains_are c;
      places_are = places;
    })

pub invariant_of-result : goal.invariant_of-result
invariant_of-result c = record {
  planned = planned c;
  sound = rw (c.from_vec-cpus.ensures, domains_are c) (is_sound c.args.cpus.items c.requires.few);
}
