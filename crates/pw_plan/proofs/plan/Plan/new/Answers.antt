use Rattle.std.proofs.Common.{length, ap, sym, ◌∙◌}
use Rattle.std.proofs.lemmas.List.FromFn.{length-map-range_with_len}
use Rattle.pw_plan.specs.Domains.{AreDomains}
use Rattle.pw_plan.specs.Planning.{IsPlanOf}
use Rattle.pw_plan.specs.Tree.{children_of}
use Rattle.pw_plan.proofs.Indexing.{below_end}
use Rattle.pw_plan.proofs.Grouping.{are_groups}
use Rattle.pw_plan.proofs.Listing.{are_domains}
use Rattle.pw_plan.proofs.Orders.{orderly}
use Rattle.pw_plan.proofs.Soundness.{is_sound, members_exist}
use Rattle.pw_plan.proofs.plan.Plan.new.Goals as goal

pub groups_of-requires-clause-members : goal.groups_of-requires-clause-members
groups_of-requires-clause-members c =
    let within = rw (c.as_slice.ensures.value, c.as_slice-2.ensures.value) at (sym c.limit_passed.ensures ∙ c.in_default.is) in
    let domains = rw c.as_slice-5.ensures.value at c.in_ok-domains.ensures in
    let size = rw c.as_slice-2.ensures.value at c.as_slice-2.ensures.len in
    rw (c.as_slice-6.ensures, domains, c.len.ensures, ← size) (members_exist c.args.containers.items c.args.cpus.items within)

domains_are : (c : goal.After-from_vec-cpus) → AreDomains c.args.cpus.items c.in_ok-domains.domains
domains_are c =
    let domains = rw c.as_slice-5.ensures.value at c.in_ok-domains.ensures in
    rw domains (are_domains c.args.cpus.items c.requires.csd)

planned : (c : goal.After-from_vec-cpus) → IsPlanOf c.from_vec-containers.result c.from_vec-cpus.result c.in_ok-children.children c.in_ok-domains.domains c.in_ok-groups.groups
planned c =
    let within = rw (c.as_slice.ensures.value, c.as_slice-2.ensures.value) at (sym c.limit_passed.ensures ∙ c.in_default.is) in
    let size = rw c.as_slice-2.ensures.value at c.as_slice-2.ensures.len in
    rw (c.from_vec-containers.ensures, c.from_vec-cpus.ensures) (record {
      fit = c.requires;
      within = within;
      children_are = rw (c.as_slice-3.ensures.value, c.as_slice-4.ensures.value) at c.in_ok-children.ensures;
      domains_are = domains_are c;
      groups_are = rw (c.as_slice-6.ensures, c.len.ensures, ← size) at c.in_ok-groups.ensures;
    })

pub cpu_indices-requires-clause-parents : goal.cpu_indices-requires-clause-parents
cpu_indices-requires-clause-parents c =
    let children = rw (c.as_slice-3.ensures.value, c.as_slice-4.ensures.value) at c.in_ok-children.ensures in
    let size = ap length children ∙ length-map-range_with_len (children_of c.args.containers.items c.args.cpus.items) 0 (length c.args.containers.items) in
    rw (c.as_slice-7.ensures, c.as_slice-8.ensures.value, size) c.requires.processors

pub container_places-requires-clause-parents : goal.container_places-requires-clause-parents
container_places-requires-clause-parents c =
    let children = rw (c.as_slice-3.ensures.value, c.as_slice-4.ensures.value) at c.in_ok-children.ensures in
    let size = ap length children ∙ length-map-range_with_len (children_of c.args.containers.items c.args.cpus.items) 0 (length c.args.containers.items) in
    rw (c.as_slice-11.ensures, c.as_slice-12.ensures.value, size) (below_end c.args.containers.items c.requires.containers)

pub invariant_of-result : goal.invariant_of-result
invariant_of-result c = record {
  planned = ∣ planned c ∣₁;
  orderly = orderly c.from_vec-containers.result c.from_vec-cpus.result c.in_ok-children.children c.in_ok-domains.domains c.in_ok-groups.groups (planned c);
  indexed = record {
    cpus = rw c.from_vec-cpus.ensures (rw (c.as_slice-7.ensures, c.as_slice-8.ensures.value, c.as_slice-9.ensures, c.as_slice-10.ensures) at c.in_ok-cpu_index.ensures);
    containers = rw c.from_vec-containers.ensures (rw (c.as_slice-11.ensures, c.as_slice-12.ensures.value) at c.in_ok-container_index.ensures);
  };
  sound = is_sound c.from_vec-containers.result c.from_vec-cpus.result c.in_ok-children.children c.in_ok-domains.domains c.in_ok-groups.groups (planned c);
}

pub returns-clause-domains : goal.returns-clause-domains
returns-clause-domains c =
    let domains = rw c.as_slice-5.ensures.value at c.in_ok-domains.ensures in
    rw domains (are_domains c.args.cpus.items c.requires.csd)

pub returns-clause-joined : goal.returns-clause-joined
returns-clause-joined c =
    let within = rw (c.as_slice.ensures.value, c.as_slice-2.ensures.value) at (sym c.limit_passed.ensures ∙ c.in_default.is) in
    let domains = rw c.as_slice-5.ensures.value at c.in_ok-domains.ensures in
    let size = rw c.as_slice-2.ensures.value at c.as_slice-2.ensures.len in
    let groups = rw (c.as_slice-6.ensures, c.len.ensures, ← size) at c.in_ok-groups.ensures in
    rw groups (are_groups c.in_ok-domains.domains (length c.args.cpus.items) (rw domains (members_exist c.args.containers.items c.args.cpus.items within)))
