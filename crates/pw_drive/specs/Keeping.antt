-- The records of a whole plan, and the parts that they hold.
use Rattle.std.specs.Prelude.{◌≡◌, ◌<◌, [], ℕ, List, length, slice_index_or}
use Rattle.acpi_values.specs.declared.dependency.Coord.TheVariants.{SwAll}
use Rattle.pw_plan.specs.declared.plan.Plan.{Plan}
use Rattle.pw_model.specs.Calls.{opening_part}
use Rattle.pw_model.specs.Records.{Part, Record, container, domain, group, scaled_count}
use Rattle.pw_idle.specs.declared.node.NodeRec.{NodeRec}
use Rattle.pw_idle.specs.Nodes.{node_part}
use Rattle.pw_domain.specs.declared.domain.DomainRec.{DomainRec}
use Rattle.pw_domain.specs.declared.group.GroupRec.{GroupRec}
use Rattle.pw_domain.specs.Domains.{domain_part}
use Rattle.pw_domain.specs.Groups.{group_part}
use Rattle.pw_walker.specs.Records.{IsDomain, IsGroup, IsNode}
use Rattle.pw_drive.specs.declared.records.Records.{Records}

-- # What stands past the end of a list of records

abbrev pub no_node_record : NodeRec
no_node_record = record { node = 0; votes = []; allowing = []; state = 0 }

abbrev pub no_domain_record : DomainRec
no_domain_record = record { domain = 0; coord = SwAll; asks = []; limits = [] }

abbrev pub no_group_record : GroupRec
no_group_record = record { group = 0; states = [] }

abbrev pub node_in : List NodeRec → ℕ → NodeRec
node_in rs n = slice_index_or rs n no_node_record

abbrev pub domain_in : List DomainRec → ℕ → DomainRec
domain_in rs d = slice_index_or rs d no_domain_record

abbrev pub group_in : List GroupRec → ℕ → GroupRec
group_in rs g = slice_index_or rs g no_group_record

-- # Which records there are

-- One for each number below the count, at its number.
pub record AreInOrder {X : Type 0} (Is : ℕ → X → Type 0) (none : X) (count : ℕ) (xs : List X) : Type 0 where
  pub size : length xs ≡ count
  pub each : (k : ℕ) → k < count → Is k (slice_index_or xs k none)

-- These are the records of the plan: of each container, of each domain of performance or throttling, and of each group.
pub record AreRecordsOf (P : Plan) (R : Records) : Type 0 where
  pub nodes : AreInOrder (IsNode P) no_node_record (length P.containers) R.nodes.items
  pub domains : AreInOrder (IsDomain P) no_domain_record (scaled_count P) R.domains.items
  pub groups : AreInOrder (IsGroup P) no_group_record (length P.groups) R.groups.items

-- # What they hold

-- the part that the record of this place holds
abbrev pub part_in : Records → Record → Part
part_in R (container n) = node_part (node_in R.nodes.items n)
part_in R (domain d) = domain_part (domain_in R.domains.items d)
part_in R (group g) = group_part (group_in R.groups.items g)

-- as at the start
abbrev pub OpensNode : Plan → ℕ → NodeRec → Type 0
OpensNode P n r = IsNode P n r × (node_part r ≡ opening_part P (container n))

abbrev pub OpensDomain : Plan → ℕ → DomainRec → Type 0
OpensDomain P d r = IsDomain P d r × (domain_part r ≡ opening_part P (domain d))

abbrev pub OpensGroup : Plan → ℕ → GroupRec → Type 0
OpensGroup P g r = IsGroup P g r × (group_part r ≡ opening_part P (group g))
