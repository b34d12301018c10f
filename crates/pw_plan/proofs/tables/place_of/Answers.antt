use Rattle.std.proofs.Common.{rules, arith}
use Rattle.std.proofs.lemmas.List.Sorted.{IsPartitionPoint-from_clause}
use Rattle.pw_plan.specs.inner.DomainList.{is_before}
use Rattle.pw_plan.specs.inner.EntryTables.{name_from}
use Rattle.pw_plan.proofs.EntryTables.{split_by}
use Rattle.pw_plan.proofs.tables.place_of.Goals as goal

pub returns-clause-below : goal.returns-clause-below
returns-clause-below c =
    let split = split_by c.args.table.now c.args.name c.requires in
    let point = IsPartitionPoint-from_clause (λ e. is_before (name_from e) c.args.name) _ _ c.partition_point.ensures.partitioned split (λ a r q k. search rules) in
    λ k d lt in_t. point.0 k d (omega arith) lt

pub returns-clause-above : goal.returns-clause-above
returns-clause-above c =
    let split = split_by c.args.table.now c.args.name c.requires in
    let point = IsPartitionPoint-from_clause (λ e. is_before (name_from e) c.args.name) _ _ c.partition_point.ensures.partitioned split (λ a r q k. search rules) in
    λ k d le in_t. point.1 k d le in_t
