use Rattle.aml_data.proofs.Counting.{writable_counts, spelled_counts}
use Rattle.aml_data.proofs.shortest.countable_parts.Goals as goal

pub returns-clause-writable : goal.returns-clause-writable
returns-clause-writable c = writable_counts

pub returns-clause-spelled : goal.returns-clause-spelled
returns-clause-spelled c = spelled_counts
