-- Which domains a vote can bring to be gathered.
use Rattle.std.specs.Prelude.{◌&&◌, ℕ, Bool, List, nat_le, slice_index_or, slice_set}
use Rattle.pw_plan.specs.declared.domain.Domain.{Domain}
use Rattle.pw_plan.specs.declared.domain.DomainKind.TheVariants.{Idle}
use Rattle.pw_plan.specs.Covering.{covers}
use Rattle.pw_plan.specs.Groups.{is_software}
use Rattle.pw_model.specs.Effects.{gathered_by}

-- whether it is an idle domain of processor p that software coordinates, which the vote s at place k, of that processor, can
-- bring to be gathered: it is gathered after it, and the vote before was for no such state
abbrev pub brought_by : List ℕ → List ℕ → ℕ → ℕ → ℕ → Domain → Bool
brought_by ms ss k s p d =
    (covers Idle p d && is_software d.coord) && (nat_le (slice_index_or ss k 0) d.index && gathered_by ms (slice_set ss k s) d)
