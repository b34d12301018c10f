-- Which changes a state can take.
use Rattle.std.specs.Prelude.{◌<◌, length}
use Rattle.pw_model.specs.declared.state.State.{State}
use Rattle.pw_model.specs.declared.state.Change.{Change}
use Rattle.pw_model.specs.declared.state.Change.TheVariants.{Nothing, Vote, Ask, Limit}

-- the lists have the entry
abbrev pub CanChange : State → Change → Type 0
CanChange S Nothing = Unit {0}
CanChange S (Vote p v) = p < length S.votes
CanChange S (Ask kind p i) = (p < length S.perf_asks) × (p < length S.throttle_asks)
CanChange S (Limit kind p n) = (p < length S.perf_limits) × (p < length S.throttle_limits)
