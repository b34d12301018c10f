use Rattle.std.proofs.Common.{◌≡◌, drop, nat_le}
use Rattle.std.specs.List.{list_all}
use Rattle.pw_model.specs.States.{vote_of, with_change}
use Rattle.pw_model.specs.Domains.{is_gathered, state_of}
use Rattle.pw_core.proofs.c_states.is_gathered.Given as goal

abbrev pub invariant-loop-member : goal.invariant-loop-member
invariant-loop-member l =
    list_all (λ q. nat_le (state_of l.domain) (vote_of (with_change l.state l.change) q).state) (drop l.member-index l.member-items)
    ≡ is_gathered (with_change l.state l.change) l.domain
