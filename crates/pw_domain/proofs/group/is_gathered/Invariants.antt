use Rattle.std.proofs.Common.{◌≡◌, drop, nat_le, set}
use Rattle.std.specs.List.{list_all}
use Rattle.pw_model.specs.Domains.{state_of}
use Rattle.pw_model.specs.Effects.{gathered_by, state_by}
use Rattle.pw_domain.proofs.group.is_gathered.Given as goal

abbrev pub invariant-loop-member : goal.invariant-loop-member
invariant-loop-member l =
    list_all (λ q. nat_le (state_of l.domain) (state_by l.members (set l.states l.place l.own) q)) (drop l.member-index l.member-items)
    ≡ gathered_by l.members (set l.states l.place l.own) l.domain
