-- Old elements of the records in hand.
use Rattle.std.specs.Prelude.{◌≡◌}
use Rattle.pw_plan.specs.declared.plan.Plan.{Plan}
use Rattle.pw_model.specs.Records.{Part}
use Rattle.pw_idle.specs.Nodes.{IsNodeOf}
use Rattle.pw_domain.specs.Domains.{IsDomainOf}
use Rattle.pw_domain.specs.Groups.{IsGroupOf}
use Rattle.pw_walker.specs.Undoing.{FitsLevel, FitsState, FitsVote, level_back, state_back, vote_back}
use Rattle.pw_rule.specs.declared.content.Content.{Content}
use Rattle.pw_rule.specs.declared.content.Content.TheVariants.{Node, Domain, Group, Log}
use Rattle.pw_turns.specs.declared.contents.Old.{Old}
use Rattle.pw_turns.specs.declared.contents.Old.TheVariants as old

-- the part with an old element set back
abbrev pub part_back : Old → Part → Part
part_back (old.Vote o) x = vote_back o x
part_back (old.Level o) x = level_back o x
part_back (old.State o) x = state_back o x

module _ {R : Type 0} where
  -- it is a record of the plan
  abbrev pub IsContentOf : Plan → Content R → Type 0
  IsContentOf P (Node r) = IsNodeOf P r
  IsContentOf P (Domain r) = IsDomainOf P r
  IsContentOf P (Group r) = IsGroupOf P r
  IsContentOf P (Log j) = ⊥

  -- the element may stand in the record
  abbrev pub FitsIn : Plan → Content R → Old → Type 0
  FitsIn P (Node r) (old.Vote o) = FitsVote P r.node o
  FitsIn P (Domain r) (old.Level o) = FitsLevel P r.domain o
  FitsIn P (Group r) (old.State o) = FitsState P r.group o
  FitsIn P (Node r) (old.Level o) = ⊥
  FitsIn P (Node r) (old.State o) = ⊥
  FitsIn P (Domain r) (old.Vote o) = ⊥
  FitsIn P (Domain r) (old.State o) = ⊥
  FitsIn P (Group r) (old.Vote o) = ⊥
  FitsIn P (Group r) (old.Level o) = ⊥
  FitsIn P (Log j) o = ⊥

  -- it is a record of the same turns, whichever these are
  abbrev pub TakesPlace : Plan → Content R → Content R → Type 0
  TakesPlace P (Node r) (Node s) = IsNodeOf P s × (s.node ≡ r.node)
  TakesPlace P (Domain r) (Domain s) = IsDomainOf P s × (s.domain ≡ r.domain)
  TakesPlace P (Group r) (Group s) = IsGroupOf P s × (s.group ≡ r.group)
  TakesPlace P (Node r) (Domain s) = ⊥
  TakesPlace P (Node r) (Group s) = ⊥
  TakesPlace P (Node r) (Log j) = ⊥
  TakesPlace P (Domain r) (Node s) = ⊥
  TakesPlace P (Domain r) (Group s) = ⊥
  TakesPlace P (Domain r) (Log j) = ⊥
  TakesPlace P (Group r) (Node s) = ⊥
  TakesPlace P (Group r) (Domain s) = ⊥
  TakesPlace P (Group r) (Log j) = ⊥
  TakesPlace P (Log j) s = ⊥
