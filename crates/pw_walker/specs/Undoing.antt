-- Old elements of records, which may be set back.
use Rattle.std.specs.Prelude.{◌≡◌, ◌<◌, ◌≤◌, ℕ, length}
use Rattle.acpi_values.specs.Idle.{rows_of}
use Rattle.pw_plan.specs.declared.plan.Plan.{Plan}
use Rattle.pw_plan.specs.Parts.{scale_of}
use Rattle.pw_plan.specs.Places.{children_at, cpu_at, domain_at, group_at}
use Rattle.pw_model.specs.States.{IsIndex, IsProper}
use Rattle.pw_model.specs.Calls.{with_state, with_vote}
use Rattle.pw_model.specs.Effects.{with_ask, with_limit}
use Rattle.pw_model.specs.Holding.{member_in, table_at}
use Rattle.pw_model.specs.Records.{Part}
use Rattle.pw_walker.specs.declared.place.OldLevel.{OldLevel}
use Rattle.pw_walker.specs.declared.place.OldLevel.TheVariants.{Ask, Limit}
use Rattle.pw_walker.specs.declared.place.OldState.{OldState}
use Rattle.pw_walker.specs.declared.place.OldVote.{OldVote}

-- # Containers

-- It may stand in the record of container n.
pub record FitsVote (P : Plan) (n : ℕ) (old : OldVote) : Type 0 where
  pub child : old.child < length (children_at P n)
  pub state : old.vote.state ≤ table_at P n old.child
  pub proper : IsProper old.vote

-- the part with it set back
abbrev pub vote_back : OldVote → Part → Part
vote_back old x = with_vote old.child old.vote x

-- Set back, it makes of part y of container n the part x.
pub record IsOldVote (P : Plan) (n : ℕ) (old : OldVote) (x y : Part) : Type 0 where
  pub fits : FitsVote P n old
  pub back : vote_back old y ≡ x

-- # Domains

-- the member at place k exists, and i is an index of its scale
abbrev pub IsMemberIndex : Plan → ℕ → ℕ → ℕ → Type 0
IsMemberIndex P d k i =
    (k < length (domain_at P d).members) × IsIndex (scale_of (domain_at P d).kind (cpu_at P (member_in (domain_at P d).members k))) i

-- it may stand in the record of domain d
abbrev pub FitsLevel : Plan → ℕ → OldLevel → Type 0
FitsLevel P d (Ask k i) = IsMemberIndex P d k i
FitsLevel P d (Limit k n) = IsMemberIndex P d k n

abbrev pub level_back : OldLevel → Part → Part
level_back (Ask k i) x = with_ask k i x
level_back (Limit k n) x = with_limit k n x

-- Set back, it makes of part y of domain d the part x.
pub record IsOldLevel (P : Plan) (d : ℕ) (old : OldLevel) (x y : Part) : Type 0 where
  pub fits : FitsLevel P d old
  pub back : level_back old y ≡ x

-- # Groups

-- It may stand in the record of group g.
pub record FitsState (P : Plan) (g : ℕ) (old : OldState) : Type 0 where
  pub member : old.member < length (group_at P g).members
  pub state : old.state ≤ length (rows_of (cpu_at P (member_in (group_at P g).members old.member)).idle)

abbrev pub state_back : OldState → Part → Part
state_back old x = with_state old.member old.state x

-- Set back, it makes of part y of group g the part x.
pub record IsOldState (P : Plan) (g : ℕ) (old : OldState) (x y : Part) : Type 0 where
  pub fits : FitsState P g old
  pub back : state_back old y ≡ x
