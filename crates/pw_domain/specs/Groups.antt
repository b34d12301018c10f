-- The record of a group: what it holds, and of which plan it is.
use Rattle.std.specs.Prelude.{◌<◌, length}
use Rattle.pw_plan.specs.declared.plan.Plan.{Plan}
use Rattle.pw_model.specs.Records.{Part, states}
use Rattle.pw_model.specs.Holding.{HoldsStates}
use Rattle.pw_domain.specs.declared.group.GroupRec.{GroupRec}

-- the part of a state that it holds
abbrev pub group_part : GroupRec → Part
group_part r = states r.states

-- It is the record of group `r.group` of the plan: it holds the state of each member's vote.
pub record IsGroupOf (P : Plan) (r : GroupRec) : Type 0 where
  pub exists : r.group < length P.groups
  pub holds : HoldsStates P r.group r.states
