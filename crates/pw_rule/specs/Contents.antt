-- What lies in the slots: each record in the slot of its turn, and the journal in the last.
use Rattle.std.specs.Prelude.{◌≡◌, ℕ, ◌<◌, List, Option, Some, length, map}
use mathlib.Core.Option.{some}
use lib.ListN.{get_elem?}
use Rattle.pw_plan.specs.declared.plan.Plan.{Plan}
use Rattle.pw_model.specs.Calls.{opening_part}
use Rattle.pw_model.specs.Records.{Part, container, domain, group, record_at}
use Rattle.pw_idle.specs.Nodes.{IsNodeOf, node_part}
use Rattle.pw_domain.specs.Domains.{IsDomainOf, domain_part}
use Rattle.pw_domain.specs.Groups.{IsGroupOf, group_part}
use Rattle.pw_rule.specs.declared.content.Content.{Content}
use Rattle.pw_rule.specs.declared.content.Content.TheVariants.{Node, Domain, Group, Log}

-- each slot with its value, where it is at home
abbrev pub Homes : Type 0 → Type 0
Homes R = List (mathlib.Core.Option.Option (Option (Content R)))

module _ {R : Type 0} where
  -- it is the record of this turn of the plan, and holds this part
  abbrev pub IsRecordOf : Plan → ℕ → Part → Content R → Type 0
  IsRecordOf P t part (Node r) = IsNodeOf P r × (record_at P t ≡ container r.node) × (node_part r ≡ part)
  IsRecordOf P t part (Domain r) = IsDomainOf P r × (record_at P t ≡ domain r.domain) × (domain_part r ≡ part)
  IsRecordOf P t part (Group r) = IsGroupOf P r × (record_at P t ≡ group r.group) × (group_part r ≡ part)
  IsRecordOf P t part (Log j) = ⊥

  -- The turn's record is at home in its slot with this part.
  pub record LiesAt (P : Plan) (hs : Homes R) (t : ℕ) (part : Part) : Type 0 where
    pub content : Content R
    pub here : get_elem? hs t ≡ some (some (Some content))
    pub holds : IsRecordOf P t part content

  -- each of these slots has its turn's record as it opens
  abbrev pub AreOpening : Plan → List (Option (Content R)) → Type 0
  AreOpening P xs = (t : ℕ) → t < length xs → LiesAt P (map some xs) t (opening_part P (record_at P t))
