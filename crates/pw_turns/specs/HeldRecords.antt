-- The records that a request in two steps holds, in the order in which it took them.
use Rattle.std.specs.Prelude.{◌≡◌, ℕ, suc, ◌<◌, List, [], ◌∷◌, Option, None}
use Rattle.pw_plan.specs.declared.request.Request.{Request}
use Rattle.pw_model.specs.Records.{Part, record_count}
use Rattle.pw_machine.specs.declared.view.View.{View}
use Rattle.pw_machine.specs.Machine.{Given, count_held}
use Rattle.pw_machine.specs.Steps.{taken}
use Rattle.pw_machine.specs.Walk.{left, walk}
use Rattle.pw_walker.specs.declared.place.Place.{Place}
use Rattle.pw_walker.specs.declared.place.Place.TheVariants.{Over, Scaled, Grouped, Climbing}
use Rattle.pw_rule.specs.declared.content.Content.{Content}
use Rattle.pw_rule.specs.Contents.{IsRecordOf}
use Rattle.pw_turns.specs.Contents.{FitsIn, part_back}
use Rattle.pw_turns.specs.Steps.{content_part}
use Rattle.pw_turns.specs.declared.held_record.HeldRecord.{HeldRecord}

-- how many records a request may still take
abbrev pub rank : Place → ℕ
rank (Over reply) = 0
rank (Scaled d) = 1
rank (Grouped g) = 1
rank (Climbing n c) = suc n

module _ {R : Type 0} where
  -- the slots of these records are in hand, and empty
  abbrev pub in_hands : List (HeldRecord R) → List (ℕ × Option (Content R)) → List (ℕ × Option (Content R))
  in_hands [] hands = hands
  in_hands (h ∷ hs) hands = in_hands hs ((h.turn, None) ∷ hands)

module _ {R : Type 0} (given : Given) (q : Request) where
  -- The record was taken with this part, and is as the request leaves it; its old element gives the part back.
  pub record IsHeld (v : View) (x : Part) (h : HeldRecord R) : Type 0 where
    pub fresh : count_held h.turn v.held ≡ 0
    pub none_out : v.out ≡ []
    pub low : h.turn < record_count given.plan
    pub holds : IsRecordOf given.plan h.turn (content_part h.content) h.content
    pub fits : FitsIn given.plan h.content h.old
    pub moved : content_part h.content ≡ left given.plan q (walk given.plan q v.held) x
    pub back : part_back h.old (content_part h.content) ≡ x

  -- from the view v the request took these records, and so came to the view u
  abbrev pub AreHeld : View → List (HeldRecord R) → View → Type 0
  AreHeld v [] u = u ≡ v
  AreHeld v (h ∷ hs) u = (x : Part) × IsHeld v x h × AreHeld (taken h.turn q x v) hs u
