-- What a request tells on its way, whether it gives up or waits.
use Rattle.std.specs.Prelude.{◌≡◌, ◌++◌, List, [], Result, Ok, Err}
use Rattle.acpi_values.specs.declared.operation.Op.{Op}
use Rattle.pw_plan.specs.declared.request.Request.{Request}
use Rattle.pw_model.specs.declared.reply.Reply.{Reply}
use Rattle.pw_machine.specs.declared.view.View.{View}
use Rattle.pw_machine.specs.Machine.{Given}
use Rattle.pw_machine.specs.Steps.{Asks}
use Rattle.pw_machine.specs.Walk.{over, walk}
use Rattle.pw_rule.specs.Plays.{Mine}
use Rattle.pw_turns.specs.Begun.{MakesNone}
use Rattle.pw_turns.specs.Climb.{Climbs}
use Rattle.pw_turns.specs.HeldRecords.{AreHeld, in_hands}
use Rattle.pw_turns.specs.declared.held_record.HeldRecord.{HeldRecord}
use Rattle.pw_turns.specs.declared.requests.Try.{Try}

-- it was told this, and gives up: it made no entry, and saw nothing
abbrev pub GivesUp : Given → View → Request → Try → View → Type 0
GivesUp given v q told w = Climbs given v q told w × MakesNone told × (w.seen ≡ v.seen)

-- a result, with what one that gives up would have been told
abbrev pub told_in : {A T : Type 0} → (T → Try) → Result A T → Result A Try
told_in tried (Ok x) = Ok x
told_in tried (Err told) = Err (tried told)

-- what taking the records tells: the reply and the operations, or what it was told
abbrev pub HoldTells : Given → Request → Result Reply Try → List Op → View → View → Type 0
HoldTells given q (Ok reply) ops u w = (w ≡ u) × (walk given.plan q u.held ≡ over reply ops) × Asks given.plan u q × (u.out ≡ [])
HoldTells given q (Err told) ops u w = GivesUp given u q told w

module _ {R : Type 0} (given : Given) (q : Request) where
  -- The request holds more records, in hand.
  pub record Holds (m : Mine R) (before : List (HeldRecord R)) (r : Result Reply Try) (ops : List Op) (after : List (HeldRecord R))
      (n : Mine R) : Type 0 where
    pub more : List (HeldRecord R)
    pub top : View
    pub records : after ≡ before ++ more
    pub held : AreHeld given q m.0 more top
    pub hands : n.1 ≡ in_hands more m.1
    pub tells : HoldTells given q r ops top n.0
