-- Workers begin one after the other, and end so.
use Rattle.std.proofs.Common.{◌≡◌, ◌∷◌, [], List, suc, length, ap, arith, refl}
use Rattle.atomic_table.specs.Seated.{TableId}
use Rattle.pw_machine.specs.Machine.{Given}
use Rattle.pw_regs.specs.declared.registers.Registers.{Ghosts as Registers}
use Rattle.pw_books.proofs.Ended.{AllBecame}
use Rattle.pw_drive.specs.declared.working.Worker.{Worker}
use Rattle.pw_drive.specs.declared.working.Begun.{Begun}
use Rattle.pw_drive.specs.inner.Begun.{AllWillEnd, WillEnd}
use Rattle.pw_drive.specs.inner.Workers.{HasEnded, HaveEnded}

module _ {R : Type 0} (by : Registers R) where
  -- the worker is what this one becomes, whatever it was
  abbrev pub IsEnd : Begun R → Worker → Type 0
  IsEnd b w = (id : TableId) (given : Given) (v : Worker) → WillEnd by id given v b → HasEnded id given v w

  abbrev pub AreEnds : List (Begun R) → List Worker → Type 0
  AreEnds [] [] = Unit {0}
  AreEnds [] (w ∷ ws) = ⊥
  AreEnds (b ∷ bs) [] = ⊥
  AreEnds (b ∷ bs) (w ∷ ws) = IsEnd b w × AreEnds bs ws

  pub have_ended : (id : TableId) (given : Given) (vs : List Worker) (bs : List (Begun R)) (ws : List Worker) → AllWillEnd by id given vs bs → AreEnds bs ws → HaveEnded id given vs ws
  have_ended id given [] [] [] will are = tt
  have_ended id given [] [] (w ∷ ws) will are = absurd are
  have_ended id given [] (b ∷ bs) ws will are = absurd will
  have_ended id given (v ∷ vs) [] ws will are = absurd will
  have_ended id given (v ∷ vs) (b ∷ bs) [] will are = absurd are
  have_ended id given (v ∷ vs) (b ∷ bs) (w ∷ ws) will are = (are.0 id given v will.0, have_ended id given vs bs ws will.1 are.1)

pub as_many : {R : Type 0} (by : Registers R) (id : TableId) (given : Given) (vs : List Worker) (bs : List (Begun R)) → AllWillEnd by id given vs bs → length bs ≡ length vs
as_many by id given [] [] will = refl
as_many by id given [] (b ∷ bs) will = absurd will
as_many by id given (v ∷ vs) [] will = absurd will
as_many by id given (v ∷ vs) (b ∷ bs) will = ap suc (as_many by id given vs bs will.1)

pub all_ended : (id : TableId) (given : Given) (vs ws : List Worker) → HaveEnded id given vs ws → length ws ≡ length vs
all_ended id given [] [] have = refl
all_ended id given [] (w ∷ ws) have = absurd have
all_ended id given (v ∷ vs) [] have = absurd have
all_ended id given (v ∷ vs) (w ∷ ws) have = ap suc (all_ended id given vs ws have.1)

-- nothing is left
pub none_left : {X Y : Type 0} (R : List X → List Y → Type 0) (xs : List X) → length xs ≡ 0 → R [] [] → R xs []
none_left R [] none is = is
none_left R (x ∷ xs) none is = absurd (omega (arith, none))

pub all_became : (id : TableId) (given : Given) (vs ws : List Worker) → HaveEnded id given vs ws → AllBecame (HasEnded id given) vs ws
all_became id given [] [] have = tt
all_became id given [] (w ∷ ws) have = absurd have
all_became id given (v ∷ vs) [] have = absurd have
all_became id given (v ∷ vs) (w ∷ ws) have = (have.0, all_became id given vs ws have.1)
