-- Calls that put a text on a sink by way of a page, and take memory.
use Rattle.std.specs.Prelude.{◌≡◌, ℕ, zero, suc, true, false, List, [], ◌∷◌, take, Result, Err, is_ok}
use Rattle.pw_base.specs.declared.sink.Sink.{Ghosts as Sink}
use Rattle.pw_text.specs.Puts.{PutsText}
use Rattle.pw_text.specs.declared.fault.PrintFault.{PrintFault}
use Rattle.pw_text.specs.declared.fault.PrintFault.TheVariants as faults

-- A call put a text on a sink of the kind `K`, or met one of two faults: `waited` and `waits` are the bytes on the page before
-- and after it.
pub record PutsUnlessMemory {A S : Type 0} (K : Sink S) (old new : S) (waited waits text : List ℕ) (outcome : Result A PrintFault)
    : Type 0 where
  pub whole : is_ok outcome ≡ true → PutsText K old new waited waits text true
  pub sink : outcome ≡ Err faults.Sink → PutsText K old new waited waits text false
  -- where memory ran out, a beginning of the text was put
  pub memory : outcome ≡ Err faults.Memory → (n : ℕ) × PutsText K old new waited waits (take n text) true

-- what stands before the text of an object: a comma, unless it is the first
abbrev pub comma_before : ℕ → List ℕ
comma_before zero = []
comma_before (suc _) = 44 ∷ []

-- What came of a call that takes memory too, where it took none: a failure is the sink's.
pub record SinkAlone {A B E : Type 0} (plain : Result A E) (outcome : Result B PrintFault) : Type 0 where
  pub same : is_ok outcome ≡ is_ok plain
  pub fault : is_ok outcome ≡ false → outcome ≡ Err faults.Sink
