-- Calls that put a text on a sink by way of a page.
use Rattle.std.specs.Prelude.{◌≡◌, ℕ, Bool, true, false, List, [], ◌++◌}
use Rattle.pw_base.specs.declared.sink.Sink.{Ghosts as Sink}
use Rattle.pw_base.specs.Outside.{KeepsSink, Rose, GrewByPart}

-- A call put a text on a sink of the kind `K`: `waited` and `waits` are the bytes on the page before and after it, and
-- `done` says whether it succeeded.
pub record PutsText {S : Type 0} (K : Sink S) (old new : S) (waited waits text : List ℕ) (done : Bool) : Type 0 where
  -- the sink tells as before, and its count didn't fall
  pub keeps : KeepsSink K.told K.faults old new
  -- nothing is lost, added or put in another order
  pub whole : done ≡ true → K.told old ≡ true → K.written new ++ waits ≡ K.written old ++ (waited ++ text)
  -- the sink grew by a beginning of what waited and the text
  pub part : K.told old ≡ true → GrewByPart (K.written old) (K.written new) (waited ++ text)
  -- a failure comes only where the sink's count rose, and leaves an empty page
  pub failed : done ≡ false → Rose (K.faults old) (K.faults new)
  pub emptied : done ≡ false → waits ≡ []
