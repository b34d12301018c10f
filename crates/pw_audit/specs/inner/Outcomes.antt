-- What a kind's replies and operations have for an audit.
use Rattle.std.specs.Prelude.{◌<◌, ◌++◌, ℕ, List, codes}
use Rattle.pw_text.specs.Behind.{behind}
use Rattle.pw_text.specs.Lines.{with_feed}
use Rattle.pw_history.specs.Wording.{Wording}
use Rattle.pw_history.specs.Asked.{Begins}
use Rattle.pw_history.specs.Telling.{EntriesMade, PathsTell, TextsTell}
use Rattle.pw_audit.specs.inner.Queues.{AreWithin}

module _ {Plan Request Reply Entry State : Type 0} (W : Wording Plan Request Reply Entry State) where
  -- no reply is said as a fault is
  abbrev pub RepliesTell : Type 0
  RepliesTell = (reply : Reply) (later : List ℕ)
      → Begins (codes " register fault after ") (with_feed (behind (W.reply_words reply)) ++ later) → ⊥

  -- the operations of a request of the plan are on its processors
  abbrev pub OpsWithin : Plan → Type 0
  OpsWithin plan = (S : State) (q : Request) → W.cpu q < W.cpus plan → AreWithin (W.cpus plan) (W.kind.ops plan S q)

  -- What an audit needs of a plan.
  pub record PlanTells (plan : Plan) (IsNarrow : Entry → Type 0) (IsNarrowRequest : Request → Type 0) : Type 0 where
    pub texts : TextsTell W plan IsNarrow IsNarrowRequest
    pub made : EntriesMade W plan
    pub paths : PathsTell W plan
    pub replies : RepliesTell
    pub within : OpsWithin plan
