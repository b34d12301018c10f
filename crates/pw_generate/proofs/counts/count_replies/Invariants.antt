use Rattle.std.proofs.Common.{◌≡◌, ◌+◌, length}
use Rattle.std.specs.Prelude.{option_copied}
use Rattle.std.specs.List.{AllByRecursion}
use Rattle.pw_model.specs.States.{IsState}
use Rattle.pw_model.specs.History.{Faultless, StatesRequest, replay_from, replies_from}
use Rattle.pw_script.specs.inner.Known.{AreKnown}
use Rattle.pw_generate.specs.inner.Counting.{counted, none, total}
use Rattle.pw_generate.proofs.counts.count_replies.Given as goal

abbrev pub invariant-loop-left : goal.invariant-loop-left
invariant-loop-left l = record {
  counted : counted l.counts (replies_from l.plan l.state l.left) ≡ counted none (replies_from l.plan l.initial.state l.entries);
  replayed : replay_from l.plan l.state l.left ≡ replay_from l.plan l.initial.state l.entries;
  known : AreKnown l.plan l.state l.left (option_copied l.replies);
  rest : AllByRecursion (StatesRequest l.plan) l.left;
  faultless : Faultless l.left;
  fits : IsState l.plan l.state;
  count : total l.counts + length l.left ≡ length l.entries;
}

abbrev pub decreases-loop-left : goal.decreases-loop-left
decreases-loop-left l = length l.left
