use Rattle.std.proofs.Common.{◌≡◌, drop}
use Rattle.pw_model.specs.States.{IsState}
use Rattle.pw_model.specs.History.{replay_from}
use Rattle.pw_core.proofs.replaying.replay_on.Given as goal

abbrev pub invariant-loop-entry : goal.invariant-loop-entry
invariant-loop-entry l = record {
  rest : replay_from l.plan l.state (drop l.entry-index l.entries) ≡ replay_from l.plan l.initial.state l.entries;
  fits : IsState l.plan l.state;
}
