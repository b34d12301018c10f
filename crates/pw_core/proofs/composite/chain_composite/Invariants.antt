use Rattle.pw_model.specs.Composites.{entered_register}
use Rattle.pw_core.specs.Chains.{states_in}
use Rattle.pw_core.proofs.Composing.{Composes}
use Rattle.pw_core.proofs.composite.chain_composite.Given as goal

abbrev pub invariant-loop-place : goal.invariant-loop-place
invariant-loop-place l = Composes l.plan (entered_register l.plan l.cpu (states_in l.chain)) (states_in l.chain) l.register l.next l.place
