use Rattle.std.proofs.Common.{◌≡◌, ◌-◌, drop, length, length-drop, take, take_all, arith}
use Rattle.pw_script.specs.Telling.{IsNarrow}
use Rattle.pw_history.proofs.Each.{each_more, each_none}
use Rattle.pw_script.proofs.text_values.entries_are_narrow.Goals as goal

pub loop-left-preserved : goal.loop-left-preserved
loop-left-preserved c =
    let left = c.loop-left.left.now in
    let some = c.in-len1-up.len_at_least in
    let few = length-drop 1 left in
    let rest : take (length left - 1) (drop 1 left) ≡ drop 1 left = take_all _ _ (omega arith) in
    λ a. c.loop-left.invariant (each_more IsNarrow left _ some c.entry_known.ensures (rw rest at a))

pub returns : goal.returns
returns c = c.loop-left.invariant (each_none IsNarrow c.loop-left.left.now (omega arith))
