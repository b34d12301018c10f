use Rattle.std.proofs.Common.{codes, decimal, ◌∷◌, map, take}
use Rattle.pw_text.proofs.Putting.{PutsText-as}
use Rattle.pw_text.specs.Behind.{behind}
use Rattle.pw_script.proofs.Spacing.{behind_chain}
use Rattle.pw_script.proofs.words.put_reply.Goals as goal

pub returns-in-Entered : goal.returns-in-Entered
returns-in-Entered g c =
    let chain = c.in-Entered.chain in
    let states = take chain.len chain.states in
    rw c.in-Entered.is (PutsText-as (behind (codes "entered" ∷ map decimal states)) (behind_chain states) c.put_chain.ensures)

pub returns-in-Unfit : goal.returns-in-Unfit
returns-in-Unfit g c = rw c.in-Unfit.is c.put_unfit.ensures
