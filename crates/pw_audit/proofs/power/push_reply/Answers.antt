use Rattle.std.proofs.Common.{◌∙◌, ◌++◌, List, ℕ, ap, take}
use Rattle.std.proofs.lemmas.Result.{on_ok_weaker}
use Rattle.pw_script.proofs.Spacing.{behind_chain}
use Rattle.pw_audit.proofs.power.push_reply.Goals as goal

pub returns-in-Entered : goal.returns-in-Entered
returns-in-Entered c =
    let chain = c.in-Entered.chain in
    let states = take chain.len chain.states in
    let before = c.args.line.now.items in
    rw c.in-Entered.is (on_ok_weaker c.push_chain.result (λ e. e ∙ ap (λ (l : List ℕ). before ++ l) (behind_chain states)) c.push_chain.ensures)
