use Rattle.std.proofs.Common.{true, false, rules}
use Rattle.pw_base.proofs.Facts.{if_ok, if_err}
use Rattle.pw_runs.proofs.script.parse_script.Goals as goal

pub returns-then-step-clause-script : goal.returns-then-step-clause-script
returns-then-step-clause-script c =
    rw c.if-step.true (if_ok c.parse_by.result (λ s read. read true (λ count current value n some lt a b h. search rules)
    (λ count current value n some lt a b h. search rules)) c.parse_by.ensures.script)

pub returns-then-step-clause-none : goal.returns-then-step-clause-none
returns-then-step-clause-none c =
    rw c.if-step.true (if_err c.parse_by.result (λ f why own. why own true (λ count current value n some lt a b h. search rules)
    (λ count current value n some lt a b h. search rules)) c.parse_by.ensures.none)

pub returns-else-step-clause-script : goal.returns-else-step-clause-script
returns-else-step-clause-script c =
    rw c.if-step.false (if_ok c.parse_by-else-step.result (λ s read. read false (λ count current value n some lt a b h. search rules)
    (λ count current value n some lt a b h. search rules)) c.parse_by-else-step.ensures.script)

pub returns-else-step-clause-none : goal.returns-else-step-clause-none
returns-else-step-clause-none c =
    rw c.if-step.false (if_err c.parse_by-else-step.result (λ f why own. why own false (λ count current value n some lt a b h. search rules)
    (λ count current value n some lt a b h. search rules)) c.parse_by-else-step.ensures.none)
