use Rattle.std.proofs.Common.{◌≡◌, ◌∙◌, [], ap, length, arith, List}
use Rattle.std.proofs.lemmas.List.{length-replicate}
use Rattle.pw_audit.specs.inner.Queues.{left_of}
use Rattle.pw_audit.proofs.Queueing.{none_left, none_more}
use Rattle.pw_audit.proofs.queues.Queues.none.Goals as goal

pub returns-clause-size : goal.returns-clause-size
returns-clause-size g c =
    let n : c.loop-cpu._cpu ≡ c.args.cpus = omega arith in
    ap (λ (qs : List (List _)). length qs) c.loop-cpu.invariant ∙ length-replicate c.loop-cpu._cpu [] ∙ n

pub returns-clause-none : goal.returns-clause-none
returns-clause-none g c = λ p. ap (λ (qs : List (List _)). left_of qs p) c.loop-cpu.invariant ∙ none_left c.loop-cpu._cpu p

pub loop-cpu-preserved : goal.loop-cpu-preserved
loop-cpu-preserved g c = none_more c.loop-cpu.stacks.items _ _ c.loop-cpu._cpu c.loop-cpu.invariant c.new.ensures.items c.in_ok-push.ensures.items
