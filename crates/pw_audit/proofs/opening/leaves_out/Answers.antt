use Rattle.std.specs.Prelude.{IfOk, Result, Ok, Err}
use Rattle.pw_audit.proofs.opening.leaves_out.Goals as goal

if_ok_more : {X E : Type 0} {A B : X → Type 0} (r : Result X E) → ((x : X) → A x → B x) → IfOk r A → IfOk r B
if_ok_more (Ok x) f h = f x h
if_ok_more (Err e) f h = tt

pub returns-in-None-clause-out : goal.returns-in-None-clause-out
returns-in-None-clause-out g c = if_ok_more c.lacks_first.result (λ b lacks is. (c.in-Trace.is, c.in-None.is, lacks is)) c.lacks_first.ensures.lacks

pub returns-in-None-clause-has : goal.returns-in-None-clause-has
returns-in-None-clause-has g c = if_ok_more c.lacks_first.result (λ b has is trace none. has is) c.lacks_first.ensures.has
