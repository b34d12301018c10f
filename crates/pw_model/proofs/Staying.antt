-- Requests and histories leave states of the plan.
use Rattle.std.proofs.Common.{◌≡◌, ◌==◌, Bool, true, false, cond, List, [], ◌∷◌, Option, Some, None, refl, arith}
use Rattle.std.specs.List.{AllByRecursion}
use Rattle.pw_plan.specs.declared.plan.Plan.{Plan}
use Rattle.pw_plan.specs.declared.request.Request.TheVariants.{Idle, Wake, Perf, Throttle, PerfLimit, ThrottleLimit}
use Rattle.pw_plan.specs.declared.request.Request.{Request}
use Rattle.pw_plan.specs.Requests.{Has, cpu_of}
use Rattle.pw_kind.specs.History as histories
use Rattle.pw_model.specs.declared.entry.HistoryEntry.{HistoryEntry}
use Rattle.pw_model.specs.declared.reply.Reply.{Reply}
use Rattle.pw_model.specs.declared.state.State.{State}
use Rattle.pw_model.specs.States.{IsState, opening}
use Rattle.pw_model.specs.Answers.{after, changed, if_accepted}
use Rattle.pw_model.specs.History.{StatesRequest, after_entry, replay, replay_from, request_of}
use Rattle.pw_model.specs.Refusals.{refusal}
use Rattle.pw_model.proofs.Fitting.{changed_fits}
use Rattle.pw_model.proofs.Opening.{opening_fits}

pub after_fits : (P : Plan) (S : State) (q : Request) → IsState P S → Has P q → IsState P (after P S q)
unfolding after
after_fits P S q s has = by (refusal P S q) refl
  where
    by : (r : Option Reply) → refusal P S q ≡ r → IsState P (if_accepted r (λ reply. S) (changed P S q))
    by None e = changed_fits P S q s has e
    by (Some reply) e = s

-- the processor of an entry's request is that of the entry
pub request_cpu : (e : HistoryEntry) → cpu_of (request_of e) ≡ e.cpu
request_cpu e = by (e.code == 1) (e.code == 2) (e.code == 3) (e.code == 4) (e.code == 5)
  where
    by : (a b c d f : Bool) → cpu_of (cond a (Idle e.cpu e.argument e.tolerance) (cond b (Wake e.cpu) (cond c (Perf e.cpu e.argument) (cond d (Throttle e.cpu e.argument)
        (cond f (PerfLimit e.cpu e.argument) (ThrottleLimit e.cpu e.argument)))))) ≡ e.cpu
    by true b c d f = refl
    by false true c d f = refl
    by false false true d f = refl
    by false false false true f = refl
    by false false false false true = refl
    by false false false false false = refl

pub request_has : (P : Plan) (e : HistoryEntry) → StatesRequest P e → Has P (request_of e)
request_has P e is = let c = request_cpu e in let lt = is.cpu in omega (arith, c, lt)

pub after_entry_fits : (P : Plan) (S : State) (e : HistoryEntry) → IsState P S → StatesRequest P e → IsState P (after_entry P S e)
after_entry_fits P S e s is = step (e.fault == 0)
  where
    step : (b : Bool) → IsState P (cond b (after P S (request_of e)) S)
    step true = after_fits P S (request_of e) s (request_has P e is)
    step false = s

pub replay_from_fits : (P : Plan) (S : State) (es : List HistoryEntry) → IsState P S → AllByRecursion (StatesRequest P) es → IsState P (replay_from P S es)
replay_from_fits P S [] s a = s
replay_from_fits P S (e ∷ es) s a = replay_from_fits P (after_entry P S e) es (after_entry_fits P S e s a.0) a.1

pub replay_fits : (P : Plan) (es : List HistoryEntry) → AllByRecursion (StatesRequest P) es → IsState P (replay P es)
unfolding histories.replay
replay_fits P es a = replay_from_fits P (opening P) es (opening_fits P) a
