-- Which bytes the words of a history's text have.
use Rattle.std.proofs.Common.{◌≡◌, ◌<◌, ◌==◌, ◌-◌, ℕ, Bool, true, false, cond, List, [], ◌∷◌, ◌++◌, map, take, length, codes, decimal, inl, inr, ◌≢◌, refl, ap, sym, arith}
use Rattle.std.specs.List.{AllByRecursion}
use Rattle.std.proofs.Math.Logic.{∥∥₁_elim}
use Rattle.std.proofs.lemmas.Bool.{cases_order}
use Rattle.aml_data.specs.Segment.{IsSegment}
use Rattle.aml_data.specs.declared.path.FullPath.{FullPath}
use Rattle.acpi_values.specs.declared.operation.Op.{Op}
use Rattle.pw_text.specs.HistoryText.{fault_words}
use Rattle.pw_history.specs.Telling.{Over}
use Rattle.pw_history.proofs.Cuts.{AllOver, all_over-test, over-lower, over-test}
use Rattle.pw_history.proofs.Each.{each_append, each_at, each_map}
use Rattle.pw_history.proofs.Numbers.{decimal_word, fault_over}
use Rattle.pw_history.proofs.Paths.{op_over, path-same, path_over}
use Rattle.pw_plan.specs.declared.plan.Plan.{Plan}
use Rattle.pw_plan.specs.Parts.{no_cpu}
use Rattle.pw_plan.specs.declared.request.Request.{Request}
use Rattle.pw_plan.specs.declared.request.Request.TheVariants.{Idle, Wake, Perf, Throttle, PerfLimit, ThrottleLimit}
use Rattle.pw_plan.specs.Places.{cpu_at}
use Rattle.pw_model.specs.declared.entry.HistoryEntry.{HistoryEntry}
use Rattle.pw_model.specs.declared.reply.Reply.{Reply}
use Rattle.pw_model.specs.declared.reply.Reply.TheVariants.{Entered, Running, Stands, NoState, Disabled, AboveLimit, NoTable, Unfit, TooSlow}
use Rattle.pw_model.specs.declared.state.State.{State}
use Rattle.pw_model.specs.States.{any_latency}
use Rattle.pw_model.specs.Answers.{answer}
use Rattle.pw_model.specs.History.{request_of}
use Rattle.pw_script.specs.HistoryText.{op_line, outcome_words, path_of, reply_words, request_words, tolerance_words}
use Rattle.pw_script.specs.Telling.{HasSegments, IsOfSegments}

-- # Words of requests and answers

decimals_over : (ns : List ℕ) → AllOver 32 (map decimal ns)
decimals_over ns = each_map (Over 32) decimal ns decimal_word

tolerance_over : (t : ℕ) → AllOver 32 (tolerance_words t)
tolerance_over t = step (t == any_latency)
  where
    step : (b : Bool) → AllOver 32 (cond b [] (decimal t ∷ []))
    step true = tt
    step false = (decimal_word t, tt)

pub request-over : (q : Request) → AllOver 32 (request_words q)
request-over (Idle p s t) = (over-test 32 (codes "idle") refl, (decimal_word s, tolerance_over t))
request-over (Wake p) = (over-test 32 (codes "wake") refl, tt)
request-over (Perf p i) = (over-test 32 (codes "perf") refl, (decimal_word i, tt))
request-over (Throttle p i) = (over-test 32 (codes "throttle") refl, (decimal_word i, tt))
request-over (PerfLimit p n) = (over-test 32 (codes "plimit") refl, (decimal_word n, tt))
request-over (ThrottleLimit p n) = (over-test 32 (codes "tlimit") refl, (decimal_word n, tt))

reply_over : (r : Reply) → AllOver 32 (reply_words r)
reply_over (Entered chain) = (over-test 32 (codes "entered") refl, decimals_over (take chain.len chain.states))
reply_over Running = all_over-test 32 (reply_words Running) refl
reply_over (Stands index) = (over-test 32 (codes "stands") refl, (decimal_word index, tt))
reply_over (NoState count) =
    (over-test 32 (codes "refused") refl, (over-test 32 (codes "no") refl, (over-test 32 (codes "state,") refl, (over-test 32 (codes "count") refl, (decimal_word count, tt)))))
reply_over Disabled = all_over-test 32 (reply_words Disabled) refl
reply_over (AboveLimit limit) = (over-test 32 (codes "refused") refl, (over-test 32 (codes "above") refl, (over-test 32 (codes "limit") refl, (decimal_word limit, tt))))
reply_over NoTable = all_over-test 32 (reply_words NoTable) refl
reply_over (Unfit domain why) =
    (over-test 32 (codes "refused") refl, (over-test 32 (codes "unfit") refl, (over-test 32 (codes "domain") refl, (decimal_word domain, (over-test 32 (codes "why") refl, (decimal_word why, tt))))))
reply_over (TooSlow latency) = (over-test 32 (codes "refused") refl, (over-test 32 (codes "latency") refl, (decimal_word latency, tt)))

outcome_over : (P : Plan) (S : State) (e : HistoryEntry) → AllOver 32 (outcome_words P S e)
outcome_over P S e = step (e.fault == 0)
  where
    step : (b : Bool) → AllOver 32 (cond b (reply_words (answer P S (request_of e))) (fault_words (e.fault - 1)))
    step true = reply_over (answer P S (request_of e))
    step false = fault_over (e.fault - 1)

-- # The processors' paths

segments_of : (P : Plan) → HasSegments P → (p : ℕ) → AllByRecursion IsSegment (cpu_at P p).path.segs
unfolding no_cpu
segments_of P tell p = each_at IsOfSegments P.cpus p no_cpu tell.cpus tt

differ : (P : Plan) (p q : ℕ) → p < q → q < length P.cpus → (cpu_at P p).path ≢ (cpu_at P q).path
differ P p q lt b same = ∥∥₁_elim P.planned (hlevel) (λ plan. plan.fit.paths p q lt b same)

paths_differ : (P : Plan) (p q : ℕ) → p < length P.cpus → q < length P.cpus → (cpu_at P p).path ≡ (cpu_at P q).path → p ≡ q
paths_differ P p q a b same = elim (cases_order p q) [
  | inl e ↦ e
  | inr order ↦ elim order [
    | inl lt ↦ absurd (differ P p q lt b same)
    | inr lt ↦ absurd (differ P q p lt a (sym same))
  ]
]

-- # Words of lines

module _ (P : Plan) (tell : HasSegments P) where
  pub path_word : (p : ℕ) → Over 32 (path_of P p)
  path_word p = over-lower 32 45 (path_of P p) (omega arith) (path_over (cpu_at P p).path.segs (segments_of P tell p))

  pub entry-over : (S : State) (n : ℕ) (e : HistoryEntry) → AllOver 32 (decimal n ∷ path_of P e.cpu ∷ request_words (request_of e) ++ codes "->" ∷ outcome_words P S e)
  entry-over S n e = (
    decimal_word n,
    (
      path_word e.cpu,
      each_append (Over 32) (request_words (request_of e)) (codes "->" ∷ outcome_words P S e)
          (request-over (request_of e)) (over-test 32 (codes "->") refl, outcome_over P S e),
    ),
  )

  pub op_line-over : (o : Op) → Over 10 (op_line P o)
  op_line-over o = op_over (path_of P) path_word o

  pub path_of-same : (p q : ℕ) → p < length P.cpus → q < length P.cpus → path_of P p ≡ path_of P q → p ≡ q
  path_of-same p q a b e =
      let same : (cpu_at P p).path.segs ≡ (cpu_at P q).path.segs = path-same (cpu_at P p).path.segs (cpu_at P q).path.segs (segments_of P tell p) (segments_of P tell q) e in
      paths_differ P p q a b (ap (λ (s : List (List ℕ)). let path : FullPath = record { segs = s } in path) same)
