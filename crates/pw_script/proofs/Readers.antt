-- What a line of an entry tells, as a reader of its words.
use Rattle.std.proofs.Common.{◌≡◌, ◌≢◌, ◌<◌, ◌==◌, ◌+◌, ◌-◌, ◌^◌, ℕ, Bool, true, false, cond, List, [], ◌∷◌, ◌++◌, length, get_or, codes, decimal, refl, ap, ap₂, sym, ◌∙◌, arith, eqb-true, ne_eqb}
use Rattle.std.specs.Str.Parse.{digits_value}
use Rattle.std.proofs.lemmas.Bool.{eqb-false}
use Rattle.std.proofs.lemmas.Fmt.{decimal_is_IsNumeral, decimal_nonempty}
use Rattle.std.proofs.lemmas.List.{append_cancel_left}
use Rattle.pw_text.specs.HistoryText.{fault_words}
use Rattle.pw_history.specs.Telling.{Over}
use Rattle.pw_history.proofs.Cuts.{joined-same}
use Rattle.pw_history.proofs.Numbers.{decimal-over}
use Rattle.pw_plan.specs.declared.plan.Plan.{Plan}
use Rattle.pw_plan.specs.declared.request.Request.{Request}
use Rattle.pw_plan.specs.declared.request.Request.TheVariants.{Idle, Wake, Perf, Throttle, PerfLimit, ThrottleLimit}
use Rattle.pw_plan.specs.Requests.{cpu_of}
use Rattle.pw_model.specs.declared.entry.HistoryEntry.{HistoryEntry}
use Rattle.pw_model.specs.declared.reply.Reply.{Reply}
use Rattle.pw_model.specs.declared.reply.Reply.TheVariants.{Entered, Running, Stands, NoState, Disabled, AboveLimit, NoTable, Unfit, TooSlow}
use Rattle.pw_model.specs.declared.state.State.{State}
use Rattle.pw_model.specs.States.{any_latency}
use Rattle.pw_model.specs.Answers.{answer}
use Rattle.pw_model.specs.History.{IsEntry, entry_of, request_of}
use Rattle.pw_model.proofs.Staying.{request_cpu}
use Rattle.pw_script.specs.HistoryText.{outcome_words, path_of, reply_words, request_words}
use Rattle.pw_script.specs.Asking.{IsNarrowRequest}
use Rattle.pw_script.specs.Telling.{HasSegments, IsNarrow, unseated}
use Rattle.pw_script.specs.Wholes.{entry_line}
use Rattle.pw_script.proofs.TextWords.{entry-over, path_of-same}

abbrev number : List ℕ → ℕ
number w = digits_value 10 w

number_of : (n : ℕ) → n < 2 ^ 32 → number (decimal n) ≡ n
number_of n lt = (decimal_is_IsNumeral n (omega arith)).1

-- byte i of word w
abbrev byte : List (List ℕ) → ℕ → ℕ → ℕ
byte words w i = get_or (get_or words w []) i 0

-- # Requests

abbrev read : ℕ → List (List ℕ) → Request
read p ws =
    cond (byte ws 0 0 == 105) (Idle p (number (get_or ws 1 [])) (cond (byte ws 2 0 == 45) any_latency (number (get_or ws 2 []))))
    (cond (byte ws 0 0 == 119) (Wake p)
    (cond (byte ws 0 0 == 112) (cond (byte ws 0 1 == 101) (Perf p (number (get_or ws 1 []))) (PerfLimit p (number (get_or ws 1 []))))
    (cond (byte ws 0 1 == 104) (Throttle p (number (get_or ws 1 []))) (ThrottleLimit p (number (get_or ws 1 []))))))

narrow_request : (e : HistoryEntry) → IsNarrow e → IsNarrowRequest (request_of e)
narrow_request e h = by (e.code == 1) (e.code == 2) (e.code == 3) (e.code == 4) (e.code == 5)
  where
    by : (a b c d f : Bool) → IsNarrowRequest (cond a (Idle e.cpu e.argument e.tolerance) (cond b (Wake e.cpu) (cond c (Perf e.cpu e.argument) (cond d (Throttle e.cpu e.argument)
        (cond f (PerfLimit e.cpu e.argument) (ThrottleLimit e.cpu e.argument))))))
    by true b c d f = (h.argument, h.tolerance)
    by false true c d f = tt
    by false false true d f = h.argument
    by false false false true f = h.argument
    by false false false false true = h.argument
    by false false false false false = h.argument

no_dash : (w : List ℕ) → Over 47 w → 0 < length w → (get_or w 0 0 == 45) ≡ false
no_dash [] o lt = absurd (omega arith)
no_dash (b ∷ w) o lt = let over = o.0 in ne_eqb b 45 (λ e. absurd (omega (arith, over, e)))

read_words : (q : Request) (x : List (List ℕ)) → IsNarrowRequest q → read (cpu_of q) (request_words q ++ codes "->" ∷ x) ≡ q
read_words (Idle p s t) x h = ap₂ (λ (a b : ℕ). Idle p a b) (number_of s h.0) (step (t == any_latency) refl)
  where
    step : (b : Bool) → (t == any_latency) ≡ b
        → cond (get_or (get_or (cond b [] (decimal t ∷ []) ++ codes "->" ∷ x) 0 []) 0 0 == 45) any_latency (number (get_or (cond b [] (decimal t ∷ []) ++ codes "->" ∷ x) 0 [])) ≡ t
    step true e = sym (eqb-true t any_latency e)
    step false e =
        let lt = h.1 in
        let other : (get_or (decimal t) 0 0 == 45) ≡ false = no_dash (decimal t) (decimal-over t) (decimal_nonempty t (omega arith)) in
        rw other (number_of t lt)
read_words (Wake p) x h = refl
read_words (Perf p i) x h = ap (λ n. Perf p n) (number_of i h)
read_words (Throttle p i) x h = ap (λ n. Throttle p n) (number_of i h)
read_words (PerfLimit p n) x h = ap (λ n. PerfLimit p n) (number_of n h)
read_words (ThrottleLimit p n) x h = ap (λ n. ThrottleLimit p n) (number_of n h)

-- # Faults

abbrev read_fault : List (List ℕ) → ℕ
read_fault ws = cond (byte ws 0 2 == 103) (number (get_or ws 3 []) + 1) 0

no_fault : (r : Reply) → read_fault (reply_words r) ≡ 0
no_fault (Entered chain) = refl
no_fault Running = refl
no_fault (Stands index) = refl
no_fault (NoState count) = refl
no_fault Disabled = refl
no_fault (AboveLimit limit) = refl
no_fault NoTable = refl
no_fault (Unfit domain why) = refl
no_fault (TooSlow latency) = refl

fault_read : (P : Plan) (S : State) (e : HistoryEntry) → IsNarrow e → read_fault (outcome_words P S e) ≡ e.fault
fault_read P S e h = step (e.fault == 0) refl
  where
    step : (b : Bool) → (e.fault == 0) ≡ b → read_fault (cond b (reply_words (answer P S (request_of e))) (fault_words (e.fault - 1))) ≡ e.fault
    step true z = no_fault (answer P S (request_of e)) ∙ sym (eqb-true e.fault 0 z)
    step false z =
        let lt = h.fault in
        let ne = eqb-false e.fault 0 z in
        let is : number (decimal (e.fault - 1)) ≡ e.fault - 1 = number_of (e.fault - 1) (omega arith) in
        omega (arith, is, ne)

-- # Entries

of_request : (P : Plan) (e : HistoryEntry) → IsEntry P e → unseated e ≡ record (entry_of 0 (request_of e)) { fault = e.fault }
of_request P e is = by (e.code == 1) (e.code == 2) (e.code == 3) (e.code == 4) (e.code == 5) refl refl refl refl refl
  where
    any : (k : ℕ) → e.code ≡ k → k ≢ 1 → e.tolerance ≡ any_latency
    any k at ne = is.others (λ one. ne (sym at ∙ one))

    made : (k a t : ℕ) → e.code ≡ k → e.argument ≡ a → e.tolerance ≡ t → unseated e ≡ record { seat = 0; cpu = e.cpu; code = k; argument = a; tolerance = t; fault = e.fault }
    made k a t c h g = cc

    by : (a b c d f : Bool) → (e.code == 1) ≡ a → (e.code == 2) ≡ b → (e.code == 3) ≡ c → (e.code == 4) ≡ d → (e.code == 5) ≡ f
        → unseated e ≡ record (entry_of 0 (cond a (Idle e.cpu e.argument e.tolerance) (cond b (Wake e.cpu) (cond c (Perf e.cpu e.argument) (cond d (Throttle e.cpu e.argument)
        (cond f (PerfLimit e.cpu e.argument) (ThrottleLimit e.cpu e.argument))))))) { fault = e.fault }
    by true b c d f k1 k2 k3 k4 k5 = made 1 e.argument e.tolerance (eqb-true e.code 1 k1) refl refl
    by false true c d f k1 k2 k3 k4 k5 = let k = eqb-true e.code 2 k2 in made 2 0 any_latency k (is.wake k) (any 2 k (omega arith))
    by false false true d f k1 k2 k3 k4 k5 = let k = eqb-true e.code 3 k3 in made 3 e.argument any_latency k refl (any 3 k (omega arith))
    by false false false true f k1 k2 k3 k4 k5 = let k = eqb-true e.code 4 k4 in made 4 e.argument any_latency k refl (any 4 k (omega arith))
    by false false false false true k1 k2 k3 k4 k5 = let k = eqb-true e.code 5 k5 in made 5 e.argument any_latency k refl (any 5 k (omega arith))
    by false false false false false k1 k2 k3 k4 k5 =
        let from = is.states.code_from in
        let to = is.states.code_to in
        let n1 = eqb-false e.code 1 k1 in
        let n2 = eqb-false e.code 2 k2 in
        let n3 = eqb-false e.code 3 k3 in
        let n4 = eqb-false e.code 4 k4 in
        let n5 = eqb-false e.code 5 k5 in
        let k : e.code ≡ 6 = omega arith in
        made 6 e.argument any_latency k refl (any 6 k (omega arith))

pub entry-same : (P : Plan) (tell : HasSegments P) (S : State) (n : ℕ) (e f : HistoryEntry) → IsEntry P e → IsEntry P f → IsNarrow e → IsNarrow f
    → entry_line P S n e ≡ entry_line P S n f → unseated e ≡ unseated f
entry-same P tell S n e f is_e is_f narrow_e narrow_f same =
    let words = joined-same 32 (decimal n) (decimal n) (path_of P e.cpu ∷ request_words (request_of e) ++ codes "->" ∷ outcome_words P S e)
    (path_of P f.cpu ∷ request_words (request_of f) ++ codes "->" ∷ outcome_words P S f) (entry-over P tell S n e) (entry-over P tell S n f) same in
    let paths : path_of P e.cpu ≡ path_of P f.cpu = ap (λ (ws : List (List ℕ)). get_or ws 1 []) words in
    let cpu : e.cpu ≡ f.cpu = path_of-same P tell e.cpu f.cpu is_e.states.cpu is_f.states.cpu paths in
    let rest : request_words (request_of e) ++ codes "->" ∷ outcome_words P S e ≡ request_words (request_of f) ++ codes "->" ∷ outcome_words P S f = two_on words in
    let cpus : cpu_of (request_of e) ≡ cpu_of (request_of f) = request_cpu e ∙ cpu ∙ sym (request_cpu f) in
    let requests : request_of e ≡ request_of f =
    sym (read_words (request_of e) (outcome_words P S e) (narrow_request e narrow_e)) ∙ ap₂ (λ (p : ℕ) (ws : List (List ℕ)). read p ws) cpus rest
    ∙ read_words (request_of f) (outcome_words P S f) (narrow_request f narrow_f) in
    let outcomes : codes "->" ∷ outcome_words P S e ≡ codes "->" ∷ outcome_words P S f =
    append_cancel_left (request_words (request_of e)) (codes "->" ∷ outcome_words P S e) (codes "->" ∷ outcome_words P S f) (rest ∙ ap (λ q. request_words q ++ codes "->" ∷ outcome_words P S f)
    (sym requests)) in
    let faults : e.fault ≡ f.fault = sym (fault_read P S e narrow_e) ∙ ap read_fault (one_on outcomes) ∙ fault_read P S f narrow_f in
    of_request P e is_e ∙ ap₂ (λ (q : Request) (k : ℕ). record (entry_of 0 q) { fault = k }) requests faults ∙ sym (of_request P f is_f)
  where
    one_on : {x y : List ℕ} {xs ys : List (List ℕ)} → x ∷ xs ≡ y ∷ ys → xs ≡ ys
    one_on e = cc

    two_on : {x y v w : List ℕ} {xs ys : List (List ℕ)} → x ∷ v ∷ xs ≡ y ∷ w ∷ ys → xs ≡ ys
    two_on e = cc
