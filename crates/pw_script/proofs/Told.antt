-- Processor power in words: its texts tell its histories.
use Rattle.std.proofs.Common.{◌≡◌, ◌<◌, ◌==◌, ◌^◌, ℕ, Bool, true, false, cond, List, [], ◌∷◌, codes, decimal, refl, arith, eqb-true}
use Rattle.std.proofs.lemmas.Bool.{eqb-false}
use Rattle.pw_plan.specs.declared.plan.Plan.{Plan}
use Rattle.pw_plan.specs.declared.request.Request.{Request}
use Rattle.pw_plan.specs.declared.request.Request.TheVariants.{Idle, Wake, Perf, Throttle, PerfLimit, ThrottleLimit}
use Rattle.pw_plan.specs.Requests.{Has}
use Rattle.pw_plan.proofs.RequestBounds.{bound_small}
use Rattle.pw_model.specs.declared.entry.HistoryEntry.{HistoryEntry}
use Rattle.pw_model.specs.States.{any_latency}
use Rattle.pw_model.specs.History.{IsEntry, entry_of, request_of}
use Rattle.pw_model.proofs.Bounds.{opening_ops-length, ops_of-le}
use Rattle.pw_model.proofs.Joining.{entry_is, request_of-entry}
use Rattle.pw_model.proofs.Staying.{request_cpu}
use Rattle.pw_history.specs.Telling.{EntriesFit, EntriesMade, NumbersFit, PathsTell, TextsTell, WordsTell}
use Rattle.pw_script.specs.Asking.{IsNarrowRequest}
use Rattle.pw_script.specs.HistoryText.{power_words, request_words, tolerance_words}
use Rattle.pw_script.specs.Telling.{HasSegments, IsNarrow, unseated}
use Rattle.pw_script.proofs.Readers.{entry-same}
use Rattle.pw_script.proofs.TextWords.{entry-over, op_line-over, path_of-same, path_word}

-- # Entries

seated : (P : Plan) (e : HistoryEntry) → IsEntry P e → IsEntry P (unseated e)
seated P e is = record { states = record { cpu = is.states.cpu; code_from = is.states.code_from; code_to = is.states.code_to }; wake = is.wake; others = is.others }

unseated_is : (P : Plan) (e : HistoryEntry) → IsEntry P (unseated e) → IsEntry P e
unseated_is P e is = record { states = record { cpu = is.states.cpu; code_from = is.states.code_from; code_to = is.states.code_to }; wake = is.wake; others = is.others }

entry_faultless : (q : Request) → (entry_of 0 q).fault ≡ 0
entry_faultless (Idle p s t) = refl
entry_faultless (Wake p) = refl
entry_faultless (Perf p i) = refl
entry_faultless (Throttle p i) = refl
entry_faultless (PerfLimit p n) = refl
entry_faultless (ThrottleLimit p n) = refl

pub power_fits : (P : Plan) → EntriesFit power_words P
power_fits P = record {
  asker = request_cpu;
  within = λ e is. is.states.cpu;
  same_request = λ e. refl;
  same_fault = λ e. refl;
  seated = seated P;
  unseated = unseated_is P;
  request = request_of-entry 0;
  faultless = entry_faultless;
  entry = entry_is P 0;
}

-- # Entries that are made

made_request : (q : Request) (k : ℕ) → request_of (record (entry_of 0 q) { fault = k }) ≡ q
made_request (Idle p s t) k = refl
made_request (Wake p) k = refl
made_request (Perf p i) k = refl
made_request (Throttle p i) k = refl
made_request (PerfLimit p n) k = refl
made_request (ThrottleLimit p n) k = refl

made_is : (P : Plan) (q : Request) (k : ℕ) → Has P q → IsEntry P (record (entry_of 0 q) { fault = k })
made_is P q k has =
    let is = entry_is P 0 q has in
    record { states = record { cpu = is.states.cpu; code_from = is.states.code_from; code_to = is.states.code_to }; wake = is.wake; others = is.others }

made_seat : (q : Request) → (entry_of 0 q).seat ≡ 0
made_seat (Idle p s t) = refl
made_seat (Wake p) = refl
made_seat (Perf p i) = refl
made_seat (Throttle p i) = refl
made_seat (PerfLimit p n) = refl
made_seat (ThrottleLimit p n) = refl

pub power_made : (P : Plan) → EntriesMade power_words P
power_made P = record { request = made_request; fault = λ q k. refl; entry = made_is P; seat = λ q k. made_seat q }

-- # Numbers

entry_narrow : (P : Plan) (e : HistoryEntry) → IsEntry P e → IsNarrowRequest (request_of e) → e.fault < 2 ^ 32 → IsNarrow e
unfolding any_latency
entry_narrow P e is h fault = by (e.code == 1) (e.code == 2) (e.code == 3) (e.code == 4) (e.code == 5) refl refl h
  where
    any : (e.code == 1) ≡ false → e.tolerance < 2 ^ 32
    any k = let t = is.others (eqb-false e.code 1 k) in omega (arith, t)

    by : (a b c d f : Bool) → (e.code == 1) ≡ a → (e.code == 2) ≡ b
        → IsNarrowRequest (cond a (Idle e.cpu e.argument e.tolerance) (cond b (Wake e.cpu) (cond c (Perf e.cpu e.argument) (cond d (Throttle e.cpu e.argument)
        (cond f (PerfLimit e.cpu e.argument) (ThrottleLimit e.cpu e.argument)))))) → IsNarrow e
    by true b c d f k1 k2 h = record { argument = h.0; tolerance = h.1; fault = fault }
    by false true c d f k1 k2 h = let z = is.wake (eqb-true e.code 2 k2) in record { argument = omega (arith, z); tolerance = any k1; fault = fault }
    by false false true d f k1 k2 h = record { argument = h; tolerance = any k1; fault = fault }
    by false false false true f k1 k2 h = record { argument = h; tolerance = any k1; fault = fault }
    by false false false false true k1 k2 h = record { argument = h; tolerance = any k1; fault = fault }
    by false false false false false k1 k2 h = record { argument = h; tolerance = any k1; fault = fault }

pub power_numbers : (P : Plan) → NumbersFit power_words P IsNarrow IsNarrowRequest
power_numbers P = record {
  entry = entry_narrow P;
  requests = λ S q. let few = ops_of-le P S q in let bound = bound_small P q in omega arith;
  opening = let count = opening_ops-length P in let bound = P.sound.domains.opening in omega arith;
}

-- # Words

pub power_words_tell : (P : Plan) → HasSegments P → WordsTell power_words P IsNarrow
power_words_tell P tell = record { words = entry-over P tell; operations = op_line-over P tell; entries = entry-same P tell }

pub power_laws : (P : Plan) → HasSegments P → TextsTell power_words P IsNarrow IsNarrowRequest
power_laws P tell = record {
  words = power_words_tell P tell;
  entries = power_fits P;
  numbers = power_numbers P;
}

spaced : (q : Request) → (w : List ℕ) × (ws : List (List ℕ)) × (request_words q ≡ w ∷ ws)
spaced (Idle p s t) = (codes "idle", decimal s ∷ tolerance_words t, refl)
spaced (Wake p) = (codes "wake", [], refl)
spaced (Perf p i) = (codes "perf", decimal i ∷ [], refl)
spaced (Throttle p i) = (codes "throttle", decimal i ∷ [], refl)
spaced (PerfLimit p n) = (codes "plimit", decimal n ∷ [], refl)
spaced (ThrottleLimit p n) = (codes "tlimit", decimal n ∷ [], refl)

pub power_paths : (P : Plan) → HasSegments P → PathsTell power_words P
power_paths P tell = record { apart = path_of-same P tell; words = path_word P tell; spaced = spaced }
