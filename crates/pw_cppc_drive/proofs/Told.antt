-- Desired performance in words: its texts tell its histories.
use Rattle.std.proofs.Common.{◌≡◌, ◌≢◌, ◌≤◌, ◌<◌, ◌==◌, ◌+◌, ◌-◌, ◌^◌, ℕ, Bool, true, false, cond, List, [], ◌∷◌, ◌++◌, length, get_or, drop, codes, decimal, inl, inr, refl, ap, sym, subst, arith}
use Rattle.std.specs.Prelude.{sum_by}
use Rattle.std.specs.List.{AllByRecursion}
use Rattle.std.proofs.lemmas.Bool.{cases_order}
use Rattle.std.proofs.lemmas.Bool.Decides.{nat_tests}
use Rattle.std.proofs.lemmas.Fmt.{decimal_injective}
use Rattle.std.proofs.lemmas.List.Sums.{sum_by-le}
use Rattle.aml_data.specs.Segment.{IsSegment}
use Rattle.aml_data.specs.declared.path.FullPath.{FullPath}
use Rattle.acpi_values.specs.declared.dependency.Coord.{Coord}
use Rattle.acpi_values.specs.declared.dependency.Coord.TheVariants.{SwAll, SwAny, HwAll}
use Rattle.pw_text.specs.HistoryText.{fault_words}
use Rattle.pw_history.specs.Telling.{EntriesFit, EntriesMade, NumbersFit, Over, PathsTell, TextsTell, WordsTell}
use Rattle.pw_history.specs.HistoryText.{entry_line, outcome_words}
use Rattle.pw_history.proofs.Cuts.{AllOver, all_over-test, joined-same, over-lower, over-test}
use Rattle.pw_history.proofs.Each.{each_at}
use Rattle.pw_history.proofs.Numbers.{decimal_word, fault_over}
use Rattle.pw_history.proofs.Paths.{op_over, path-same, path_over}
use Rattle.pw_cppc.specs.declared.parts.Control.TheVariants as controls
use Rattle.pw_cppc.specs.declared.plan.CppcDomain.{CppcDomain}
use Rattle.pw_cppc.specs.declared.plan.CppcPlan.{CppcPlan}
use Rattle.pw_cppc.specs.declared.request.CppcRequest.{CppcRequest}
use Rattle.pw_cppc.specs.declared.request.CppcRequest.TheVariants.{Desired, Minimum, Maximum}
use Rattle.pw_cppc.specs.declared.entry.CppcEntry.{CppcEntry}
use Rattle.pw_cppc.specs.declared.numbers.CppcNumbers.{CppcNumbers}
use Rattle.pw_cppc.specs.declared.reply.CppcReply.{CppcReply}
use Rattle.pw_cppc.specs.declared.reply.CppcReply.TheVariants.{Stands, NoTable, Unfit, OutOfRange, Crossed}
use Rattle.pw_cppc.specs.Answers.{answer}
use Rattle.pw_cppc.specs.History.{StatesRequest, entry_of, request_of}
use Rattle.pw_cppc.specs.Planning.{parts_at}
use Rattle.pw_cppc.specs.Requests.{Has, cpu_of, opened_by, opening_bound, opening_count, register_count}
use Rattle.pw_cppc.specs.Sound.{no_path, path_in}
use Rattle.pw_cppc.proofs.Counting.{count_le}
use Rattle.pw_cppc.proofs.Joining.{entry_states, request_of-entry}
use Rattle.pw_cppc.proofs.NumberBounds.{opening_ops-length, ops_of-le}
use Rattle.pw_cppc_desk.proofs.Bounds.{bound_small}
use Rattle.pw_cppc_drive.specs.HistoryText.{path_of, performance_words, reply_words, request_words}
use Rattle.pw_cppc_drive.specs.Telling.{HasSegments, IsNarrow, IsNarrowRequest, IsOfSegments, unseated}

-- # Entries

asked_by : (e : CppcEntry) → cpu_of (request_of e) ≡ e.cpu
asked_by e = step (e.code == 1) (e.code == 2)
  where
    step : (a b : Bool) → cpu_of (cond a (Desired e.cpu e.argument) (cond b (Minimum e.cpu e.argument) (Maximum e.cpu e.argument))) ≡ e.cpu
    step true b = refl
    step false true = refl
    step false false = refl

entry_asks : (q : CppcRequest) → request_of (entry_of 0 q) ≡ q
entry_asks (Desired p v) = refl
entry_asks (Minimum p v) = refl
entry_asks (Maximum p v) = refl

entry_faultless : (q : CppcRequest) → (entry_of 0 q).fault ≡ 0
entry_faultless (Desired p v) = refl
entry_faultless (Minimum p v) = refl
entry_faultless (Maximum p v) = refl

entry_is : (P : CppcPlan) (q : CppcRequest) → Has P q → StatesRequest P (entry_of 0 q)
entry_is P q has = let is = entry_states P 0 0 q has in record { cpu = is.cpu; code_from = is.code_from; code_to = is.code_to }

pub performance_fits : (P : CppcPlan) → EntriesFit performance_words P
performance_fits P = record {
  asker = asked_by;
  within = λ e is. is.cpu;
  same_request = λ e. refl;
  same_fault = λ e. refl;
  seated = λ e is. record { cpu = is.cpu; code_from = is.code_from; code_to = is.code_to };
  unseated = λ e is. record { cpu = is.cpu; code_from = is.code_from; code_to = is.code_to };
  request = entry_asks;
  faultless = entry_faultless;
  entry = entry_is P;
}

made_seat : (q : CppcRequest) → (entry_of 0 q).seat ≡ 0
made_seat (Desired p v) = refl
made_seat (Minimum p v) = refl
made_seat (Maximum p v) = refl

pub performance_made : (P : CppcPlan) → EntriesMade performance_words P
performance_made P = record {
  request = λ q k. request_of-entry 0 k q;
  fault = λ q k. refl;
  entry = λ q k has. entry_states P 0 k q has;
  seat = λ q k. made_seat q;
}

-- # Numbers

entry_narrow : (e : CppcEntry) → IsNarrowRequest (request_of e) → e.fault < 2 ^ 32 → IsNarrow e
entry_narrow e h fault = record { argument = step (e.code == 1) (e.code == 2) h; fault = fault }
  where
    step : (a b : Bool) → IsNarrowRequest (cond a (Desired e.cpu e.argument) (cond b (Minimum e.cpu e.argument) (Maximum e.cpu e.argument))) → e.argument < 2 ^ 32
    step true b h = h
    step false true h = h
    step false false h = h

opened_le : (coord : Coord) (ms : List ℕ) → opened_by coord ms ≤ length ms
opened_le SwAll ms = omega arith
opened_le SwAny [] = omega arith
opened_le SwAny (m ∷ ms) = omega arith
opened_le HwAll ms = omega arith

abbrev bounds_on : CppcPlan → ℕ → ℕ
bounds_on P p = register_count controls.Minimum (parts_at P p) + register_count controls.Maximum (parts_at P p)

bounds_le : (P : CppcPlan) (p : ℕ) → bounds_on P p ≤ 2
bounds_le P p = let a = count_le controls.Minimum (parts_at P p) in let b = count_le controls.Maximum (parts_at P p) in omega arith

domain_few : (P : CppcPlan) (d : CppcDomain) → length d.members ≤ 256 → opening_count P d ≤ 768
domain_few P d few = step (d.unfit == 0)
  where
    step : (b : Bool) → cond b (sum_by (bounds_on P) d.members + opened_by d.coord d.members) 0 ≤ 768
    step true =
        let bounds = sum_by-le (bounds_on P) 2 d.members (λ i m lt. bounds_le P (get_or d.members i m)) in
        let opened = opened_le d.coord d.members in
        omega arith
    step false = omega arith

opening_few : (P : CppcPlan) → opening_bound P ≤ 196608
opening_few P =
    let count = P.sound.count in
    let bound = sum_by-le (opening_count P) 768 P.domains (λ i d lt. domain_few P (get_or P.domains i d) (P.sound.sizes i d lt)) in
    omega arith

pub performance_numbers : (P : CppcPlan) → NumbersFit performance_words P IsNarrow IsNarrowRequest
performance_numbers P = record {
  entry = λ e is h fault. entry_narrow e h fault;
  requests = λ S q. let few = ops_of-le P S q in let bound = bound_small P q in omega arith;
  opening = let count = opening_ops-length P in let bound = opening_few P in omega arith;
}

-- # No word has a space

request_over : (q : CppcRequest) (rest : List (List ℕ)) → AllOver 32 rest → AllOver 32 (request_words q ++ rest)
request_over (Desired p v) rest o = (over-test 32 (codes "desired") refl, (decimal_word v, o))
request_over (Minimum p v) rest o = (over-test 32 (codes "minimum") refl, (decimal_word v, o))
request_over (Maximum p v) rest o = (over-test 32 (codes "maximum") refl, (decimal_word v, o))

reply_over : (r : CppcReply) → AllOver 32 (reply_words r)
reply_over (Stands v) = (over-test 32 (codes "stands") refl, (decimal_word v, tt))
reply_over NoTable = all_over-test 32 (reply_words NoTable) refl
reply_over (Unfit why) = (over-test 32 (codes "refused") refl, (over-test 32 (codes "unfit") refl, (decimal_word why, tt)))
reply_over (OutOfRange lowest highest) = (
  over-test 32 (codes "refused") refl,
  (over-test 32 (codes "out") refl, (over-test 32 (codes "of") refl, (over-test 32 (codes "range") refl, (decimal_word lowest, (decimal_word highest, tt))))),
)
reply_over (Crossed bound) = (over-test 32 (codes "refused") refl, (over-test 32 (codes "crossed") refl, (decimal_word bound, tt)))

outcome_over : (P : CppcPlan) (S : CppcNumbers) (e : CppcEntry) → AllOver 32 (outcome_words performance_words P S e)
outcome_over P S e = step (e.fault == 0)
  where
    step : (b : Bool) → AllOver 32 (cond b (reply_words (answer P S (request_of e))) (fault_words (e.fault - 1)))
    step true = reply_over (answer P S (request_of e))
    step false = fault_over (e.fault - 1)

-- # What was asked

verb : ℕ → List ℕ
verb c = cond (c == 1) (codes "desired") (cond (c == 2) (codes "minimum") (codes "maximum"))

asked_words : (e : CppcEntry) → request_words (request_of e) ≡ verb e.code ∷ decimal e.argument ∷ []
unfolding verb
asked_words e = step (e.code == 1) (e.code == 2)
  where
    step : (a b : Bool) → request_words (cond a (Desired e.cpu e.argument) (cond b (Minimum e.cpu e.argument) (Maximum e.cpu e.argument)))
        ≡ cond a (codes "desired") (cond b (codes "minimum") (codes "maximum")) ∷ decimal e.argument ∷ []
    step true b = refl
    step false true = refl
    step false false = refl

-- its first two letters tell the verbs apart
letter : List ℕ → ℕ
letter w = get_or w 0 0 + get_or w 1 0

verbs_tell : (c d : ℕ) → 1 ≤ c → c ≤ 3 → 1 ≤ d → d ≤ 3 → verb c ≡ verb d → c ≡ d
unfolding verb letter
verbs_tell c d c_from c_to d_from d_to same = step (c == 1) (c == 2) (d == 1) (d == 2) refl refl refl refl (ap letter same)
  where
    step : (a b x y : Bool) → (c == 1) ≡ a → (c == 2) ≡ b → (d == 1) ≡ x → (d == 2) ≡ y
        → letter (cond a (codes "desired") (cond b (codes "minimum") (codes "maximum"))) ≡ letter (cond x (codes "desired") (cond y (codes "minimum") (codes "maximum"))) → c ≡ d
    step true b true y ea eb ex ey e = grind (arith, nat_tests)
    step true b false true ea eb ex ey e = absurd (omega (arith, e))
    step true b false false ea eb ex ey e = absurd (omega (arith, e))
    step false true true y ea eb ex ey e = absurd (omega (arith, e))
    step false true false true ea eb ex ey e = grind (arith, nat_tests)
    step false true false false ea eb ex ey e = absurd (omega (arith, e))
    step false false true y ea eb ex ey e = absurd (omega (arith, e))
    step false false false true ea eb ex ey e = absurd (omega (arith, e))
    step false false false false ea eb ex ey e = grind (arith, nat_tests)

-- # What came of it

third : List (List ℕ) → ℕ
third ws = get_or (get_or ws 0 []) 2 0

no_fault : (r : CppcReply) (k : ℕ) → reply_words r ≡ fault_words k → ⊥
unfolding third
no_fault (Stands v) k e = let t = ap third e in absurd (omega (arith, t))
no_fault NoTable k e = let t = ap third e in absurd (omega (arith, t))
no_fault (Unfit why) k e = let t = ap third e in absurd (omega (arith, t))
no_fault (OutOfRange lowest highest) k e = let t = ap third e in absurd (omega (arith, t))
no_fault (Crossed bound) k e = let t = ap third e in absurd (omega (arith, t))

faults_tell : (r s : CppcReply) (k j : ℕ) → k < 2 ^ 32 → j < 2 ^ 32 → cond (k == 0) (reply_words r) (fault_words (k - 1)) ≡ cond (j == 0) (reply_words s) (fault_words (j - 1)) → k ≡ j
faults_tell r s k j k_few j_few e = step (k == 0) (j == 0) refl refl e
  where
    step : (a b : Bool) → (k == 0) ≡ a → (j == 0) ≡ b → cond a (reply_words r) (fault_words (k - 1)) ≡ cond b (reply_words s) (fault_words (j - 1)) → k ≡ j
    step true true ea eb e = grind (arith, nat_tests)
    step true false ea eb e = absurd (no_fault r (j - 1) e)
    step false true ea eb e = absurd (no_fault s (k - 1) (sym e))
    step false false ea eb e =
        let same : k - 1 ≡ j - 1 = decimal_injective (k - 1) (j - 1) (omega arith) (omega arith) (ap (λ (ws : List (List ℕ)). get_or ws 3 []) e) in
        let some_k : k ≢ 0 = (λ z. let t : (k == 0) ≡ true = grind (arith, nat_tests) in cc) in
        let some_j : j ≢ 0 = (λ z. let t : (j == 0) ≡ true = grind (arith, nat_tests) in cc) in
        back k j some_k some_j same
      where
        back : (k j : ℕ) → k ≢ 0 → j ≢ 0 → k - 1 ≡ j - 1 → k ≡ j
        back k j a b e = omega arith

-- # An entry's line

alike : (e f : CppcEntry) → e.cpu ≡ f.cpu → e.code ≡ f.code → e.argument ≡ f.argument → e.fault ≡ f.fault → unseated e ≡ unseated f
alike e f cpu code argument fault = rw (cpu, code, argument, fault) refl

spaced : (q : CppcRequest) → (w : List ℕ) × (ws : List (List ℕ)) × (request_words q ≡ w ∷ ws)
spaced (Desired p v) = (codes "desired", decimal v ∷ [], refl)
spaced (Minimum p v) = (codes "minimum", decimal v ∷ [], refl)
spaced (Maximum p v) = (codes "maximum", decimal v ∷ [], refl)

module _ (P : CppcPlan) (tell : HasSegments P) where
  segments : (p : ℕ) → AllByRecursion IsSegment (path_in P.paths p).segs
  unfolding no_path
  segments p = each_at IsOfSegments P.paths p no_path tell.paths tt

  path_word : (p : ℕ) → Over 32 (path_of P p)
  path_word p = over-lower 32 45 (path_of P p) (omega arith) (path_over (path_in P.paths p).segs (segments p))

  differ : (p q : ℕ) → p < q → q < length P.cpus → path_in P.paths p ≢ path_in P.paths q
  differ p q lt b = P.planned.paths_differ p q lt (subst (λ n. q < n) (sym P.planned.paths_are) b)

  pub path_of-same : (p q : ℕ) → p < length P.cpus → q < length P.cpus → path_of P p ≡ path_of P q → p ≡ q
  path_of-same p q a b e =
      let segs : (path_in P.paths p).segs ≡ (path_in P.paths q).segs = path-same _ _ (segments p) (segments q) e in
      let same : path_in P.paths p ≡ path_in P.paths q = ap (λ (s : List (List ℕ)). let path : FullPath = record { segs = s } in path) segs in
      elim (cases_order p q) [
        | inl e ↦ e
        | inr order ↦ elim order [
          | inl lt ↦ absurd (differ p q lt b same)
          | inr lt ↦ absurd (differ q p lt a (sym same))
        ]
      ]

  words_over : (S : CppcNumbers) (n : ℕ) (e : CppcEntry)
      → AllOver 32 (decimal n ∷ path_of P e.cpu ∷ request_words (request_of e) ++ codes "->" ∷ outcome_words performance_words P S e)
  words_over S n e = (
    decimal_word n,
    (path_word e.cpu, request_over (request_of e) (codes "->" ∷ outcome_words performance_words P S e) (over-test 32 (codes "->") refl, outcome_over P S e)),
  )

  entries_tell : (S : CppcNumbers) (n : ℕ) (e f : CppcEntry) → StatesRequest P e → StatesRequest P f → IsNarrow e → IsNarrow f
      → entry_line performance_words P S n e ≡ entry_line performance_words P S n f → unseated e ≡ unseated f
  entries_tell S n e f is_e is_f narrow_e narrow_f same =
      let all = joined-same 32 (decimal n) (decimal n) (path_of P e.cpu ∷ request_words (request_of e) ++ codes "->" ∷ outcome_words performance_words P S e)
      (path_of P f.cpu ∷ request_words (request_of f) ++ codes "->" ∷ outcome_words performance_words P S f) (words_over S n e) (words_over S n f) same in
      let cpu : e.cpu ≡ f.cpu = path_of-same e.cpu f.cpu is_e.cpu is_f.cpu (ap (λ (ws : List (List ℕ)). get_or ws 1 []) all) in
      let said : (verb e.code ∷ decimal e.argument ∷ []) ++ codes "->" ∷ outcome_words performance_words P S e
      ≡ (verb f.code ∷ decimal f.argument ∷ []) ++ codes "->" ∷ outcome_words performance_words P S f
      = rw (asked_words e, asked_words f) at (ap (λ (ws : List (List ℕ)). drop 2 ws) all) in
      let code : e.code ≡ f.code = verbs_tell e.code f.code is_e.code_from is_e.code_to is_f.code_from is_f.code_to (ap (λ (ws : List (List ℕ)). get_or ws 0 []) said) in
      let argument : e.argument ≡ f.argument =
      decimal_injective e.argument f.argument (let h = narrow_e.argument in omega (arith, h)) (let h = narrow_f.argument in omega (arith, h)) (ap (λ (ws : List (List ℕ)). get_or ws 1 []) said) in
      let fault : e.fault ≡ f.fault =
      faults_tell (answer P S (request_of e)) (answer P S (request_of f)) e.fault f.fault narrow_e.fault narrow_f.fault (ap (λ (ws : List (List ℕ)). drop 3 ws) said) in
      alike e f cpu code argument fault

  pub performance_words_tell : WordsTell performance_words P IsNarrow
  performance_words_tell = record { words = words_over; operations = op_over (path_of P) path_word; entries = entries_tell }

  pub performance_laws : TextsTell performance_words P IsNarrow IsNarrowRequest
  performance_laws = record { words = performance_words_tell; entries = performance_fits P; numbers = performance_numbers P }

  pub performance_paths : PathsTell performance_words P
  performance_paths = record { apart = path_of-same; words = path_word; spaced = spaced }
