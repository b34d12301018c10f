-- The lines of a script can be asked, and are those of functions where the answers are.
use Rattle.std.proofs.Common.{◌≡◌, ◌<◌, ◌≤◌, ◌==◌, ◌++◌, ◌&&◌, ◌^◌, ℕ, suc, Bool, true, false, cond, List, [], ◌∷◌, length, refl, ap, sym, subst, inl, inr, Option, Some, None, Result, Ok, Err, arith, eqb-true}
use Rattle.std.specs.Prelude.{IfOk, IfSome, ok_or, option_map}
use Rattle.std.specs.List.{AllByRecursion}
use Rattle.std.proofs.lemmas.Bool.Decides.{nat_tests}
use denote.Ref.{Bor}
use Rattle.acpi_values.specs.declared.idle.IdleTable.{IdleTable}
use Rattle.pw_text.specs.declared.script.LineWhy.{LineWhy}
use Rattle.pw_text.specs.declared.script.LineWhy.TheVariants.{Number}
use Rattle.pw_text.specs.Fields.{fields_of}
use Rattle.pw_text.specs.Forms.{is_large, is_number, name_of, number_of, value_of}
use Rattle.pw_plan.specs.declared.parts.Scale.{Scale}
use Rattle.pw_plan.specs.declared.plan.Plan.{Plan}
use Rattle.pw_plan.specs.declared.request.Request.{Request}
use Rattle.pw_plan.specs.declared.request.Request.TheVariants as asks
use Rattle.pw_plan.specs.Parts.{scale_of}
use Rattle.pw_plan.specs.Places.{cpu_at}
use Rattle.pw_plan.specs.Requests.{Has, cpu_of}
use Rattle.pw_model.specs.declared.state.ScaleKind.{ScaleKind}
use Rattle.pw_model.specs.declared.state.ScaleKind.TheVariants as scales
use Rattle.pw_model.specs.declared.state.State.{State}
use Rattle.pw_model.specs.States.{IsState, any_latency, opening}
use Rattle.pw_model.specs.Answers.{after}
use Rattle.pw_model.proofs.Opening.{opening_fits}
use Rattle.pw_model.proofs.Staying.{after_fits}
use Rattle.pw_governor.specs.Choices.{ChoosesAs, IsLawful}
use Rattle.pw_notice.specs.Handling.{Handles, HandlesAs}
use Rattle.pw_notice.specs.Limits.{AnsweredBy, IsAnswer, answer_by, kind_of, made_from, own, own_limit}
use Rattle.pw_script.specs.declared.script.Line.{Line as line}
use Rattle.pw_script.specs.declared.wish.Verb.{Verb}
use Rattle.pw_script.specs.declared.wish.Verb.TheVariants as verbs
use Rattle.pw_script.specs.declared.wish.Wish.{Wish}
use Rattle.pw_script.specs.declared.wish.Wish.TheVariants.{Plain, Within, Notice}
use Rattle.pw_script.specs.Asking.{CanBeAsked, IsNarrowRequest}
use Rattle.pw_script.specs.Forms.{Said, cpu_named, said, some_wish, verb_alone, verb_of_one, verb_of_two, wish_by, wish_in, wish_in_fields, wish_of, wish_on, wish_with}
use Rattle.pw_script.specs.Reading.{Answered, AreLines, Chosen, GivesLines, IsAsked, LawfullyChosen, requests_of}
use Rattle.pw_script.proofs.Counts.{counts_of}
use Rattle.pw_script.proofs.Existing.{lines_fit}

-- # Numbers of wishes

abbrev IsNarrowNumber : Option ℕ → Type 0
IsNarrowNumber o = IfSome o (λ n. n < 2 ^ 32)

abbrev IsNarrowWish : Wish → Type 0
IsNarrowWish (Plain q) = IsNarrowRequest q
IsNarrowWish (Within p t r) = (t < 2 ^ 32) × (r < 2 ^ 32)
IsNarrowWish (Notice p kind v) = v < 2 ^ 32

abbrev IsNarrowSaid : Said → Type 0
IsNarrowSaid s = IsNarrowNumber s.1 × IsNarrowNumber s.2

number_narrow : (text : List ℕ) → IsNarrowNumber (number_of text)
number_narrow text = step (is_large (value_of text)) refl
  where
    step : (b : Bool) → is_large (value_of text) ≡ b → IsNarrowNumber (cond b None (Some (value_of text)))
    step true e = tt
    step false e = grind (arith, nat_tests)

verb_narrow : (o : Option Verb) (a b : Option ℕ) → IsNarrowNumber a → IsNarrowNumber b → IfSome (option_map (λ verb. (verb, a, b)) o) IsNarrowSaid
verb_narrow (Some verb) a b h g = (h, g)
verb_narrow None a b h g = tt

some_narrow : (c : Bool) (o : Option Said) → IfSome o IsNarrowSaid → IfSome (cond c o None) IsNarrowSaid
some_narrow true o h = h
some_narrow false o h = tt

zero_narrow : IsNarrowNumber (Some 0)
zero_narrow = omega arith

said_narrow : (fields : List (List ℕ)) → IfSome (said fields) IsNarrowSaid
said_narrow [] = tt
said_narrow (word ∷ []) = verb_narrow (verb_alone word) (Some 0) (Some 0) zero_narrow zero_narrow
said_narrow (word ∷ n ∷ []) = some_narrow (is_number n) (option_map (λ verb. (verb, number_of n, Some 0)) (verb_of_one word)) (verb_narrow (verb_of_one word) (number_of n) (Some 0)
    (number_narrow n) zero_narrow)
said_narrow (word ∷ n ∷ m ∷ []) =
    some_narrow (is_number n && is_number m) (option_map (λ verb. (verb, number_of n, number_of m)) (verb_of_two word))
    (verb_narrow (verb_of_two word) (number_of n) (number_of m) (number_narrow n) (number_narrow m))
said_narrow (word ∷ n ∷ m ∷ more ∷ fields) = tt

any_narrow : any_latency < 2 ^ 32
unfolding any_latency
any_narrow = omega arith

by_verb : (verb : Verb) (p n m : ℕ) → n < 2 ^ 32 → m < 2 ^ 32 → IfSome (wish_by verb p n m) IsNarrowWish
by_verb verbs.Wake p n m h g = tt
by_verb verbs.Idle p n m h g = (h, any_narrow)
by_verb verbs.IdleBearing p n m h g = (h, g)
by_verb verbs.Perf p n m h g = h
by_verb verbs.Throttle p n m h g = h
by_verb verbs.PerfLimit p n m h g = h
by_verb verbs.ThrottleLimit p n m h g = h
by_verb verbs.Within p n m h g = (h, g)
by_verb verbs.Notify p n m h g = step (n == 128) (n == 130)
  where
    step : (a b : Bool) → IfSome (cond a (Some (Notice p scales.Perf m)) (cond b (Some (Notice p scales.Throttle m)) None)) IsNarrowWish
    step true b = g
    step false true = g
    step false false = tt

-- # Wishes of lines

-- a wish, where there is one, is of such numbers
abbrev IsNarrowResult : Result (Option Wish) LineWhy → Type 0
IsNarrowResult r = IfOk r (λ some. IfSome some IsNarrowWish)

with_numbers : (verb : Verb) (p : ℕ) (a b : Option ℕ) → IsNarrowNumber a → IsNarrowNumber b → IsNarrowResult (some_wish (wish_with verb p a b))
with_numbers verb p (Some n) (Some m) h g = step (wish_by verb p n m) (by_verb verb p n m h g)
  where
    step : (o : Option Wish) → IfSome o IsNarrowWish → IsNarrowResult (some_wish (ok_or o Number))
    step (Some w) h = h
    step None h = tt
with_numbers verb p (Some n) None h g = tt
with_numbers verb p None b h g = tt

on_said : (o : Option ℕ) (s : Said) → IsNarrowSaid s → IsNarrowResult (some_wish (wish_on o s))
on_said None s h = tt
on_said (Some p) s h = with_numbers s.0 p s.1 s.2 h.0 h.1

of_path : (P : Plan) (name : Option (List ℕ)) (s : Option Said) → IfSome s IsNarrowSaid → IsNarrowResult (some_wish (wish_of P name s))
of_path P (Some name) (Some s) h = on_said (cpu_named P name) s h
of_path P (Some name) None h = tt
of_path P None s h = tt

in_fields : (P : Plan) (fields : List (List ℕ)) → IsNarrowResult (wish_in_fields P fields)
in_fields P [] = tt
in_fields P ([] ∷ fields) = tt
in_fields P ((b ∷ path) ∷ fields) = step (b == 35) (of_path P (name_of (b ∷ path)) (said fields) (said_narrow fields))
  where
    step : (c : Bool) → IsNarrowResult (some_wish (wish_of P (name_of (b ∷ path)) (said fields))) → IsNarrowResult (cond c (Ok None) (some_wish (wish_of P (name_of (b ∷ path)) (said fields))))
    step true h = tt
    step false h = h

-- # What wishes become

own_fits : (P : Plan) (p : ℕ) → p < length P.cpus → (qs : List Request) (S : State) → IsState P S → IsState P (made_from P S (own p qs))
own_fits P p lt [] S fits = fits
own_fits P p lt (q ∷ qs) S fits = step (cpu_of q == p) refl (λ T h. own_fits P p lt qs T h)
  where
    step : (b : Bool) → (cpu_of q == p) ≡ b → ((T : State) → IsState P T → IsState P (made_from P T (own p qs))) → IsState P (made_from P S (cond b (q ∷ own p qs) (own p qs)))
    step true e later = let same = eqb-true (cpu_of q) p e in later (after P S q) (after_fits P S q fits (omega (arith, same, lt)))
    step false e later = later S fits

module _ (P : Plan) (governor : Bor IdleTable → ℕ → ℕ → ℕ → Type 0) (perf_pre throttle_pre : ℕ → ℕ → ℕ → Type 0) (perf throttle : ℕ → ℕ → ℕ → ℕ → Type 0)
    (perf_handles : Handles perf_pre perf) (throttle_handles : Handles throttle_pre throttle) where
  handler : (kind : ScaleKind) (count current value n : ℕ) → 1 ≤ count → current < count → count < 2 ^ 32 → value < 2 ^ 32 → AnsweredBy perf throttle kind count current value n → n < count
  handler scales.Perf count current value n a b c d h = perf_handles.below count current value n a b c d h
  handler scales.Throttle count current value n a b c d h = throttle_handles.below count current value n a b c d h

  answer_narrow : (before : List Request) (p : ℕ) (kind : ScaleKind) (value n : ℕ) → p < length P.cpus → value < 2 ^ 32
      → IsAnswer (AnsweredBy perf throttle kind) (scale_of (kind_of kind) (cpu_at P p)) (own_limit P (kind_of kind) p before) value n → n < 2 ^ 32
  answer_narrow before p kind value n lt narrow h = step (scale_of (kind_of kind) (cpu_at P p)) refl h
    where
      step : (o : Option Scale) → scale_of (kind_of kind) (cpu_at P p) ≡ o → IsAnswer (AnsweredBy perf throttle kind) o (own_limit P (kind_of kind) p before) value n → n < 2 ^ 32
      step None e h = omega (arith, h, narrow)
      step (Some scale) e h =
          let counts = counts_of P (made_from P (opening P) (own p before)) (kind_of kind) p (cpu_at P p) scale (own_fits P p lt before (opening P) (opening_fits P)) lt refl e in
          let small = counts.small in
          let below : n < length scale.controls = handler kind (length scale.controls) (own_limit P (kind_of kind) p before) value n counts.some counts.within (omega arith) narrow h in
          omega arith

  asked_narrow : (before : List Request) (w : Wish) (q : Request) → IsNarrowWish w → Has P q → IsAsked P (LawfullyChosen governor) (AnsweredBy perf throttle) before w q → IsNarrowRequest q
  asked_narrow before (Plain r) q narrow has asked = subst IsNarrowRequest (sym asked) narrow
  asked_narrow before (Within p t r) q narrow has asked = subst IsNarrowRequest (sym asked.2) (step (asked.0 == 0))
    where
      few : IsLawful (cpu_at P p).idle t r asked.0 → asked.0 < 2 ^ 32
      few (inl none) = omega (arith, none)
      few (inr suits) = let to = suits.to in let rows = P.sound.small.cpu_rows p in omega arith

      step : (b : Bool) → IsNarrowRequest (cond b (asks.Wake p) (asks.Idle p asked.0 t))
      step true = tt
      step false = (few asked.1.1, narrow.0)
  asked_narrow before (Notice p scales.Perf v) q narrow has asked =
      let c = ap cpu_of asked.2 in
      subst IsNarrowRequest (sym asked.2) (answer_narrow before p scales.Perf v asked.0 (omega (arith, has, c)) narrow asked.1)
  asked_narrow before (Notice p scales.Throttle v) q narrow has asked =
      let c = ap cpu_of asked.2 in
      subst IsNarrowRequest (sym asked.2) (answer_narrow before p scales.Throttle v asked.0 (omega (arith, has, c)) narrow asked.1)

  -- # Lines

  lines_narrow : (before : List Request) (n : ℕ) (texts : List (List ℕ)) (lines : List line) → AllByRecursion (λ (l : line). Has P l.request) lines
      → AreLines P (LawfullyChosen governor) (AnsweredBy perf throttle) before n texts lines → AllByRecursion IsNarrowRequest (requests_of lines)
  lines_narrow before n [] lines has h = subst (λ (ls : List line). AllByRecursion IsNarrowRequest (requests_of ls)) (sym h) tt
  lines_narrow before n (text ∷ texts) lines has h =
      step (wish_in P text) (in_fields P (fields_of text)) h (λ b ls k g. lines_narrow b (suc n) texts ls k g)
    where
      step : (r : Result (Option Wish) LineWhy) → IsNarrowResult r
          → GivesLines P (LawfullyChosen governor) (AnsweredBy perf throttle) before n r (λ b l. AreLines P (LawfullyChosen governor) (AnsweredBy perf throttle) b (suc n) texts l) lines
          → ((b : List Request) (ls : List line) → AllByRecursion (λ (l : line). Has P l.request) ls → AreLines P (LawfullyChosen governor) (AnsweredBy perf throttle) b (suc n) texts ls
          → AllByRecursion IsNarrowRequest (requests_of ls))
          → AllByRecursion IsNarrowRequest (requests_of lines)
      step (Err why) k g later = absurd g
      step (Ok None) k g later = later before lines has g
      step (Ok (Some w)) k g later =
          let all = subst (AllByRecursion (λ (l : line). Has P l.request)) g.3 has in
          subst (λ (ls : List line). AllByRecursion IsNarrowRequest (requests_of ls)) (sym g.3) (asked_narrow before w g.0 k all.0 g.1, later (before ++ g.0 ∷ []) g.2 all.1 g.4)

  each_asked : (lines : List line) → AllByRecursion (λ (l : line). Has P l.request) lines → AllByRecursion (Has P) (requests_of lines)
  each_asked [] h = tt
  each_asked (l ∷ lines) h = (h.0, each_asked lines h.1)

  pub lines_asked : (before : List Request) (n : ℕ) (texts : List (List ℕ)) (lines : List line)
      → AreLines P (LawfullyChosen governor) (AnsweredBy perf throttle) before n texts lines → CanBeAsked P (requests_of lines)
  lines_asked before n texts lines h =
      let fit = lines_fit P (LawfullyChosen governor) (AnsweredBy perf throttle) before n texts lines h in
      record { has = each_asked lines fit.exist; narrow = lines_narrow before n texts lines fit.exist h }

-- # Answers of functions

-- where answers to numbers of 32 bits are also others, so are the lines
module _ (P : Plan) (c d : IdleTable → ℕ → ℕ → ℕ → Type 0) (m o : ScaleKind → ℕ → ℕ → ℕ → ℕ → Type 0)
    (f : (t : IdleTable) (tolerance residency s : ℕ) → tolerance < 2 ^ 32 → residency < 2 ^ 32 → c t tolerance residency s → d t tolerance residency s)
    (g : (k : ScaleKind) (count current value n : ℕ) → 1 ≤ count → current < count → count < 2 ^ 32 → value < 2 ^ 32 → m k count current value n → o k count current value n) where
  answer_also : (before : List Request) (p : ℕ) (kind : ScaleKind) (value n : ℕ) → p < length P.cpus → value < 2 ^ 32
      → IsAnswer (m kind) (scale_of (kind_of kind) (cpu_at P p)) (own_limit P (kind_of kind) p before) value n
      → IsAnswer (o kind) (scale_of (kind_of kind) (cpu_at P p)) (own_limit P (kind_of kind) p before) value n
  answer_also before p kind value n lt narrow h = step (scale_of (kind_of kind) (cpu_at P p)) refl h
    where
      step : (s : Option Scale) → scale_of (kind_of kind) (cpu_at P p) ≡ s → IsAnswer (m kind) s (own_limit P (kind_of kind) p before) value n
          → IsAnswer (o kind) s (own_limit P (kind_of kind) p before) value n
      step None e h = h
      step (Some scale) e h =
          let counts = counts_of P (made_from P (opening P) (own p before)) (kind_of kind) p (cpu_at P p) scale (own_fits P p lt before (opening P) (opening_fits P)) lt refl e in
          let small = counts.small in
          g kind (length scale.controls) (own_limit P (kind_of kind) p before) value n counts.some counts.within (omega arith) narrow h

  asked_also : (before : List Request) (w : Wish) (q : Request) → IsNarrowWish w → Has P q → IsAsked P c m before w q → IsAsked P d o before w q
  asked_also before (Plain r) q narrow has asked = asked
  asked_also before (Within p t r) q narrow has asked = (asked.0, f (cpu_at P p).idle t r asked.0 narrow.0 narrow.1 asked.1, asked.2)
  asked_also before (Notice p scales.Perf v) q narrow has asked =
      let c = ap cpu_of asked.2 in
      (asked.0, answer_also before p scales.Perf v asked.0 (omega (arith, has, c)) narrow asked.1, asked.2)
  asked_also before (Notice p scales.Throttle v) q narrow has asked =
      let c = ap cpu_of asked.2 in
      (asked.0, answer_also before p scales.Throttle v asked.0 (omega (arith, has, c)) narrow asked.1, asked.2)

  each_also : (before : List Request) (n : ℕ) (texts : List (List ℕ)) (lines : List line) → AllByRecursion (λ (l : line). Has P l.request) lines
      → AreLines P c m before n texts lines → AreLines P d o before n texts lines
  each_also before n [] lines has h = h
  each_also before n (text ∷ texts) lines has h =
      step (wish_in P text) (in_fields P (fields_of text)) h (λ b ls k a. each_also b (suc n) texts ls k a)
    where
      step : (r : Result (Option Wish) LineWhy) → IsNarrowResult r → GivesLines P c m before n r (λ b l. AreLines P c m b (suc n) texts l) lines
          → ((b : List Request) (ls : List line) → AllByRecursion (λ (l : line). Has P l.request) ls → AreLines P c m b (suc n) texts ls → AreLines P d o b (suc n) texts ls)
          → GivesLines P d o before n r (λ b l. AreLines P d o b (suc n) texts l) lines
      step (Err why) k a later = a
      step (Ok None) k a later = later before lines has a
      step (Ok (Some w)) k a later =
          let all = subst (AllByRecursion (λ (l : line). Has P l.request)) a.3 has in
          (a.0, asked_also before w a.0 k all.0 a.1, a.2, a.3, later (before ++ a.0 ∷ []) a.2 all.1 a.4)

  lines_also : (before : List Request) (n : ℕ) (texts : List (List ℕ)) (lines : List line) → AreLines P c m before n texts lines → AreLines P d o before n texts lines
  lines_also before n texts lines h = each_also before n texts lines (lines_fit P c m before n texts lines h).exist h

pub lines_by : (P : Plan) (governor : Bor IdleTable → ℕ → ℕ → ℕ → Type 0) (perf throttle : ℕ → ℕ → ℕ → ℕ → Type 0) (choose : IdleTable → ℕ → ℕ → ℕ) (by_perf by_throttle : ℕ → ℕ → ℕ → ℕ)
    → ChoosesAs choose governor → HandlesAs by_perf perf → HandlesAs by_throttle throttle → (before : List Request) (n : ℕ) (texts : List (List ℕ)) (lines : List line)
    → AreLines P (LawfullyChosen governor) (AnsweredBy perf throttle) before n texts lines → AreLines P (Chosen choose) (Answered (answer_by by_perf by_throttle)) before n texts lines
lines_by P governor perf throttle choose by_perf by_throttle chosen perf_as throttle_as before n texts lines h =
    lines_also P (LawfullyChosen governor) (Chosen choose) (AnsweredBy perf throttle) (Answered (answer_by by_perf by_throttle)) choices answers before n texts lines h
  where
    choices : (t : IdleTable) (tolerance residency s : ℕ) → tolerance < 2 ^ 32 → residency < 2 ^ 32 → LawfullyChosen governor t tolerance residency s → Chosen choose t tolerance residency s
    choices t tolerance residency s a b x = subst (λ (u : IdleTable). s ≡ choose u tolerance residency) x.0.1 (chosen x.0.0 tolerance residency s a b x.0.2)

    answers : (k : ScaleKind) (count current value n : ℕ) → 1 ≤ count → current < count → count < 2 ^ 32 → value < 2 ^ 32
        → AnsweredBy perf throttle k count current value n → Answered (answer_by by_perf by_throttle) k count current value n
    answers scales.Perf count current value n a b x y h = perf_as count current value n a b x y h
    answers scales.Throttle count current value n a b x y h = throttle_as count current value n a b x y h
