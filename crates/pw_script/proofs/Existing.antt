-- Each line's processor exists, and there are at most as many lines as texts.
use Rattle.std.proofs.Common.{◌≡◌, ◌<◌, ◌==◌, ◌∙◌, ◌++◌, ℕ, suc, Bool, true, false, cond, List, [], ◌∷◌, length, refl, ap, ap₂, sym, subst, Option, Some, None, Result, Ok, Err, arith}
use Rattle.std.specs.Prelude.{IfOk, IfSome, ok_or}
use Rattle.acpi_values.specs.declared.idle.IdleTable.{IdleTable}
use Rattle.pw_text.specs.declared.script.LineWhy.{LineWhy}
use Rattle.pw_text.specs.declared.script.LineWhy.TheVariants.{Number}
use Rattle.pw_text.specs.Fields.{fields_of}
use Rattle.pw_text.specs.Forms.{name_of}
use Rattle.pw_text.proofs.Leading.{name_within}
use Rattle.pw_model.specs.declared.state.ScaleKind.{ScaleKind}
use Rattle.pw_model.specs.declared.state.ScaleKind.TheVariants as scales
use Rattle.pw_notice.specs.Limits.{IsAnswer, kind_of, limit_request, own_limit}
use Rattle.pw_plan.specs.declared.plan.Plan.{Plan}
use Rattle.pw_plan.specs.declared.request.Request.{Request}
use Rattle.pw_plan.specs.declared.request.Request.TheVariants as requests
use Rattle.pw_plan.specs.declared.parts.Scale.{Scale}
use Rattle.pw_plan.specs.Parts.{scale_of}
use Rattle.pw_plan.specs.Places.{cpu_at}
use Rattle.pw_plan.specs.Requests.{Has, cpu_of}
use Rattle.pw_script.specs.declared.script.Line.{Line as line}
use Rattle.pw_script.specs.declared.wish.Verb.{Verb}
use Rattle.pw_script.specs.declared.wish.Verb.TheVariants as verbs
use Rattle.pw_script.specs.declared.wish.Wish.{Wish}
use Rattle.pw_script.specs.declared.wish.Wish.TheVariants.{Plain, Within, Notice}
use Rattle.pw_script.specs.Forms.{Said, cpu_named, said, segs_of, some_wish, wish_by, wish_in, wish_in_fields, wish_of, wish_on, wish_with}
use Rattle.pw_script.specs.Reading.{Answered, AreLines, Chosen, Fit, GivesLines, IsAsked, asker}

-- a processor that is named is one of the plan's
pub named_exists : (P : Plan) (name : List ℕ) → IfSome (cpu_named P name) (λ p. p < length P.cpus)
named_exists P name = name_within segs_of P.cpus name

-- who wishes is one of k processors, where there is a wish
abbrev Among : ℕ → Result (Option Wish) LineWhy → Type 0
Among k r = IfOk r (λ some. IfSome some (λ w. asker w < k))

by_verb : (verb : Verb) (k p n m : ℕ) → p < k → IfSome (wish_by verb p n m) (λ w. asker w < k)
by_verb verbs.Wake k p n m lt = lt
by_verb verbs.Idle k p n m lt = lt
by_verb verbs.IdleBearing k p n m lt = lt
by_verb verbs.Perf k p n m lt = lt
by_verb verbs.Throttle k p n m lt = lt
by_verb verbs.PerfLimit k p n m lt = lt
by_verb verbs.ThrottleLimit k p n m lt = lt
by_verb verbs.Within k p n m lt = lt
by_verb verbs.Notify k p n m lt = step (n == 128) (n == 130)
  where
    step : (a b : Bool) → IfSome (cond a (Some (Notice p scales.Perf m)) (cond b (Some (Notice p scales.Throttle m)) None)) (λ w. asker w < k)
    step true b = lt
    step false true = lt
    step false false = tt

with_numbers : (verb : Verb) (k p : ℕ) (a b : Option ℕ) → p < k → Among k (some_wish (wish_with verb p a b))
with_numbers verb k p (Some n) (Some m) lt = step (wish_by verb p n m) (by_verb verb k p n m lt)
  where
    step : (o : Option Wish) → IfSome o (λ w. asker w < k) → Among k (some_wish (ok_or o Number))
    step (Some w) h = h
    step None h = tt
with_numbers verb k p (Some n) None lt = tt
with_numbers verb k p None b lt = tt

on_said : (k : ℕ) (o : Option ℕ) (s : Said) → IfSome o (λ p. p < k) → Among k (some_wish (wish_on o s))
on_said k None s h = tt
on_said k (Some p) s h = with_numbers s.0 k p s.1 s.2 h

of_path : (P : Plan) (name : Option (List ℕ)) (s : Option Said) → Among (length P.cpus) (some_wish (wish_of P name s))
of_path P (Some name) (Some s) = on_said (length P.cpus) (cpu_named P name) s (named_exists P name)
of_path P (Some name) None = tt
of_path P None s = tt

in_fields : (P : Plan) (fields : List (List ℕ)) → Among (length P.cpus) (wish_in_fields P fields)
in_fields P [] = tt
in_fields P ([] ∷ fields) = tt
in_fields P ((b ∷ path) ∷ fields) = step (b == 35) (of_path P (name_of (b ∷ path)) (said fields))
  where
    step : (c : Bool) → Among (length P.cpus) (some_wish (wish_of P (name_of (b ∷ path)) (said fields)))
        → Among (length P.cpus) (cond c (Ok None) (some_wish (wish_of P (name_of (b ∷ path)) (said fields))))
    step true h = tt
    step false h = h

-- # Lines

asked_by : (P : Plan) (c : IdleTable → ℕ → ℕ → ℕ → Type 0) (m : ScaleKind → ℕ → ℕ → ℕ → ℕ → Type 0) (before : List Request) (w : Wish) (q : Request) → IsAsked P c m before w q → cpu_of q ≡ asker w
asked_by P c m before (Plain r) q asked = ap cpu_of asked
asked_by P c m before (Within p t r) q asked = ap cpu_of asked.2 ∙ step (asked.0 == 0)
  where
    step : (b : Bool) → cpu_of (cond b (requests.Wake p) (requests.Idle p asked.0 t)) ≡ p
    step true = refl
    step false = refl
asked_by P c m before (Notice p scales.Perf v) q asked = ap cpu_of asked.2
asked_by P c m before (Notice p scales.Throttle v) q asked = ap cpu_of asked.2

pub lines_fit : (P : Plan) (c : IdleTable → ℕ → ℕ → ℕ → Type 0) (m : ScaleKind → ℕ → ℕ → ℕ → ℕ → Type 0) (before : List Request) (n : ℕ) (texts : List (List ℕ)) (lines : List line)
    → AreLines P c m before n texts lines → Fit P texts lines
lines_fit P c m before n [] lines h = rw h (record { few = omega arith; exist = tt })
lines_fit P c m before n (text ∷ texts) lines h =
    step (wish_in P text) (in_fields P (fields_of text)) h (λ b ls g. lines_fit P c m b (suc n) texts ls g)
  where
    step : (r : Result (Option Wish) LineWhy) → Among (length P.cpus) r → GivesLines P c m before n r (λ b l. AreLines P c m b (suc n) texts l) lines
        → ((b : List Request) (ls : List line) → AreLines P c m b (suc n) texts ls → Fit P texts ls) → Fit P (text ∷ texts) lines
    step (Err why) k g later = absurd g
    step (Ok None) k g later = let f = later before lines g in let few = f.few in record { few = omega arith; exist = f.exist }
    step (Ok (Some w)) k g later =
        let f = later (before ++ g.0 ∷ []) g.2 g.4 in
        let few = f.few in
        let has : Has P g.0 = rw (asked_by P c m before w g.0 g.1) k in
        rw g.3 (record { few = omega arith; exist = (has, f.exist) })

-- Lines are told by their texts where answers are told by their questions.
pub lines_one : (P : Plan) (c : IdleTable → ℕ → ℕ → ℕ → Type 0) (m : ScaleKind → ℕ → ℕ → ℕ → ℕ → Type 0) → ((before : List Request) (w : Wish) (q r : Request) → IsAsked P c m before w q
    → IsAsked P c m before w r → q ≡ r)
    → (before : List Request) (n : ℕ) (texts : List (List ℕ)) (ls ms : List line) → AreLines P c m before n texts ls → AreLines P c m before n texts ms → ls ≡ ms
lines_one P c m one before n [] ls ms g h = g ∙ sym h
lines_one P c m one before n (text ∷ texts) ls ms g h = step (wish_in P text) g h (λ b xs ys. lines_one P c m one b (suc n) texts xs ys)
  where
    step : (r : Result (Option Wish) LineWhy) → GivesLines P c m before n r (λ b l. AreLines P c m b (suc n) texts l) ls → GivesLines P c m before n r (λ b l. AreLines P c m b (suc n) texts l) ms
        → ((b : List Request) (xs ys : List line) → AreLines P c m b (suc n) texts xs → AreLines P c m b (suc n) texts ys → xs ≡ ys) → ls ≡ ms
    step (Err why) x y later = absurd x
    step (Ok None) x y later = later before ls ms x y
    step (Ok (Some w)) x y later =
        let same : x.0 ≡ y.0 = one before w x.0 y.0 x.1 y.1 in
        let behind : AreLines P c m (before ++ x.0 ∷ []) (suc n) texts y.2 = subst (λ (q : Request). AreLines P c m (before ++ q ∷ []) (suc n) texts y.2) (sym same) y.4 in
        let rest : x.2 ≡ y.2 = later (before ++ x.0 ∷ []) x.2 y.2 x.4 behind in
        x.3 ∙ ap₂ (λ (q : Request) (l : List line). record { number = n; request = q } ∷ l) same rest ∙ sym y.3

asked_once : (P : Plan) (choose : IdleTable → ℕ → ℕ → ℕ) (answer : ScaleKind → ℕ → ℕ → ℕ → ℕ) (before : List Request) (w : Wish) (q r : Request)
    → IsAsked P (Chosen choose) (Answered answer) before w q → IsAsked P (Chosen choose) (Answered answer) before w r → q ≡ r
asked_once P choose answer before (Plain x) q r a b = a ∙ sym b
asked_once P choose answer before (Within p t z) q r a b =
    let same : a.0 ≡ b.0 = a.1 ∙ sym b.1 in
    a.2 ∙ ap (λ (s : ℕ). cond (s == 0) (requests.Wake p) (requests.Idle p s t)) same ∙ sym b.2
asked_once P choose answer before (Notice p kind v) q r a b = a.2 ∙ ap (limit_request kind p) (step (scale_of (kind_of kind) (cpu_at P p)) a.1 b.1) ∙ sym b.2
  where
    step : (scale : Option Scale) → IsAnswer (Answered answer kind) scale (own_limit P (kind_of kind) p before) v a.0
        → IsAnswer (Answered answer kind) scale (own_limit P (kind_of kind) p before) v b.0 → a.0 ≡ b.0
    step None x y = x ∙ sym y
    step (Some scale) x y = x ∙ sym y

pub lines_told : (P : Plan) (choose : IdleTable → ℕ → ℕ → ℕ) (answer : ScaleKind → ℕ → ℕ → ℕ → ℕ) (before : List Request) (n : ℕ) (texts : List (List ℕ)) (ls ms : List line)
    → AreLines P (Chosen choose) (Answered answer) before n texts ls → AreLines P (Chosen choose) (Answered answer) before n texts ms → ls ≡ ms
lines_told P choose answer = lines_one P (Chosen choose) (Answered answer) (asked_once P choose answer)

-- # Answers that are also others

asked_wider : (P : Plan) (c d : IdleTable → ℕ → ℕ → ℕ → Type 0) (m o : ScaleKind → ℕ → ℕ → ℕ → ℕ → Type 0)
    → ((t : IdleTable) (tolerance residency s : ℕ) → c t tolerance residency s → d t tolerance residency s)
    → ((k : ScaleKind) (count current value n : ℕ) → m k count current value n → o k count current value n)
    → (before : List Request) (w : Wish) (q : Request) → IsAsked P c m before w q → IsAsked P d o before w q
asked_wider P c d m o f g before (Plain r) q a = a
asked_wider P c d m o f g before (Within p t z) q a = (a.0, f (cpu_at P p).idle t z a.0 a.1, a.2)
asked_wider P c d m o f g before (Notice p kind v) q a = (a.0, step (scale_of (kind_of kind) (cpu_at P p)) a.1, a.2)
  where
    step : (scale : Option Scale) → IsAnswer (m kind) scale (own_limit P (kind_of kind) p before) v a.0 → IsAnswer (o kind) scale (own_limit P (kind_of kind) p before) v a.0
    step None x = x
    step (Some scale) x = g kind (length scale.controls) (own_limit P (kind_of kind) p before) v a.0 x

pub lines_wider : (P : Plan) (c d : IdleTable → ℕ → ℕ → ℕ → Type 0) (m o : ScaleKind → ℕ → ℕ → ℕ → ℕ → Type 0)
    → ((t : IdleTable) (tolerance residency s : ℕ) → c t tolerance residency s → d t tolerance residency s)
    → ((k : ScaleKind) (count current value n : ℕ) → m k count current value n → o k count current value n)
    → (before : List Request) (n : ℕ) (texts : List (List ℕ)) (ls : List line) → AreLines P c m before n texts ls → AreLines P d o before n texts ls
lines_wider P c d m o f g before n [] ls h = h
lines_wider P c d m o f g before n (text ∷ texts) ls h = step (wish_in P text) h (λ b xs. lines_wider P c d m o f g b (suc n) texts xs)
  where
    step : (r : Result (Option Wish) LineWhy) → GivesLines P c m before n r (λ b l. AreLines P c m b (suc n) texts l) ls
        → ((b : List Request) (xs : List line) → AreLines P c m b (suc n) texts xs → AreLines P d o b (suc n) texts xs)
        → GivesLines P d o before n r (λ b l. AreLines P d o b (suc n) texts l) ls
    step (Err why) x later = x
    step (Ok None) x later = later before ls x
    step (Ok (Some w)) x later = (x.0, asked_wider P c d m o f g before w x.0 x.1, x.2, x.3, later (before ++ x.0 ∷ []) x.2 x.4)
