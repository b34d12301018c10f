-- The lines of a load: their numbers, and what they ask for.
use Rattle.std.proofs.Common.{◌≡◌, ◌<◌, ◌≤◌, ◌+◌, ◌*◌, ◌%◌, ℕ, zero, suc, List, [], ◌∷◌, ◌++◌, map, get_or, length, refl, ap, sym, ◌∙◌, arith}
use Rattle.std.specs.List.{AllByRecursion, flat_map, range_with_len}
use Rattle.std.proofs.lemmas.List.{map-append}
use Rattle.pw_plan.specs.declared.plan.Plan.{Plan}
use Rattle.pw_plan.specs.declared.request.Request.{Request}
use Rattle.pw_plan.specs.declared.request.Request.TheVariants.{Wake}
use Rattle.pw_plan.specs.Requests.{Has, cpu_of}
use Rattle.pw_model.specs.States.{any_latency}
use Rattle.pw_script.specs.declared.script.Line.{Line}
use Rattle.pw_script.specs.Asking.{CanBeAsked, IsNarrowRequest}
use Rattle.pw_script.specs.Reading.{requests_of}
use Rattle.pw_generate.specs.Loads.{choices, load_line, load_lines, load_request, round_lines}

-- # Numbers

abbrev number_of : Line → ℕ
number_of l = l.number

ranges_meet : (a m n : ℕ) → range_with_len a m ++ range_with_len (a + m) n ≡ range_with_len a (m + n)
ranges_meet a zero n = let e : a + 0 ≡ a = omega arith in let m : 0 + n ≡ n = omega arith in rw (e, m) refl
ranges_meet a (suc m) n =
    let e : a + suc m ≡ (a + 1) + m = omega arith in
    let k : suc m + n ≡ suc (m + n) = omega arith in
    rw (e, k) (ap (λ (xs : List ℕ). a ∷ xs) (ranges_meet (a + 1) m n))

round_numbers : (cpus r a n : ℕ) → map number_of (map (load_line cpus r) (range_with_len a n)) ≡ range_with_len (cpus * r + a + 1) n
round_numbers cpus r a zero = refl
round_numbers cpus r a (suc n) =
    let e : cpus * r + (a + 1) + 1 ≡ (cpus * r + a + 1) + 1 = omega arith in
    ap (λ xs. (cpus * r + a + 1) ∷ xs) (round_numbers cpus r (a + 1) n ∙ ap (λ k. range_with_len k n) e)

rounds_numbers : (cpus r n : ℕ) → map number_of (flat_map (round_lines cpus) (range_with_len r n)) ≡ range_with_len (cpus * r + 1) (n * cpus)
rounds_numbers cpus r zero = let none : 0 * cpus ≡ 0 = grind arith in rw none refl
rounds_numbers cpus r (suc n) =
    let first = round_numbers cpus r 0 cpus in
    let later = rounds_numbers cpus (r + 1) n in
    let zero_in : cpus * r + 0 + 1 ≡ cpus * r + 1 = omega arith in
    let next : cpus * (r + 1) + 1 ≡ (cpus * r + 1) + cpus = grind arith in
    let all : suc n * cpus ≡ cpus + n * cpus = grind arith in
    map-append number_of (round_lines cpus r) (flat_map (round_lines cpus) (range_with_len (r + 1) n))
    ∙ ap (λ xs. xs ++ map number_of (flat_map (round_lines cpus) (range_with_len (r + 1) n))) (first ∙ ap (λ k. range_with_len k cpus) zero_in)
    ∙ ap (λ xs. range_with_len (cpus * r + 1) cpus ++ xs) (later ∙ ap (λ k. range_with_len k (n * cpus)) next)
    ∙ ranges_meet (cpus * r + 1) cpus (n * cpus)
    ∙ ap (range_with_len (cpus * r + 1)) (sym all)

pub load_numbers : (cpus : ℕ) → map number_of (load_lines cpus) ≡ range_with_len 1 (cpus * cpus)
load_numbers cpus = let e : cpus * 0 + 1 ≡ 1 = grind arith in rounds_numbers cpus 0 cpus ∙ ap (λ k. range_with_len k (cpus * cpus)) e

-- # Requests

-- what holds of all, and of what is taken behind them, holds of each
at_or : {X : Type 0} (Q : X → Type 0) (xs : List X) (i : ℕ) (d : X) → AllByRecursion Q xs → Q d → Q (get_or xs i d)
at_or Q [] i d all last = last
at_or Q (x ∷ xs) zero d all last = all.0
at_or Q (x ∷ xs) (suc i) d all last = at_or Q xs i d all.1 last

-- a request of this processor, whose numbers are of 32 bits
abbrev IsOf : ℕ → Request → Type 0
IsOf p q = (cpu_of q ≡ p) × IsNarrowRequest q

request_of : (r p : ℕ) → IsOf p (load_request r p)
unfolding load_request any_latency
request_of r p =
    at_or (IsOf p) (choices r p) ((5 * p + 3 * r) % 8) (Wake p) (
      (refl, (omega arith, omega arith)),
      (
        (refl, tt),
        (
          (refl, omega arith),
          (
            (refl, omega arith),
            ((refl, (omega arith, omega arith)), ((refl, omega arith), ((refl, omega arith), ((refl, (omega arith, omega arith)), tt)))),
          ),
        ),
      ),
    ) (refl, tt)

module _ (P : Plan) where
  -- a request that can be asked
  abbrev IsAskable : Request → Type 0
  IsAskable q = Has P q × IsNarrowRequest q

  askable : (r p : ℕ) → p < length P.cpus → IsAskable (load_request r p)
  askable r p lt = let h = request_of r p in let of = h.0 in (omega (arith, of, lt), h.1)

  abbrev AreAskable : List Line → Type 0
  AreAskable lines = AllByRecursion (λ (l : Line). IsAskable l.request) lines

  round_askable : (cpus r a n : ℕ) → a + n ≤ length P.cpus → AreAskable (map (load_line cpus r) (range_with_len a n))
  round_askable cpus r a zero le = tt
  round_askable cpus r a (suc n) le = (askable r a (omega arith), round_askable cpus r (a + 1) n (omega arith))

  appended : (xs ys : List Line) → AreAskable xs → AreAskable ys → AreAskable (xs ++ ys)
  appended [] ys a b = b
  appended (x ∷ xs) ys a b = (a.0, appended xs ys a.1 b)

  rounds_askable : (cpus r n : ℕ) → cpus ≤ length P.cpus → AreAskable (flat_map (round_lines cpus) (range_with_len r n))
  rounds_askable cpus r zero le = tt
  rounds_askable cpus r (suc n) le =
      appended (round_lines cpus r) (flat_map (round_lines cpus) (range_with_len (r + 1) n)) (round_askable cpus r 0 cpus (omega arith)) (rounds_askable cpus (r + 1) n le)

  have : (lines : List Line) → AreAskable lines → AllByRecursion (Has P) (requests_of lines)
  have [] all = tt
  have (l ∷ lines) all = (all.0.0, have lines all.1)

  narrow : (lines : List Line) → AreAskable lines → AllByRecursion IsNarrowRequest (requests_of lines)
  narrow [] all = tt
  narrow (l ∷ lines) all = (all.0.1, narrow lines all.1)

  pub load_asked : CanBeAsked P (requests_of (load_lines (length P.cpus)))
  load_asked =
      let n = length P.cpus in
      let all = rounds_askable n 0 n (omega arith) in
      record { has = have (load_lines n) all; narrow = narrow (load_lines n) all }
