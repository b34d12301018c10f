-- Operations in any order of the processors that they are on.
use Rattle.std.proofs.Common.{◌≡◌, ◌≢◌, ◌<◌, ◌≤◌, ◌==◌, ◌+◌, ◌∙◌, ℕ, suc, Bool, true, false, cond, List, [], ◌∷◌, ◌++◌, length, refl, ap, ap₂, sym, subst, inl, inr, arith, append-nil, eqb-true, eq-eqb}
use Rattle.std.specs.List.{AllByRecursion}
use Rattle.std.proofs.lemmas.Bool.{cases_eq, cases_lt}
use Rattle.std.proofs.lemmas.List.{nil_from_length}
use Rattle.std.proofs.lemmas.List.Elements.{filter-append}
use Rattle.acpi_values.specs.declared.operation.Op.{Op}
use Rattle.pw_audit.specs.Tracing.{AreSameOnEach, op_cpu, ops_on}
use Rattle.pw_audit.specs.inner.Queues.{AreWithin}

nothing : {x : Op} {xs : List Op} → x ∷ xs ≡ [] → ⊥
nothing e = cc

same_rest : {x y : Op} {xs ys : List Op} → x ∷ xs ≡ y ∷ ys → xs ≡ ys
same_rest e = cc

-- # Lists that begin with as many elements

pub split_same : {X : Type 0} (a b c d : List X) → length a ≡ length b → a ++ c ≡ b ++ d → (a ≡ b) × (c ≡ d)
split_same [] [] c d n e = (refl, e)
split_same [] (y ∷ b) c d n e = absurd (omega arith)
split_same (x ∷ a) [] c d n e = absurd (omega arith)
split_same (x ∷ a) (y ∷ b) c d n e =
    let head : x ≡ y = cc in
    let tails : a ++ c ≡ b ++ d = cc in
    let r = split_same a b c d (omega arith) tails in
    (ap₂ (λ (h : _) (t : List _). h ∷ t) head r.0, r.1)

-- a list goes on with this element behind these
pub record GoesOn {X : Type 0} (done : List X) (l : X) (xs : List X) : Type 0 where
  pub rest : List X
  pub is : xs ≡ done ++ l ∷ rest

pub goes_on : {X : Type 0} (done : List X) (l : X) (zs xs ys : List X) → length done < length xs → done ++ l ∷ zs ≡ xs ++ ys → GoesOn done l xs
goes_on [] l zs [] ys lt e = absurd (omega arith)
goes_on [] l zs (x ∷ xs) ys lt e = let head : l ≡ x = cc in record { rest = xs; is = ap (λ (h : _). h ∷ xs) (sym head) }
goes_on (d ∷ done) l zs [] ys lt e = absurd (omega arith)
goes_on (d ∷ done) l zs (x ∷ xs) ys lt e =
    let head : d ≡ x = cc in
    let tails : done ++ l ∷ zs ≡ xs ++ ys = cc in
    let r = goes_on done l zs xs ys (omega arith) tails in
    record { rest = r.rest; is = ap₂ (λ (h : _) (t : List _). h ∷ t) (sym head) r.is }

-- # The operations on one processor

pub on_own : (o : Op) (ops : List Op) → ops_on (op_cpu o) (o ∷ ops) ≡ o ∷ ops_on (op_cpu o) ops
on_own o ops = let found : (op_cpu o == op_cpu o) ≡ true = eq-eqb (op_cpu o) (op_cpu o) refl in rw found refl

pub on_other : (o : Op) (p : ℕ) (ops : List Op) → op_cpu o ≢ p → ops_on p ops ≡ ops_on p (o ∷ ops)
on_other o p ops ne = step (op_cpu o == p) refl
  where
    step : (b : Bool) → (op_cpu o == p) ≡ b → ops_on p ops ≡ cond b (o ∷ ops_on p ops) (ops_on p ops)
    step true t = absurd (ne (eqb-true (op_cpu o) p t))
    step false t = refl

pub on_append : (p : ℕ) (xs ys : List Op) → ops_on p (xs ++ ys) ≡ ops_on p xs ++ ops_on p ys
on_append p xs ys = filter-append (λ o. op_cpu o == p) xs ys

pub on_each : (p : ℕ) (ops : List Op) → AllByRecursion (λ o. op_cpu o ≡ p) (ops_on p ops)
on_each p [] = tt
on_each p (o ∷ ops) = step (op_cpu o == p) refl (on_each p ops)
  where
    step : (b : Bool) → (op_cpu o == p) ≡ b → AllByRecursion (λ x. op_cpu x ≡ p) (ops_on p ops) → AllByRecursion (λ x. op_cpu x ≡ p) (cond b (o ∷ ops_on p ops) (ops_on p ops))
    step true t later = (eqb-true (op_cpu o) p t, later)
    step false t later = later

-- # How many there are

record Removed (c : ℕ) (rest xs : List Op) : Type 0 where
  left : List Op
  count : length xs ≡ suc (length left)
  own : ops_on c left ≡ rest
  others : (p : ℕ) → p ≢ c → ops_on p left ≡ ops_on p xs

removed : (c : ℕ) (x : Op) (rest xs : List Op) → ops_on c xs ≡ x ∷ rest → Removed c rest xs
removed c x rest [] e = absurd (nothing (sym e))
removed c x rest (y ∷ xs) e = step (op_cpu y == c) refl e (removed c x rest xs)
  where
    step : (b : Bool) → (op_cpu y == c) ≡ b → cond b (y ∷ ops_on c xs) (ops_on c xs) ≡ x ∷ rest → (ops_on c xs ≡ x ∷ rest → Removed c rest xs) → Removed c rest (y ∷ xs)
    step true t is again = record {
      left = xs;
      count = refl;
      own = same_rest is;
      others = λ p ne. on_other y p xs (λ same. ne (sym same ∙ eqb-true (op_cpu y) c t));
    }
    step false t is again =
        let r = again is in
        record {
          left = y ∷ r.left;
          count = ap suc r.count;
          own = ap (λ (b : Bool). cond b (y ∷ ops_on c r.left) (ops_on c r.left)) t ∙ r.own;
          others = λ p ne. ap (λ (l : List Op). cond (op_cpu y == p) (y ∷ l) l) (r.others p ne);
        }

record Less (ys xs : List Op) (q : ℕ → List Op) : Type 0 where
  left : List Op
  count : length xs ≡ suc (length left)
  each : (p : ℕ) → ops_on p left ≡ ops_on p ys ++ q p

less : (y : Op) (ys xs : List Op) (q : ℕ → List Op) → ((p : ℕ) → ops_on p xs ≡ ops_on p (y ∷ ys) ++ q p) → Less ys xs q
less y ys xs q h =
    let c = op_cpu y in
    let r = removed c y (ops_on c ys ++ q c) xs (h c ∙ ap (λ (l : List Op). l ++ q c) (on_own y ys)) in
    record {
      left = r.left;
      count = r.count;
      each = λ p. elim (cases_eq p c) [
        | inl same ↦ subst (λ (k : ℕ). ops_on k r.left ≡ ops_on k ys ++ q k) (sym same) r.own
        | inr ne ↦ r.others p ne ∙ h p ∙ ap (λ (l : List Op). l ++ q p) (sym (on_other y p ys (λ same. ne (sym same))))
      ];
    }

-- what is left of operations of which some were taken
pub record Rest (ys xs : List Op) (q : ℕ → List Op) : Type 0 where
  pub left : List Op
  pub count : length xs ≡ length ys + length left
  pub each : (p : ℕ) → ops_on p left ≡ q p

pub rest_of : (ys xs : List Op) (q : ℕ → List Op) → ((p : ℕ) → ops_on p xs ≡ ops_on p ys ++ q p) → Rest ys xs q
rest_of [] xs q h = record { left = xs; count = omega arith; each = h }
rest_of (y ∷ ys) xs q h =
    let l = less y ys xs q h in
    let r = rest_of ys l.left q l.each in
    let one = l.count in
    let others = r.count in
    record { left = r.left; count = omega arith; each = r.each }

-- where as many were taken as there are, none is left
pub all_taken : (ys xs : List Op) (q : ℕ → List Op) → ((p : ℕ) → ops_on p xs ≡ ops_on p ys ++ q p) → length ys ≡ length xs → (p : ℕ) → q p ≡ []
all_taken ys xs q h n p =
    let r = rest_of ys xs q h in
    let count = r.count in
    sym (r.each p) ∙ ap (ops_on p) (nil_from_length r.left (omega arith))

pub same_length : (xs ys : List Op) → AreSameOnEach xs ys → length xs ≡ length ys
same_length xs ys same =
    let a = (rest_of xs ys (λ p. []) (λ p. sym (same p) ∙ sym (append-nil (ops_on p xs)))).count in
    let b = (rest_of ys xs (λ p. []) (λ p. same p ∙ sym (append-nil (ops_on p ys)))).count in
    omega arith

-- # On processors before one

pub on_none : (n p : ℕ) (ops : List Op) → AreWithin n ops → n ≤ p → ops_on p ops ≡ []
on_none n p [] within le = refl
on_none n p (o ∷ ops) within le =
    let lt = within.0 in
    sym (on_other o p ops (λ same. absurd (omega (arith, lt, le, same)))) ∙ on_none n p ops within.1 le

none_within : (n : ℕ) (xs : List Op) → ((p : ℕ) → n ≤ p → ops_on p xs ≡ []) → AreWithin n xs
none_within n [] h = tt
none_within n (x ∷ xs) h = (first, none_within n xs rest)
  where
    first : op_cpu x < n
    first = elim (cases_lt (op_cpu x) n) [
      | inl lt ↦ lt
      | inr ge ↦ absurd (nothing (sym (on_own x xs) ∙ h (op_cpu x) ge))
    ]

    rest : (p : ℕ) → n ≤ p → ops_on p xs ≡ []
    rest p le = elim (cases_eq (op_cpu x) p) [
      | inl same ↦ absurd (nothing (sym (on_own x xs) ∙ h (op_cpu x) (omega (arith, le, same))))
      | inr ne ↦ on_other x p xs ne ∙ h p le
    ]

pub same_within : (n : ℕ) (xs ys : List Op) → AreSameOnEach xs ys → AreWithin n ys → AreWithin n xs
same_within n xs ys same within = none_within n xs (λ p le. same p ∙ on_none n p ys within le)

first_empty : (xs ys : List Op) → xs ++ ys ≡ [] → xs ≡ []
first_empty [] ys e = refl
first_empty (x ∷ xs) ys e = absurd (nothing e)

pub taken_within : (n : ℕ) (ys xs : List Op) (q : ℕ → List Op) → ((p : ℕ) → ops_on p xs ≡ ops_on p ys ++ q p) → AreWithin n xs → AreWithin n ys
taken_within n ys xs q h within = none_within n ys (λ p le. first_empty (ops_on p ys) (q p) (sym (h p) ∙ on_none n p xs within le))
