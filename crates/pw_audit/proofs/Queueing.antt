-- Stacks, and the queues that they are in reversed order.
use Rattle.std.proofs.Common.{◌≡◌, ◌≢◌, ◌<◌, ◌==◌, ◌+◌, ◌-◌, ◌∙◌, ℕ, zero, suc, Bool, true, false, cond, List, [], ◌∷◌, ◌++◌, map, take, length, get_or, replicate, refl, ap, sym, subst, arith, Vec, Global, Option, Some, None, append-nil, append_assoc, eqb-true}
use Rattle.std.specs.Prelude.{reverse, MatchOption, option_to_list}
use Rattle.std.specs.Vec.{vec_len}
use Rattle.std.proofs.Math.ListN.{set, length-set}
use Rattle.std.proofs.lemmas.Bool.{eqb-false}
use Rattle.std.proofs.lemmas.List.{get_or-map, get_or-set_same, get_or-set_other, length-map, map-append, map-set, replicate_more, reverse-append, reverse-reverse, take_more}
use Rattle.std.proofs.lemmas.List.Elements.{filter-append}
use Rattle.acpi_values.specs.declared.operation.Op.{Op}
use Rattle.pw_history.specs.Wording.{Wording}
use Rattle.pw_history.specs.Asked.{own}
use Rattle.pw_audit.specs.Tracing.{op_cpu, ops_on}
use Rattle.pw_audit.specs.inner.Queues.{Takes, left_of}

abbrev pub queue_of : {X : Type 0} → Vec X Global → List X
queue_of v = reverse v.items

abbrev pub queues_of : {X : Type 0} → List (Vec X Global) → List (List X)
queues_of vs = map queue_of vs

pub none_left : {X : Type 0} → (n p : ℕ) → left_of {X = X} (replicate n []) p ≡ []
none_left zero p = refl
none_left (suc n) zero = refl
none_left (suc n) (suc p) = none_left n p

pub none_more : {X : Type 0} → (vs ws : List (Vec X Global)) (v : Vec X Global) (n : ℕ) → queues_of vs ≡ replicate n [] → v.items ≡ [] → ws ≡ vs ++ v ∷ [] → queues_of ws ≡ replicate (n + 1) []
none_more vs ws v n is none more =
    ap queues_of more ∙ map-append queue_of vs (v ∷ []) ∙ ap (λ (qs : List (List _)). qs ++ queue_of v ∷ []) is
    ∙ ap (λ (q : List _). replicate n [] ++ reverse q ∷ []) none ∙ replicate_more n []

queue_at : {X : Type 0} → (vs : List (Vec X Global)) (i : ℕ) (v : Vec X Global) → i < length vs → v ≡ get_or vs i v → left_of (queues_of vs) i ≡ queue_of v
queue_at vs i v lt is = get_or-map queue_of vs i v [] lt ∙ ap queue_of (sym is)

queue_more : {X : Type 0} → (v w : Vec X Global) (q : X) → w.items ≡ v.items ++ q ∷ [] → queue_of w ≡ q ∷ queue_of v
queue_more v w q e = ap (λ (l : List _). reverse l) e ∙ reverse-append v.items (q ∷ [])

queue_set : {X : Type 0} → (vs : List (Vec X Global)) (i : ℕ) (w : Vec X Global) → i < length vs → left_of (queues_of (set vs i w)) i ≡ queue_of w
queue_set vs i w lt =
    let size : i < length (queues_of vs) = omega (arith, length-map vs queue_of) in
    ap (λ (qs : List (List _)). left_of qs i) (map-set queue_of vs i w) ∙ get_or-set_same (queues_of vs) i (queue_of w) [] size

queue_other : {X : Type 0} → (vs : List (Vec X Global)) (i p : ℕ) (w : Vec X Global) → p ≢ i → left_of (queues_of (set vs i w)) p ≡ left_of (queues_of vs) p
queue_other vs i p w ne = ap (λ (qs : List (List _)). left_of qs p) (map-set queue_of vs i w) ∙ get_or-set_other (queues_of vs) i p (queue_of w) [] ne

pub queues_size : {X : Type 0} → (vs : List (Vec X Global)) (i : ℕ) (w : Vec X Global) → length (queues_of (set vs i w)) ≡ length (queues_of vs)
queues_size vs i w = length-map (set vs i w) queue_of ∙ length-set vs i w ∙ sym (length-map vs queue_of)

-- # One more

pub put_first : {X : Type 0} → (vs : List (Vec X Global)) (i p : ℕ) (v w : Vec X Global) (q : X) → i < length vs → v ≡ get_or vs i v → w.items ≡ v.items ++ q ∷ []
    → left_of (queues_of (set vs i w)) p ≡ cond (i == p) (q ∷ left_of (queues_of vs) p) (left_of (queues_of vs) p)
put_first vs i p v w q lt is more = step (i == p) refl
  where
    step : (b : Bool) → (i == p) ≡ b → left_of (queues_of (set vs i w)) p ≡ cond b (q ∷ left_of (queues_of vs) p) (left_of (queues_of vs) p)
    step true e =
        let same : i ≡ p = eqb-true i p e in
        subst (λ (k : ℕ). left_of (queues_of (set vs i w)) k ≡ q ∷ left_of (queues_of vs) k) same
        (queue_set vs i w lt ∙ queue_more v w q more ∙ ap (λ (l : List _). q ∷ l) (sym (queue_at vs i v lt is)))
    step false e = queue_other vs i p w (λ same. eqb-false i p e (sym same))

-- # One less

pub take_told : {X : Type 0} → (vs : List (Vec X Global)) (i n m : ℕ) (v w : Vec X Global) (r : Option X) → i < length vs → v ≡ get_or vs i v
    → v.items ≡ w.items ++ option_to_list r → w.items ≡ take (n - 1) v.items → MatchOption r ((n ≡ 0) × (m ≡ 0)) (λ x. m + 1 ≡ n)
    → MatchOption r (left_of (queues_of vs) i ≡ []) (λ q. Takes (queues_of vs) i q (queues_of (set vs i w)))
take_told vs i n m v w None lt is items rest size =
    let zero_is : n - 1 ≡ 0 = let z = size.0 in omega (arith, z) in
    let none : w.items ≡ [] = rest ∙ ap (λ (k : ℕ). take k v.items) zero_is in
    let empty : v.items ≡ [] = items ∙ append-nil w.items ∙ none in
    queue_at vs i v lt is ∙ ap (λ (l : List _). reverse l) empty
take_told vs i n m v w (Some q) lt is items rest size = record {
  size = queues_size vs i w;
  first = queue_at vs i v lt is ∙ queue_more w v q items ∙ ap (λ (l : List _). q ∷ l) (sym (queue_set vs i w lt));
  others = λ k ne. queue_other vs i k w ne;
}

onto : {X : Type 0} (b : Bool) (q : X) (ys : List X) → cond b (q ∷ ys) ys ≡ cond b (q ∷ []) [] ++ ys
onto true q ys = refl
onto false q ys = refl

-- # Requests from the last one on

module _ {Plan Request Reply Entry State : Type 0} (W : Wording Plan Request Reply Entry State) where
  abbrev one_own : ℕ → Request → List Request
  one_own p q = cond (W.cpu q == p) (q ∷ []) []

  pub request_put : (p n k : ℕ) (all : List Request) (d : Request) (old new : List Request) → n < length all → own W p (take (n + 1) all) ++ old ≡ own W p all → k ≡ W.cpu (get_or all n d)
      → new ≡ cond (k == p) (get_or all n d ∷ old) old → own W p (take n all) ++ new ≡ own W p all
  request_put p n k all d old new lt was cpu more =
      let q = get_or all n d in
      let qs = take n all in
      ap (λ (x : List Request). own W p qs ++ x) (more ∙ ap (λ (c : ℕ). cond (c == p) (q ∷ old) old) cpu ∙ onto (W.cpu q == p) q old)
      ∙ sym (append_assoc (own W p qs) (one_own p q) old)
      ∙ ap (λ (x : List Request). x ++ old) (sym (filter-append (λ r. W.cpu r == p) qs (q ∷ [])) ∙ ap (λ (x : List Request). own W p x) (sym (take_more all n d lt))) ∙ was

-- # Operations from the last one on

on_last : (p : ℕ) (ops : List Op) (o : Op) → ops_on p (ops ++ o ∷ []) ≡ ops_on p ops ++ cond (op_cpu o == p) (o ∷ []) []
on_last p ops o = filter-append (λ x. op_cpu x == p) ops (o ∷ [])

pub op_put : (p n : ℕ) (all : List Op) (d : Op) (old new : List Op) → n < length all → ops_on p (take (n + 1) all) ++ old ≡ ops_on p all
    → new ≡ cond (op_cpu (get_or all n d) == p) (get_or all n d ∷ old) old → ops_on p (take n all) ++ new ≡ ops_on p all
op_put p n all d old new lt was more =
    let o = get_or all n d in
    let ops = take n all in
    ap (λ (x : List Op). ops_on p ops ++ x) (more ∙ onto (op_cpu o == p) o old)
    ∙ sym (append_assoc (ops_on p ops) (cond (op_cpu o == p) (o ∷ []) []) old)
    ∙ ap (λ (x : List Op). x ++ old) (sym (on_last p ops o) ∙ ap (ops_on p) (sym (take_more all n d lt))) ∙ was

-- # Empty stacks

no_items : {X : Type 0} → (xs : List X) → length xs ≡ 0 → xs ≡ []
no_items [] e = refl
no_items (x ∷ xs) e = absurd (omega arith)

pub empty_at : {X : Type 0} → (vs : List (Vec X Global)) (i : ℕ) (v : Vec X Global) → i < length vs → v ≡ get_or vs i v → (vec_len v == 0) ≡ true → left_of (queues_of vs) i ≡ []
empty_at vs i v lt is e =
    let size = v.ok.0 in
    let z = eqb-true (vec_len v) 0 e in
    let none : v.items ≡ [] = no_items v.items (omega (arith, size, z)) in
    queue_at vs i v lt is ∙ ap (λ (l : List _). reverse l) none

pub some_at : {X : Type 0} → (vs : List (Vec X Global)) (i : ℕ) (v : Vec X Global) → i < length vs → v ≡ get_or vs i v → (vec_len v == 0) ≡ false → left_of (queues_of vs) i ≡ [] → ⊥
some_at vs i v lt is e none =
    let size = v.ok.0 in
    let z = eqb-false (vec_len v) 0 e in
    let reversed : reverse v.items ≡ [] = sym (queue_at vs i v lt is) ∙ none in
    let items : v.items ≡ [] = sym (reverse-reverse v.items) ∙ ap (λ (l : List _). reverse l) reversed in
    let long : length v.items ≡ 0 = ap (λ (l : List _). length l) items in
    z (omega (arith, size, long))
