use Rattle.std.proofs.Common.{◌≡◌, ◌<◌, ◌≤◌, ◌==◌, ◌∙◌, ℕ, [], List, true, false, ap, get_or, length, arith, refl, sym, subst, below_more, inl, inr}
use Rattle.std.specs.Vec.{vec_len}
use Rattle.std.proofs.lemmas.Bool.{cases_lt}
use Rattle.std.proofs.lemmas.List.{get_or_past, length-map}
use Rattle.pw_audit.specs.inner.Queues.{left_of}
use Rattle.pw_audit.proofs.Queueing.{empty_at, queue_of, queues_of, some_at}
use Rattle.pw_audit.proofs.queues.Queues.is_empty.Goals as goal

pub returns-then-not-is_empty : goal.returns-then-not-is_empty
returns-then-not-is_empty g c =
    let vs = c.self.inside.stacks.items in
    let i = c.loop-stack.stack-index in
    let v = c.stack-item.result in
    let whole : c.as_slice-stack-items.result.now ≡ vs = c.as_slice-stack-items.ensures.value in
    let lt : i < length vs = subst (λ (xs : List _). i < length xs) whole c.loop-stack-test.true in
    let is : v ≡ get_or vs i v = subst (λ (xs : List _). v ≡ get_or xs i v) whole c.stack-item.is in
    let some : (vec_len v == 0) ≡ false = sym c.is_empty.ensures ∙ c.if-not-is_empty.true in
    let none = λ (h : (p : ℕ) → left_of c.args.self.now p ≡ []). some_at vs i v lt is some (subst (λ (qs : List (List _)). left_of qs i ≡ []) (sym c.self.view_is) (h i)) in
    (λ t. absurd (differ t), λ h. absurd (none h))
  where
    differ : false ≡ true → ⊥
    differ e = cc

pub loop-stack-preserved : goal.loop-stack-preserved
loop-stack-preserved g c =
    let vs = c.self.inside.stacks.items in
    let i = c.loop-stack.stack-index in
    let v = c.stack-item.result in
    let whole : c.as_slice-stack-items.result.now ≡ vs = c.as_slice-stack-items.ensures.value in
    let lt : i < length vs = subst (λ (xs : List _). i < length xs) whole c.loop-stack-test.true in
    let is : v ≡ get_or vs i v = subst (λ (xs : List _). v ≡ get_or xs i v) whole c.stack-item.is in
    let none : (vec_len v == 0) ≡ true = sym c.is_empty.ensures ∙ c.if-not-is_empty.false in
    below_more _ _ c.loop-stack.invariant (subst (λ (qs : List (List _)). left_of qs i ≡ []) c.self.view_is (empty_at vs i v lt is none))

pub returns : goal.returns
returns g c =
    let vs = c.self.inside.stacks.items in
    let i = c.loop-stack.stack-index in
    let whole : c.as_slice-stack-items.result.now ≡ vs = c.as_slice-stack-items.ensures.value in
    let past : length vs ≤ i = subst (λ (xs : List _). length xs ≤ i) whole c.loop-stack-test.false in
    let size : length (queues_of vs) ≡ length c.args.self.now = ap (λ (qs : List (List _)). length qs) c.self.view_is in
    let same : length (queues_of vs) ≡ length vs = length-map vs queue_of in
    let each : (p : ℕ) → left_of c.args.self.now p ≡ [] = λ p. elim (cases_lt p i) [
      | inl lt ↦ c.loop-stack.invariant p lt
      | inr ge ↦ get_or_past c.args.self.now p [] (omega arith)
    ] in
    (λ t p. each p, λ h. refl)
