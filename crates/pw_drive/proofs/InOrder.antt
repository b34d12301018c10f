-- The replies are taken from the processors' lists, from the last entry to the first.
use Rattle.std.proofs.Common.{◌≡◌, ◌≢◌, ◌<◌, ℕ, List, Vec, [], ◌∷◌, ◌++◌, length, get_or, set, reverse, refl, ap, sym, ◌∙◌, eq-eqb, ne_eqb, append_assoc, arith}
use Rattle.std.specs.declared.alloc.Global.{Global}
use Rattle.std.proofs.lemmas.List.{get_or-set_other, get_or-set_same, length-set, length_push, reverse-append}
use mathlib.Core.Logic.{dite}
use native.Mathlib.Decide.{ℕ_discrete}
use Rattle.pw_plan.specs.declared.plan.Plan.{Plan}
use Rattle.pw_model.specs.declared.entry.HistoryEntry.{HistoryEntry}
use Rattle.pw_model.specs.declared.reply.Reply.{Reply}
use Rattle.pw_model.specs.Answers.{answer}
use Rattle.pw_model.specs.History.{replay, replies, request_of}
use Rattle.pw_drive.specs.inner.Replying.{Leaves, is_for, picked}
use Rattle.pw_drive.proofs.Entering.{replies_none}
use Rattle.pw_drive.proofs.Picking.{picked_fault, picked_last, picked_others, replies_fault, replies_last}

abbrev Lists : Type 0
Lists = List (Vec Reply Global)

-- all were taken
pub leaves_none : (P : Plan) (whole : List HistoryEntry) (each : Lists) (all : List Reply) → Leaves P whole [] each all → reverse all ≡ replies P whole
leaves_none P whole each all l = ap (λ (rs : List Reply). rs ++ reverse all) (sym (replies_none P)) ∙ l.rest

module _ (P : Plan) (whole es : List HistoryEntry) (e : HistoryEntry) (each : Lists) (all : List Reply) (l : Leaves P whole (es ++ e ∷ []) each all) where
  -- a fault has no reply
  pub leaves_fault : e.fault ≢ 0 → Leaves P whole es each all
  leaves_fault is = record {
    each = record { size = l.each.size; replies = λ p d lt. l.each.replies p d lt ∙ picked_fault P (is_for p) es e is };
    rest = ap (λ (rs : List Reply). rs ++ reverse all) (sym (replies_fault P es e is)) ∙ l.rest;
  }

  module _ (none : e.fault ≡ 0) (inside : e.cpu < length each) where
    abbrev last : Reply
    last = answer P (replay P es) (request_of e)

    own : (d : Vec Reply Global) → (get_or each e.cpu d).items ≡ picked P (is_for e.cpu) es ++ last ∷ []
    own d = l.each.replies e.cpu d inside ∙ picked_last P (is_for e.cpu) es e (eq-eqb e.cpu e.cpu refl) none

    -- its processor's list has one
    pub leaves_some : (x : Vec Reply Global) → x ≡ get_or each e.cpu x → length x.items ≡ 0 → ⊥
    leaves_some x is empty = some (picked P (is_for e.cpu) es) (sym (ap (length {A = Reply}) (ap (λ (v : Vec Reply Global). v.items) is ∙ own x)) ∙ empty)
      where
        some : (rs : List Reply) → length (rs ++ last ∷ []) ≡ 0 → ⊥
        some [] is = omega (arith, is)
        some (r ∷ rs) is = omega (arith, is)

    -- which is the last one of it
    pub leaves_reply : (x y : Vec Reply Global) (r : Reply) → x ≡ get_or each e.cpu x → x.items ≡ y.items ++ r ∷ [] → Leaves P whole es (set each e.cpu y) (all ++ r ∷ [])
    leaves_reply x y r is last_is =
        let both : y.items ++ r ∷ [] ≡ picked P (is_for e.cpu) es ++ last ∷ [] = sym last_is ∙ ap (λ (v : Vec Reply Global). v.items) is ∙ own x in
        let ends = snoc_both y.items (picked P (is_for e.cpu) es) r last both in
        record {
          each = record {
            size = length-set each e.cpu y ∙ l.each.size;
            replies = λ p d lt. dite (ℕ_discrete p e.cpu)
                (λ same. ap (λ (k : ℕ). (get_or (set each e.cpu y) k d).items) same ∙ ap (λ (v : Vec Reply Global). v.items) (get_or-set_same each e.cpu y d inside) ∙ ends.0
                ∙ ap (λ (k : ℕ). picked P (is_for k) es) (sym same))
                (λ other. ap (λ (v : Vec Reply Global). v.items) (get_or-set_other each e.cpu p y d other)
                ∙ l.each.replies p d (omega (arith, lt, length-set each e.cpu y)) ∙ picked_others P (is_for p) es (e ∷ []) (ne_eqb e.cpu p (λ same. other (sym same)), tt));
          };
          rest = ap (λ (rs : List Reply). replies P es ++ rs) (reverse-append all (r ∷ [])) ∙ sym (append_assoc (replies P es) (r ∷ []) (reverse all))
              ∙ ap (λ (z : Reply). (replies P es ++ z ∷ []) ++ reverse all) ends.1 ∙ ap (λ (rs : List Reply). rs ++ reverse all) (sym (replies_last P es e none)) ∙ l.rest;
        }
      where
        snoc_both : (xs ys : List Reply) (a b : Reply) → xs ++ a ∷ [] ≡ ys ++ b ∷ [] → (xs ≡ ys) × (a ≡ b)
        snoc_both [] [] a b same = (refl, cc)
        snoc_both [] (y ∷ ys) a b same = let size = ap (length {A = Reply}) same in let more = length_push ys b in absurd (omega (arith, size, more))
        snoc_both (x ∷ xs) [] a b same = let size = ap (length {A = Reply}) same in let more = length_push xs a in absurd (omega (arith, size, more))
        snoc_both (x ∷ xs) (y ∷ ys) a b same = let rest = snoc_both xs ys a b cc in (cc, rest.1)
