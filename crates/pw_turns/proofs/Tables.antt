-- Slots while a coordinator is opened or closed.
use Rattle.std.proofs.Common.{◌≡◌, ℕ, zero, suc, ◌+◌, ◌<◌, List, [], ◌∷◌, ◌++◌, Option, Some, None, inl, inr, length, map, replicate, refl, sym, ap, ◌∙◌, subst, arith}
use Rattle.std.proofs.lemmas.List.{length-append}
use mathlib.Core.Option.{some, some-injective, some-ne-none}
use lib.ListN.{get_elem?}
use Rattle.atomic_table.specs.Table.{opening}
use Rattle.atomic_table.proofs.Lists.{at_last, at_longer, at_map, at_snoc}
use Rattle.pw_plan.specs.declared.plan.Plan.{Plan}
use Rattle.pw_model.specs.Records.{Part, record_count}
use Rattle.pw_regs.specs.declared.registers.Registers.{Ghosts as Registers}
use Rattle.pw_journal.specs.Journaled.{Journaled}
use Rattle.pw_rule.specs.declared.setup.Setup.{Setup}
use Rattle.pw_rule.specs.declared.content.Content.{Content}
use Rattle.pw_rule.specs.declared.content.Content.TheVariants.{Log}
use Rattle.pw_rule.specs.Contents.{AreOpening, IsRecordOf, LiesAt}
use Rattle.pw_rule.specs.Rule.{Ruled, first_of}
use Rattle.pw_rule.proofs.Opening.{begins}
use Rattle.pw_turns.specs.inner.Slots.{AreFirst, HaveNoLog}

module _ {R : Type 0} where
  -- one of them
  pub one_no_log : (n : ℕ) (xs : List (Option (Content R))) (t : ℕ) (x : Option (Content R)) → HaveNoLog n xs → t < n → get_elem? xs t ≡ some x
      → HaveNoLog 1 (x ∷ [])
  one_no_log n xs t x none low at zero j l e = none t j low (at ∙ e)
  one_no_log n xs t x none low at (suc k) j l e = absurd (omega (arith, l))

  -- those before the last, and the last
  pub front_no_log : (xs : List (Option (Content R))) (x : Option (Content R)) → HaveNoLog (length (xs ++ x ∷ [])) (xs ++ x ∷ []) → HaveNoLog (length xs) xs
  front_no_log xs x none = λ t j low e. none t j (omega (arith, low, length-append xs (x ∷ []))) (at_longer xs (x ∷ []) t (Some (Log j)) e)

  pub back_no_log : (xs : List (Option (Content R))) (x : Option (Content R)) → HaveNoLog (length (xs ++ x ∷ [])) (xs ++ x ∷ []) → HaveNoLog 1 (x ∷ [])
  back_no_log xs x none = one_no_log (length (xs ++ x ∷ [])) (xs ++ x ∷ []) (length xs) x none (omega (arith, length-append xs (x ∷ []))) (at_last xs x (length xs) refl)

  -- where a record lies is no journal
  pub no_log_there : (P : Plan) (xs : List (Option (Content R))) (t : ℕ) (part : Part) → LiesAt P (map some xs) t part → (j : Journaled R) → get_elem? xs t ≡ some (Some (Log j)) → ⊥
  no_log_there P xs t part lies j e =
      let one = some-injective (some (Some lies.content)) (some (Some (Log j))) (sym lies.here ∙ at_map some xs t (Some (Log j)) e) in
      let two : Some lies.content ≡ Some (Log j) = some-injective (Some lies.content) (Some (Log j)) one in
      let same : lies.content ≡ Log j = cc in
      subst (IsRecordOf P t part) same lies.holds

  pub opening_no_log : (P : Plan) (xs : List (Option (Content R))) → AreOpening P xs → HaveNoLog (length xs) xs
  opening_no_log P xs all = λ t j low e. no_log_there P xs t _ (all t low) j e

  pub first_no_log : (P : Plan) (xs : List (Option (Content R))) → AreFirst P xs → HaveNoLog (length xs) xs
  first_no_log P xs first = λ t j low e. elim (at_snoc first.records None (Some (Log j)) t (subst (λ l. get_elem? l t ≡ some (Some (Log j))) first.is e)) [
    | inl at ↦ opening_no_log P first.records first.opening t j (below first.records t (Some (Log j)) at) at
    | inr same ↦ cc
  ]
    where
      below : (xs : List (Option (Content R))) (t : ℕ) (x : Option (Content R)) → get_elem? xs t ≡ some x → t < length xs
      below [] t x e = absurd (some-ne-none x (sym e))
      below (y ∷ xs) zero x e = omega arith
      below (y ∷ xs) (suc t) x e = let b = below xs t x e in omega (arith, b)

-- # The table at the start

module _ {R : Type 0} (by : Registers R) where
  pub begins_first : (key : Setup R) (ws : List ℕ) (xs : List (Option (Content R))) (n : ℕ) → AreFirst key.plan xs → n ≡ record_count key.plan → ws ≡ replicate (n + 2) 1
      → Ruled by key (opening ws xs (first_of key))
  begins_first key ws xs n first sized words =
      let w : ws ≡ replicate (record_count key.plan + 2) 1 = words ∙ ap (λ k. replicate (k + 2) 1) sized in
      subst (λ l. Ruled by key (opening l xs (first_of key))) (sym w)
      (subst (λ l. Ruled by key (opening (replicate (record_count key.plan + 2) 1) l (first_of key))) (sym first.is) (begins by key first.records first.opening first.sized))
