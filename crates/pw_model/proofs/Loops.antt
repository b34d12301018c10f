-- A climb that puts each part as it goes.
use Rattle.std.proofs.Common.{◌≡◌, ◌≢◌, ◌<◌, ◌==◌, ℕ, Bool, true, false, cond, List, [], ◌∷◌, length, Option, Some, None, refl, sym, ◌∙◌, ap, arith, inl, inr, ne_eqb, nat_lt}
use Rattle.std.proofs.lemmas.Bool.Decides.{nat_tests}
use Rattle.pw_plan.specs.declared.domain.Child.{Child}
use Rattle.pw_plan.specs.declared.domain.Child.TheVariants.{Container}
use Rattle.pw_plan.specs.declared.plan.Plan.{Plan}
use Rattle.pw_plan.specs.Parts.{ParentsFall, is_below}
use Rattle.pw_plan.specs.Places.{container_at}
use Rattle.pw_plan.specs.Tree.{line_from}
use Rattle.pw_plan.proofs.Lines.{line_from-Some}
use Rattle.pw_model.specs.declared.state.Vote.{Vote}
use Rattle.pw_model.specs.Containers.{node_vote}
use Rattle.pw_model.specs.Effects.{both_run, climb, votes_in, votes_with}
use Rattle.pw_model.specs.Loops.{IsClimbStep, put_votes}
use Rattle.pw_model.specs.Records.{Part, Record, container, votes}
use Rattle.pw_model.proofs.Agree.{SameOn, climb_same, nodes_of}
use Rattle.pw_model.proofs.Lines.{Among, Below, IsLine, below, line_is}

module _ (P : Plan) (F G : Record → Part) where
  nodes_agree : (c : Child) (v : Vote) (ns : List ℕ) → ((n : ℕ) → Among n ns → F (container n) ≡ G (container n)) → SameOn F G (nodes_of (climb P F c v ns))
  nodes_agree c v [] h = tt
  nodes_agree c v (n ∷ ns) h =
      let w = node_vote P n (votes_with P n c v (votes_in (F (container n)))) in
      (h n (inl refl), step (both_run (node_vote P n (votes_in (F (container n)))) w) (nodes_agree (Container n) w ns (λ m a. h m (inr a))))
    where
      step : (b : Bool) → SameOn F G (nodes_of (climb P F (Container n) (node_vote P n (votes_with P n c v (votes_in (F (container n))))) ns))
          → SameOn F G (nodes_of (cond b [] (climb P F (Container n) (node_vote P n (votes_with P n c v (votes_in (F (container n))))) ns)))
      step true r = tt
      step false r = r

  -- a climb reads its containers alone
  pub climb_agrees : (c : Child) (v : Vote) (ns : List ℕ) → ((n : ℕ) → Among n ns → F (container n) ≡ G (container n)) → climb P F c v ns ≡ climb P G c v ns
  climb_agrees c v ns h = climb_same P F G c v ns (nodes_agree c v ns h)

pub parents_fall : (P : Plan) → ParentsFall P.containers
parents_fall P n lt = step (container_at P n).parent refl
  where
    less : (m : ℕ) → m < n → nat_lt m n ≡ true
    less m lt = grind (arith, nat_tests)

    step : (p : Option ℕ) → (container_at P n).parent ≡ p → is_below n p ≡ true
    step None e = refl
    step (Some m) e = less m (P.sound.tree.falls n m lt e)

module _ (P : Plan) (F : Record → Part) where
  put_elsewhere : (n m : ℕ) (vs : List Vote) → m ≢ n → F (container m) ≡ put_votes F n vs (container m)
  put_elsewhere n m vs ne = let e : (m == n) ≡ false = ne_eqb m n ne in sym (ap (λ b. cond b (votes vs) (F (container m))) e)

  pub climb_step : (c : Child) (v : Vote) (n : ℕ) → n < length P.containers → IsClimbStep P F c v n
  climb_step c v n lt =
      let old = votes_in (F (container n)) in
      let new = votes_with P n c v old in
      let w = node_vote P n new in
      let up = line_from P.containers (container_at P n).parent in
      let start : Below n (container_at P n).parent = λ j e. P.sound.tree.falls n j lt e in
      let all : Below (length P.containers) (container_at P n).parent = λ j e. let a = start j e in omega (arith, a, lt) in
      let line : IsLine P (container_at P n).parent up = line_is P (length P.containers) (container_at P n).parent all all in
      ap (climb P F c v) (line_from-Some P.containers (parents_fall P) n lt)
      ∙ ap (λ rs. record { node = n; votes = new } ∷ cond (both_run (node_vote P n old) w) [] rs)
      (climb_agrees P F (put_votes F n new) (Container n) w up (λ m a. put_elsewhere n m new (λ i. let b = below P n (container_at P n).parent up line start all m a in omega (arith, b, i))))
