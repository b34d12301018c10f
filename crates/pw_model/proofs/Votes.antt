-- The votes of containers by their children's.
use Rattle.std.proofs.Common.{◌≡◌, ◌<◌, ◌≤◌, ◌-◌, ℕ, suc, zero, true, [], map, length, get_or, Option, Some, None, refl, ap, arith}
use Rattle.std.specs.Prelude.{nat_lt}
use Rattle.std.specs.List.{AllByRecursion}
use Rattle.std.proofs.lemmas.List.{get_or_past}
use Rattle.std.proofs.lemmas.List.Elements.{All-from_recursion}
use Rattle.std.proofs.lemmas.Bool.Decides.{nat_tests}
use Rattle.pw_plan.specs.declared.domain.Child.{Child}
use Rattle.pw_plan.specs.declared.domain.Child.TheVariants.{Cpu, Container}
use Rattle.pw_plan.specs.declared.plan.Plan.{Plan}
use Rattle.pw_plan.specs.Places.{children_at, container_at, cpu_at, parent_of}
use Rattle.pw_plan.specs.Sound.{is_child}
use Rattle.pw_plan.specs.Tree.{is_number}
use Rattle.pw_model.specs.declared.state.State.{State}
use Rattle.pw_model.specs.Containers.{child_votes, container_vote, node_vote, vote_among, vote_within}
use Rattle.pw_plan.proofs.Lists.{and_first, and_second}
use Rattle.pw_model.proofs.Maps.{each_passes, map_agree}
use Rattle.pw_base.proofs.Facts.{weaker}

-- # Who is listed as a child

abbrev pub Exists : Plan → Child → Type 0
Exists P (Cpu p) = p < length P.cpus
Exists P (Container n) = n < length P.containers

-- a child that is listed below container n
pub record IsChild (P : Plan) (n : ℕ) (c : Child) : Type 0 where
  pub parent : parent_of P c ≡ Some n
  pub exists : Exists P c

is_parent : (n : ℕ) (parent : Option ℕ) → is_number n parent ≡ true → parent ≡ Some n
is_parent n None e = cc
is_parent n (Some m) e = let same : m ≡ n = grind (arith, nat_tests) in ap (λ k. Some k) same

is_below : (m n : ℕ) → nat_lt m n ≡ true → m < n
is_below m n e = grind (arith, nat_tests)

listed : (P : Plan) (n : ℕ) (c : Child) → is_child P.containers P.cpus n c ≡ true → IsChild P n c
listed P n (Cpu p) e = record {
  parent = is_parent n (cpu_at P p).parent (and_second (nat_lt p (length P.cpus)) (is_number n (cpu_at P p).parent) e);
  exists = is_below p (length P.cpus) (and_first (nat_lt p (length P.cpus)) (is_number n (cpu_at P p).parent) e);
}
listed P n (Container m) e = record {
  parent = is_parent n (container_at P m).parent (and_second (nat_lt m (length P.containers)) (is_number n (container_at P m).parent) e);
  exists = is_below m (length P.containers) (and_first (nat_lt m (length P.containers)) (is_number n (container_at P m).parent) e);
}

pub are_children : (P : Plan) (n : ℕ) → AllByRecursion (IsChild P n) (children_at P n)
are_children P n = weaker (λ c. is_child P.containers P.cpus n c ≡ true) (IsChild P n) (listed P n) (children_at P n)
    (each_passes (is_child P.containers P.cpus n) (children_at P n) (P.sound.tree.children_exist n))

pub none_past : (P : Plan) (n : ℕ) → length P.containers ≤ n → children_at P n ≡ []
none_past P n le = let lists = P.sound.tree.lists in get_or_past P.children n [] (omega (arith, lists))

-- a container that is listed as a child stands after its parent
pub container_child : (P : Plan) (n k m : ℕ) (d : Child) → k < length (children_at P n) → get_or (children_at P n) k d ≡ Container m → (n < m) × (m < length P.containers)
container_child P n k m d lt e =
    let child : IsChild P n (Container m) = rw e at (All-from_recursion (IsChild P n) (children_at P n) (are_children P n) k d lt) in
    (P.sound.tree.falls m n child.exists child.parent, child.exists)

-- a processor that is listed as a child is one of the plan
pub cpu_child : (P : Plan) (n k p : ℕ) (d : Child) → k < length (children_at P n) → get_or (children_at P n) k d ≡ Cpu p → p < length P.cpus
cpu_child P n k p d lt e =
    let child : IsChild P n (Cpu p) = rw e at (All-from_recursion (IsChild P n) (children_at P n) (are_children P n) k d lt) in
    child.exists

-- # A container's vote

-- past its height below a container the bound makes no difference
same_within : (P : Plan) (S : State) (f g n : ℕ) → length P.containers - n ≤ f → length P.containers - n ≤ g → vote_within f P S.votes n ≡ vote_within g P S.votes n
unfolding vote_within
same_within P S zero zero n a b = refl
same_within P S zero (suc g) n a b = rw (none_past P n (omega arith)) refl
same_within P S (suc f) zero n a b = rw (none_past P n (omega arith)) refl
same_within P S (suc f) (suc g) n a b =
    ap (node_vote P n) (map_agree (IsChild P n) (vote_among P S.votes (vote_within f P S.votes)) (vote_among P S.votes (vote_within g P S.votes))
    (each (λ m lt. same_within P S f g m (omega arith) (omega arith))) (children_at P n) (are_children P n))
  where
    each : ((m : ℕ) → n < m → vote_within f P S.votes m ≡ vote_within g P S.votes m) → (c : Child) → IsChild P n c
        → vote_among P S.votes (vote_within f P S.votes) c ≡ vote_among P S.votes (vote_within g P S.votes) c
    each above (Cpu p) h = refl
    each above (Container m) h = above m (P.sound.tree.falls m n h.exists h.parent)

-- a container's vote is what its children's make
pub container_vote-by_children : (P : Plan) (S : State) (n : ℕ) → container_vote P S n ≡ node_vote P n (child_votes P S n)
unfolding container_vote vote_within
container_vote-by_children P S n = same_within P S (length P.containers) (suc (length P.containers)) n (omega arith) (omega arith)

-- only the votes count
pub child_votes-by_votes : (P : Plan) (S T : State) (n : ℕ) → S.votes ≡ T.votes → child_votes P S n ≡ child_votes P T n
unfolding container_vote
child_votes-by_votes P S T n e = ap (λ vs. map (vote_among P vs (vote_within (length P.containers) P vs)) (children_at P n)) e
