-- A container's vote by the least that its children enable and bear.
use Rattle.std.proofs.Common.{◌≡◌, ◌<◌, ◌≤◌, ◌==◌, ◌&&◌, ◌^◌, ℕ, suc, zero, min, Bool, true, false, cond, List, [], ◌∷◌, map, length, get_or, refl, ap, sym, ◌∙◌, arith, nat_le, drop, drop-cons, add-one, ◌+◌, Option, Some, None}
use Rattle.std.specs.Prelude.{fold}
use Rattle.std.proofs.lemmas.Bool.Decides.{nat_tests}
use Rattle.acpi_values.specs.Idle.{rows_of}
use Rattle.acpi_values.specs.declared.idle.IdleTable.{IdleTable}
use Rattle.pw_plan.specs.declared.domain.Child.{Child}
use Rattle.pw_plan.specs.declared.domain.Child.TheVariants.{Cpu}
use Rattle.pw_plan.specs.declared.plan.Plan.{Plan}
use Rattle.pw_plan.specs.Places.{children_at, container_at, row_at, table_of}
use Rattle.pw_model.specs.declared.state.State.{State}
use Rattle.pw_model.specs.declared.state.Vote.{Vote}
use Rattle.pw_model.specs.States.{any_latency, idling, running}
use Rattle.pw_model.specs.Containers.{all_allow, child_vote, child_votes, container_vote, enables_to, greatest, least_tolerance, may_idle, vote_over}
use Rattle.pw_model.proofs.Enabling.{all_allow-least, container_vote-some, vote_over-idles}
use Rattle.pw_model.proofs.Greatest.{greatest-agree, greatest-here}
use Rattle.pw_core.specs.declared.tree.KnownVote.{KnownVote}
use Rattle.pw_core.specs.declared.tree.Allowance.{Allowance}
use Rattle.pw_core.specs.inner.Known.{IsKnown, known_vote}
use Rattle.pw_base.proofs.Facts.{map_map}

-- the deepest state that all children of a container enable
abbrev pub least_reach : Plan → State → ℕ → ℕ
least_reach P S n = fold min 4294967295 (map (λ c. enables_to (table_of P c) (child_vote P S c)) (children_at P n))

-- the wake latency that all of them bear
abbrev pub least_bearing : Plan → State → ℕ → ℕ
least_bearing P S n = fold min 4294967295 (map (λ c. (child_vote P S c).tolerance) (children_at P n))

module _ (P : Plan) (S : State) (n : ℕ) where
  least_tolerance-is : least_tolerance (child_votes P S n) ≡ least_bearing P S n
  unfolding any_latency
  least_tolerance-is = ap (fold min 4294967295) (map_map (child_vote P S) (λ (v : Vote). v.tolerance) (children_at P n))

  -- what all allow wakes within what the first bears
  allowed-first : (cs : List Child) (i latency : ℕ) → 0 < length cs → (child_vote P S (get_or cs 0 (Cpu 0))).tolerance < 2 ^ 32
      → all_allow P cs (map (child_vote P S) cs) i latency ≡ (nat_le latency 4294967295 && all_allow P cs (map (child_vote P S) cs) i latency)
  allowed-first [] i latency some fits = absurd (omega arith)
  allowed-first (c ∷ cs) i latency some fits =
      within (nat_le i (enables_to (table_of P c) (child_vote P S c))) (child_vote P S c).tolerance (all_allow P cs (map (child_vote P S) cs) i latency) fits
    where
      within : (a : Bool) (bears : ℕ) (r : Bool) → bears < 2 ^ 32 → ((a && nat_le latency bears) && r) ≡ (nat_le latency 4294967295 && ((a && nat_le latency bears) && r))
      within a bears r lt = grind (arith, nat_tests)

  may_idle-least : (i : ℕ) → i ≤ 255 → 0 < length (children_at P n) → (child_vote P S (get_or (children_at P n) 0 (Cpu 0))).tolerance < 2 ^ 32
      → may_idle P n (child_votes P S n) i ≡ ((row_at (container_at P n).idle i).enabled && (nat_le i (least_reach P S n) && nat_le (row_at (container_at P n).idle i).latency (least_bearing P S n)))
  may_idle-least i le some fits =
      let latency = (row_at (container_at P n).idle i).latency in
      let all = all_allow P (children_at P n) (child_votes P S n) i latency in
      let bound : all ≡ (nat_le latency 4294967295 && all) = allowed-first (children_at P n) i latency some fits in
      let small : nat_le i 4294967295 ≡ true = grind (arith, nat_tests) in
      ap (λ b. (row_at (container_at P n).idle i).enabled && b)
      (bound ∙ ap (λ b. b && (nat_le latency 4294967295 && all)) (sym small) ∙ all_allow-least P (child_vote P S) i latency 4294967295 4294967295 (children_at P n))

  -- the vote of a container with children
  pub container_vote-by_least : length (rows_of (container_at P n).idle) ≤ 255 → 0 < length (children_at P n) → (child_vote P S (get_or (children_at P n) 0 (Cpu 0))).tolerance < 2 ^ 32
      → (state : ℕ) → state ≡ greatest (λ i. (row_at (container_at P n).idle i).enabled && (nat_le i (least_reach P S n) && nat_le (row_at (container_at P n).idle i).latency (least_bearing P S n)))
      (length (rows_of (container_at P n).idle))
      → container_vote P S n ≡ cond (state == 0) running (idling state (least_bearing P S n))
  container_vote-by_least small some fits state is =
      let rows = length (rows_of (container_at P n).idle) in
      let same : greatest (may_idle P n (child_votes P S n)) rows ≡ state =
      greatest-agree (may_idle P n (child_votes P S n))
      (λ i. (row_at (container_at P n).idle i).enabled && (nat_le i (least_reach P S n) && nat_le (row_at (container_at P n).idle i).latency (least_bearing P S n))) rows
      (λ i le. may_idle-least i (omega arith) some fits) ∙ sym is in
      container_vote-some P S n some
      ∙ ap (λ s. vote_over s (child_votes P S n)) same
      ∙ ap (λ t. cond (state == 0) running (idling state t)) least_tolerance-is

  greatest-none : (test : ℕ → Bool) (count : ℕ) → ((i : ℕ) → 0 < i → test i ≡ false) → greatest test count ≡ 0
  greatest-none test zero h = refl
  greatest-none test (suc count) h = rw (h (suc count) (omega arith)) (greatest-none test count h)

  none_reached : (a b : Bool) (i : ℕ) → 0 < i → (a && (nat_le i 0 && b)) ≡ false
  none_reached a b i lt = let above : nat_le i 0 ≡ false = grind (arith, nat_tests) in rw above (never a)
    where
      never : (a : Bool) → (a && false) ≡ false
      never true = refl
      never false = refl

  -- where some child enables no state the container runs
  pub runs : length (rows_of (container_at P n).idle) ≤ 255 → 0 < length (children_at P n) → (child_vote P S (get_or (children_at P n) 0 (Cpu 0))).tolerance < 2 ^ 32
      → least_reach P S n ≡ 0 → running ≡ container_vote P S n
  runs small some fits none =
      let rows = length (rows_of (container_at P n).idle) in
      let is : greatest (λ i. (row_at (container_at P n).idle i).enabled && (nat_le i (least_reach P S n) && nat_le (row_at (container_at P n).idle i).latency (least_bearing P S n))) rows ≡ 0 =
      rw none (greatest-none (λ i. (row_at (container_at P n).idle i).enabled && (nat_le i 0 && nat_le (row_at (container_at P n).idle i).latency (least_bearing P S n))) rows
      (λ i lt. none_reached (row_at (container_at P n).idle i).enabled (nat_le (row_at (container_at P n).idle i).latency (least_bearing P S n)) i lt)) in
      sym (container_vote-by_least small some fits 0 (sym is))

-- # The loop over the children

fold-zero : (xs : List ℕ) → fold min 0 xs ≡ 0
fold-zero [] = refl
fold-zero (x ∷ xs) = let least : min 0 x ≡ 0 = omega arith in rw least (fold-zero xs)

-- nothing is left only once the loop has begun
pub has_begun : (i least : ℕ) → (i ≡ 0 → least ≡ 4294967295) → least ≡ 0 → 0 < i
has_begun zero least begun none = let all = begun refl in absurd (omega (arith, all, none))
has_begun (suc i) least begun none = omega arith

-- once one enables nothing, all together enable nothing
pub nothing_left : (least whole : ℕ) (xs : List ℕ) → least ≡ 0 → fold min least xs ≡ whole → whole ≡ 0
nothing_left least whole xs e h = sym h ∙ ap (λ m. fold min m xs) e ∙ fold-zero xs

-- one more child
pub least_more : (f : Child → ℕ) (cs : List Child) (i least own whole : ℕ) → i < length cs → own ≡ f (get_or cs i (Cpu 0)) → fold min least (map f (drop i cs)) ≡ whole
    → fold min (min least own) (map f (drop (i + 1) cs)) ≡ whole
least_more f cs i least own whole lt e h = rw (e, add-one) (ap (λ ds. fold min least (map f ds)) (sym (drop-cons cs i (Cpu 0) lt)) ∙ h)

-- what a child allows
pub record IsAllowed (P : Plan) (S : State) (c : Child) (own : Allowance) : Type 0 where
  pub state : own.state ≡ enables_to (table_of P c) (child_vote P S c)
  pub tolerance : own.tolerance ≡ (child_vote P S c).tolerance
  pub fits : (child_vote P S c).tolerance < 2 ^ 32

pub is_allowed : (P : Plan) (S : State) (c : Child) (own : Allowance) (t : IdleTable) (v : Vote) → own ≡ record { state = enables_to t v; tolerance = v.tolerance }
    → t ≡ table_of P c → v ≡ child_vote P S c → v.tolerance < 2 ^ 32 → IsAllowed P S c own
is_allowed P S c own t v e table vote lt = record {
  state = ap (λ (a : Allowance). a.state) e ∙ ap (λ x. enables_to x v) table ∙ ap (enables_to (table_of P c)) vote;
  tolerance = ap (λ (a : Allowance). a.tolerance) e ∙ ap (λ (w : Vote). w.tolerance) vote;
  fits = rw (← vote) lt;
}

-- # What is known

pub known_is : (P : Plan) (S : State) (known : Option KnownVote) (n : ℕ) (v : Vote) → IsKnown P S known → known_vote known n ≡ Some v → v ≡ container_vote P S n
known_is P S None n v h e = cc
known_is P S (Some k) n v h e = step (k.node == n) refl e
  where
    same : (k.node == n) ≡ true → k.node ≡ n
    same t = grind (arith, nat_tests)

    step : (b : Bool) → (k.node == n) ≡ b → ◌≡◌ {A = Option Vote} (cond b (Some k.vote) None) (Some v) → v ≡ container_vote P S n
    step true t e = let is : k.vote ≡ v = cc in sym is ∙ h ∙ ap (container_vote P S) (same t)
    step false t e = cc

-- # By trying each state from the deepest on

module _ (P : Plan) (S : State) (n index : ℕ) (some : 0 < length (children_at P n))
    (rest : greatest (may_idle P n (child_votes P S n)) index ≡ greatest (may_idle P n (child_votes P S n)) (length (rows_of (container_at P n).idle))) where
  pub tried_found : (tolerance : ℕ) → 0 < index → may_idle P n (child_votes P S n) index ≡ true → tolerance ≡ least_tolerance (child_votes P S n) → idling index tolerance ≡ container_vote P S n
  tried_found tolerance lt passes e =
      sym (container_vote-some P S n some
      ∙ ap (λ s. vote_over s (child_votes P S n)) (sym rest ∙ greatest-here (may_idle P n (child_votes P S n)) index lt passes)
      ∙ vote_over-idles index (child_votes P S n) lt
      ∙ ap (idling index) (sym e))

  pub tried_none : index ≤ 0 → running ≡ container_vote P S n
  tried_none le =
      let zero : index ≡ 0 = omega arith in
      sym (container_vote-some P S n some ∙ ap (λ s. vote_over s (child_votes P S n)) (sym rest ∙ ap (greatest (may_idle P n (child_votes P S n))) zero))
