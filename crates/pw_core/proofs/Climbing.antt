-- Chains of states, built upwards.
use Rattle.std.proofs.Common.{◌≡◌, ◌<◌, ◌≤◌, ◌+◌, ◌-◌, ◌==◌, ℕ, suc, Bool, true, false, cond, List, [], ◌∷◌, ◌++◌, length, take, Option, Some, None, refl, ap, sym, ◌∙◌, arith, length-append, append_assoc, set, get_or, replicate, length-take-le}
use Rattle.std.specs.Prelude.{nat_lt}
use Rattle.std.proofs.Math.Seq.{take-append_seam, set-append_seam}
use Rattle.std.proofs.lemmas.List.{length-replicate}
use Rattle.std.proofs.lemmas.Bool.Decides.{nat_tests}
use Rattle.acpi_values.specs.Idle.{rows_of}
use Rattle.acpi_values.specs.declared.idle.IdleKind.{IdleKind}
use Rattle.acpi_values.specs.declared.idle.IdleKind.TheVariants.{Lpi, Cst, Absent}
use Rattle.acpi_values.specs.declared.operation.Chain.{Chain}
use Rattle.pw_plan.specs.declared.plan.Plan.{Plan}
use Rattle.pw_plan.specs.Parts.{ParentsFall, is_below}
use Rattle.pw_plan.specs.Places.{container_at, cpu_at}
use Rattle.pw_plan.specs.Tree.{line_from}
use Rattle.pw_plan.proofs.Lines.{Within, line_from-Some, line_within-None}
use Rattle.pw_model.specs.declared.state.State.{State}
use Rattle.pw_model.specs.States.{IsState, vote_of}
use Rattle.pw_model.specs.Containers.{ancestors, container_vote}
use Rattle.pw_model.specs.Domains.{c_state, may_enter}
use Rattle.pw_model.specs.Answers.{chain_of, states_along, states_of, states_by}
use Rattle.pw_model.proofs.Enabling.{container_vote-le}
use Rattle.pw_model.proofs.Greatest.{greatest-le}
use Rattle.pw_core.specs.Chains.{IsChain, states_in, AreStates, AreStatesOf}
use Rattle.pw_model.proofs.Loops.{parents_fall}
use Rattle.pw_model.proofs.Routes.{along_length}

-- # A chain and its states

pub same_chain : (m n : ℕ) (xs ys : List ℕ) → m ≡ n → xs ≡ ys → ◌≡◌ {A = Chain} (record { len = m; states = xs }) (record { len = n; states = ys })
same_chain m n xs ys e f = rw (e, f) refl

pub length-states_in : (c : Chain) → IsChain c → length (states_in c) ≡ c.len
length-states_in c h = let r : c.len ≤ 9 = h.room in let n : length c.states ≡ 9 = h.places in length-take-le c.len c.states (omega arith)

pub chain_is : (c : Chain) → IsChain c → c ≡ chain_of (states_in c)
chain_is c h =
    let n : length (take c.len c.states) ≡ c.len = length-states_in c h in
    same_chain c.len (length (states_in c)) c.states (states_in c ++ replicate (9 - length (states_in c)) 0) (sym n)
    (h.zeros ∙ ap (λ k. states_in c ++ replicate (9 - k) 0) (sym n))

pub is_chain : (xs : List ℕ) → length xs ≤ 9 → IsChain (chain_of xs)
is_chain xs le = record {
  places = length-append xs (replicate (9 - length xs) 0) ∙ ap (λ k. length xs + k) (length-replicate (9 - length xs) 0) ∙ omega arith;
  room = le;
  zeros = ap (λ ys. ys ++ replicate (9 - length xs) 0) (sym (take-append_seam xs (replicate (9 - length xs) 0)));
}

pub states_in-chain_of : (xs : List ℕ) → states_in (chain_of xs) ≡ xs
states_in-chain_of xs = take-append_seam xs (replicate (9 - length xs) 0)

pub chain-extended : (c : Chain) (s : ℕ) → IsChain c → length (states_in c) < 9 → record { len = c.len + 1; states = set c.states c.len s } ≡ chain_of (states_in c ++ s ∷ [])
chain-extended c s h room =
    let n : length (states_in c) ≡ c.len = length-states_in c h in
    let few : c.len + 1 ≤ 9 = omega arith in
    let more : length (states_in c ++ s ∷ []) ≡ c.len + 1 = length-append (states_in c) (s ∷ []) ∙ ap (λ k. k + 1) n in
    same_chain (c.len + 1) (length (states_in c ++ s ∷ [])) (set c.states c.len s) (states_in c ++ s ∷ [] ++ replicate (9 - length (states_in c ++ s ∷ [])) 0) (sym more)
    (ap (λ ys. set ys c.len s) h.zeros
    ∙ put (states_in c) c.len (9 - c.len) (9 - (c.len + 1)) n (omega arith)
    ∙ ap (λ k. states_in c ++ s ∷ [] ++ replicate (9 - k) 0) (sym more))
  where
    put : (xs : List ℕ) (k m j : ℕ) → length xs ≡ k → m ≡ suc j → set (xs ++ replicate m 0) k s ≡ (xs ++ s ∷ []) ++ replicate j 0
    put xs k m j n e = rw (e, ← n, append_assoc) (set-append_seam xs 0 (replicate j 0) s)

-- # Lines upwards

pub line-Some : (P : Plan) (n : ℕ) → n < length P.containers → line_from P.containers (Some n) ≡ n ∷ line_from P.containers (container_at P n).parent
line-Some P n lt = line_from-Some P.containers (parents_fall P) n lt

pub line-None : (P : Plan) → line_from P.containers None ≡ []
line-None P = line_within-None P.containers (length P.containers)

pub within_cpu : (P : Plan) (p : ℕ) → p < length P.cpus → Within P.containers (length P.containers) (cpu_at P p).parent
within_cpu P p lt k e = let below : k < length P.containers = P.sound.tree.within p k lt e in (below, below)

pub within_up : (P : Plan) (n : ℕ) → n < length P.containers → Within P.containers (length P.containers) (container_at P n).parent
within_up P n lt k e = let below : k < n = P.sound.tree.falls n k lt e in (omega arith, omega arith)

-- # The climb

-- how far a chain has come that is to have all these states
pub record Climbs (P : Plan) (S : State) (all : List ℕ) (c : Chain) (next : Option ℕ) : Type 0 where
  pub chain : IsChain c
  pub within : Within P.containers (length P.containers) next
  pub room : length (states_in c) + length (line_from P.containers next) ≤ 9
  pub told : states_in c ++ states_along P S (line_from P.containers next) ≡ all

pub climbs-begin : (P : Plan) (S : State) (p s : ℕ) (c : Chain) → p < length P.cpus → c ≡ chain_of (s ∷ []) → Climbs P S (s ∷ states_along P S (ancestors P p)) c (cpu_at P p).parent
climbs-begin P S p s c lt e =
    let depth : length (ancestors P p) ≤ 8 = P.sound.small.depth p in
    let states : states_in c ≡ s ∷ [] = ap states_in e in
    record {
      chain = rw e (is_chain (s ∷ []) (omega arith));
      within = within_cpu P p lt;
      room = rw states (omega arith);
      told = ap (λ ss. ss ++ states_along P S (ancestors P p)) states;
    }

along_zero : (P : Plan) (S : State) (n : ℕ) (ns : List ℕ) → (container_vote P S n).state ≡ 0 → states_along P S (n ∷ ns) ≡ []
along_zero P S n ns e = rw e refl

along_more : (P : Plan) (S : State) (n : ℕ) (ns : List ℕ) → ((container_vote P S n).state == 0) ≡ false → states_along P S (n ∷ ns) ≡ (container_vote P S n).state ∷ states_along P S ns
along_more P S n ns e = rw e refl

append-nil : (xs : List ℕ) → xs ++ [] ≡ xs
append-nil [] = refl
append-nil (x ∷ xs) = ap (λ ys. x ∷ ys) (append-nil xs)

module _ (P : Plan) (S : State) (all : List ℕ) (c : Chain) where
  pub climbs-end : Climbs P S all c None → c ≡ chain_of all
  climbs-end h =
      let e : states_in c ≡ all = sym (append-nil (states_in c)) ∙ sym (ap (λ ns. states_in c ++ states_along P S ns) (line-None P)) ∙ h.told in
      chain_is c h.chain ∙ ap chain_of e

  module _ (n : ℕ) (h : Climbs P S all c (Some n)) where
    pub climbs-exists : n < length P.containers
    climbs-exists = (h.within n refl).1

    goes_on : line_from P.containers (Some n) ≡ n ∷ line_from P.containers (container_at P n).parent
    goes_on = line-Some P n climbs-exists

    pub climbs-stop : (container_vote P S n).state ≡ 0 → c ≡ chain_of all
    climbs-stop e =
        let f : states_along P S (line_from P.containers (Some n)) ≡ [] = rw goes_on (along_zero P S n (line_from P.containers (container_at P n).parent) e) in
        chain_is c h.chain ∙ ap chain_of (sym (append-nil (states_in c)) ∙ sym (ap (λ ns. states_in c ++ ns) f) ∙ h.told)

    pub climbs-room : length (states_in c) < 9
    climbs-room = let r = rw goes_on at h.room in omega (arith, r)

    pub climbs-falls : length (line_from P.containers (container_at P n).parent) < length (line_from P.containers (Some n))
    climbs-falls = rw goes_on (omega arith)

    pub climbs-more : (d : Chain) → ((container_vote P S n).state == 0) ≡ false → d ≡ chain_of (states_in c ++ (container_vote P S n).state ∷ []) → Climbs P S all d (container_at P n).parent
    climbs-more d e is =
        let r = rw goes_on at h.room in
        let more : length (states_in c ++ (container_vote P S n).state ∷ []) ≡ length (states_in c) + 1 = length-append (states_in c) ((container_vote P S n).state ∷ []) in
        let few : length (states_in c ++ (container_vote P S n).state ∷ []) ≤ 9 = omega (arith, r, more) in
        let states : states_in d ≡ states_in c ++ (container_vote P S n).state ∷ [] = ap states_in is ∙ states_in-chain_of (states_in c ++ (container_vote P S n).state ∷ []) in
        record {
          chain = rw is (is_chain (states_in c ++ (container_vote P S n).state ∷ []) few);
          within = within_up P n climbs-exists;
          room = rw states (omega (arith, r, more));
          told =
              ap (λ xs. xs ++ states_along P S (line_from P.containers (container_at P n).parent)) states
              ∙ append_assoc (states_in c) ((container_vote P S n).state ∷ []) (states_along P S (line_from P.containers (container_at P n).parent))
              ∙ ap (λ ns. states_in c ++ ns) (sym (rw goes_on (along_more P S n (line_from P.containers (container_at P n).parent) e)))
              ∙ h.told;
        }

-- # What a chain comes to are states of the processor and its containers

positive : (s : ℕ) → (s == 0) ≡ false → 1 ≤ s
positive s e = grind (arith, nat_tests)

states_along-fit : (P : Plan) (S : State) (ns : List ℕ) → AreStates P ns (states_along P S ns)
states_along-fit P S [] = tt
states_along-fit P S (n ∷ ns) = step ((container_vote P S n).state == 0) refl (container_vote-le P S n) (states_along-fit P S ns)
  where
    step : (b : Bool) → ((container_vote P S n).state == 0) ≡ b → (container_vote P S n).state ≤ length (rows_of (container_at P n).idle) → AreStates P ns (states_along P S ns)
        → AreStates P (n ∷ ns) (cond b [] ((container_vote P S n).state ∷ states_along P S ns))
    step true e le above = tt
    step false e le above = (positive (container_vote P S n).state e, le, above)

-- what is told of a chain of a processor's states whose first is above 0
pub record Fits (P : Plan) (p : ℕ) (states : List ℕ) (c : Chain) : Type 0 where
  pub chain : IsChain c
  pub told : states_in c ≡ states
  pub fit : AreStatesOf P p (states_in c)

first : (xs : List ℕ) (s : ℕ) → get_or (chain_of (s ∷ xs)).states 0 0 ≡ s
first xs s = refl

pub chain_fits : (P : Plan) (S : State) (p : ℕ) (c : Chain) → p < length P.cpus → IsState P S → c ≡ chain_of (states_of P S p) → 0 < get_or c.states 0 0 → Fits P p (states_of P S p) c
chain_fits P S p c lt h e above = by (cpu_at P p).idle.kind e
  where
    depth : length (ancestors P p) ≤ 8
    depth = P.sound.small.depth p

    few : length (states_along P S (ancestors P p)) ≤ 8
    few = let le = along_length P S (ancestors P p) in omega (arith, le, depth)

    own_le : (vote_of S p).state ≤ length (rows_of (cpu_at P p).idle)
    own_le = h.vote p lt

    c_le : c_state P S p ≤ length (rows_of (cpu_at P p).idle)
    c_le = let le = greatest-le (may_enter P S p) (vote_of S p).state in omega (arith, le, own_le)

    made : (s : ℕ) (ss : List ℕ) → c ≡ chain_of (s ∷ ss) → length ss ≤ 8 → s ≤ length (rows_of (cpu_at P p).idle) → AreStates P (ancestors P p) ss → Fits P p (s ∷ ss) c
    made s ss e few le fit =
        let own : get_or c.states 0 0 ≡ s = ap (λ (d : Chain). get_or d.states 0 0) e in
        let told : states_in c ≡ s ∷ ss = ap states_in e ∙ states_in-chain_of (s ∷ ss) in
        record { chain = rw e (is_chain (s ∷ ss) (omega arith)); told = told; fit = rw told (omega (arith, own, above), le, fit) }

    climbs : c ≡ chain_of ((vote_of S p).state ∷ states_along P S (ancestors P p)) → Fits P p ((vote_of S p).state ∷ states_along P S (ancestors P p)) c
    climbs e = made (vote_of S p).state (states_along P S (ancestors P p)) e few own_le (states_along-fit P S (ancestors P p))

    by : (kind : IdleKind) → c ≡ chain_of (states_by kind (c_state P S p ∷ []) ((vote_of S p).state ∷ states_along P S (ancestors P p)))
        → Fits P p (states_by kind (c_state P S p ∷ []) ((vote_of S p).state ∷ states_along P S (ancestors P p))) c
    by Lpi e = climbs e
    by Cst e = made (c_state P S p) [] e (omega arith) c_le tt
    by Absent e = climbs e
