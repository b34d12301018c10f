-- The operations of an idle request.
use Rattle.std.proofs.Common.{◌≡◌, ◌≢◌, ◌<◌, ◌≤◌, ◌+◌, ◌==◌, ◌&&◌, not, ℕ, suc, Bool, true, false, cond, List, [], ◌∷◌, ◌++◌, map, length, get_or, drop, drop-cons, add-one, append_assoc, length-append, refl, ap, sym, ◌∙◌, arith}
use Rattle.std.specs.Prelude.{filter, nat_lt}
use Rattle.std.specs.List.{list_any}
use Rattle.std.proofs.lemmas.List.{get_or_past}
use Rattle.std.proofs.lemmas.Bool.Decides.{nat_tests}
use Rattle.acpi_values.specs.declared.idle.IdleKind.{IdleKind}
use Rattle.acpi_values.specs.declared.idle.IdleKind.TheVariants.{Lpi, Cst, Absent}
use Rattle.acpi_values.specs.declared.operation.Chain.{Chain}
use Rattle.acpi_values.specs.declared.operation.Op.{Op}
use Rattle.pw_plan.specs.declared.domain.Domain.{Domain}
use Rattle.pw_plan.specs.declared.domain.Group.{Group}
use Rattle.pw_plan.specs.declared.plan.Plan.{Plan}
use Rattle.pw_plan.specs.Places.{cpu_at, group_at, group_of, no_group}
use Rattle.pw_plan.proofs.Lists.{and_first}
use Rattle.pw_model.specs.declared.state.State.{State}
use Rattle.pw_model.specs.States.{vote_of}
use Rattle.pw_model.specs.Containers.{ancestors}
use Rattle.pw_model.specs.Domains.{c_state, governs, is_sw_all, may_enter}
use Rattle.pw_model.specs.Answers.{chain_of, states_along, states_by, states_of}
use Rattle.pw_model.specs.Operations.{drawn_with, enter, idle_ops, is_drawn, own_entry}
use Rattle.pw_model.proofs.Bounds.{drawn-few, own_entry-le}
use Rattle.pw_model.proofs.Greatest.{greatest-le}
use Rattle.pw_model.specs.States.{IsState}
use Rattle.pw_model.specs.Composites.{composite_of}
use Rattle.acpi_values.specs.declared.operation.Op.TheVariants as op
use Rattle.pw_base.specs.Room.{Bounded}
use Rattle.pw_plan.specs.Requests.{group_bound}
use Rattle.pw_core.specs.Chains.{states_in}
use Rattle.pw_core.specs.inner.Drawn.{drawn_among}
use Rattle.pw_core.proofs.Climbing.{chain_fits}

-- # One more member of those that pass a test

module _ (t : ℕ → Bool) (ms : List ℕ) (i : ℕ) (lt : i < length ms) where
  passing : t (get_or ms i 0) ≡ true → filter t (drop i ms) ≡ get_or ms i 0 ∷ filter t (drop (i + 1) ms)
  passing e = rw add-one (ap (filter t) (drop-cons ms i 0 lt) ∙ ap (λ b. cond b (get_or ms i 0 ∷ filter t (drop (suc i) ms)) (filter t (drop (suc i) ms))) e)

  failing : t (get_or ms i 0) ≡ false → filter t (drop i ms) ≡ filter t (drop (i + 1) ms)
  failing e = rw add-one (ap (filter t) (drop-cons ms i 0 lt) ∙ ap (λ b. cond b (get_or ms i 0 ∷ filter t (drop (suc i) ms)) (filter t (drop (suc i) ms))) e)

  pub pushed : (f : ℕ → Op) (acc whole : List Op) (op : Op) → op ≡ f (get_or ms i 0) → t (get_or ms i 0) ≡ true → acc ++ map f (filter t (drop i ms)) ≡ whole
      → (acc ++ op ∷ []) ++ map f (filter t (drop (i + 1) ms)) ≡ whole
  pushed f acc whole op is e h = rw (is, append_assoc) (ap (λ qs. acc ++ map f qs) (sym (passing e)) ∙ h)

  pub passed : (f : ℕ → Op) (acc whole : List Op) → t (get_or ms i 0) ≡ false → acc ++ map f (filter t (drop i ms)) ≡ whole → acc ++ map f (filter t (drop (i + 1) ms)) ≡ whole
  passed f acc whole e h = ap (λ qs. acc ++ map f qs) (sym (failing e)) ∙ h

  pub room_pushed : (acc : List Op) (op : Op) (capacity : ℕ) → t (get_or ms i 0) ≡ true → length acc + length (filter t (drop i ms)) ≤ capacity
      → length (acc ++ op ∷ []) + length (filter t (drop (i + 1) ms)) ≤ capacity
  room_pushed acc op capacity e h =
      let more = length-append acc (op ∷ []) in
      let count : length (filter t (drop i ms)) ≡ suc (length (filter t (drop (i + 1) ms))) = ap length (passing e) in
      omega (arith, more, count, h)

  pub room_for : (acc : List Op) (capacity : ℕ) → t (get_or ms i 0) ≡ true → length acc + length (filter t (drop i ms)) ≤ capacity → length acc < capacity
  room_for acc capacity e h =
      let count : length (filter t (drop i ms)) ≡ suc (length (filter t (drop (i + 1) ms))) = ap length (passing e) in
      omega (arith, count, h)

  pub room_passed : (acc : List Op) (capacity : ℕ) → t (get_or ms i 0) ≡ false → length acc + length (filter t (drop i ms)) ≤ capacity → length acc + length (filter t (drop (i + 1) ms)) ≤ capacity
  room_passed acc capacity e h =
      let count : length (filter t (drop i ms)) ≡ length (filter t (drop (i + 1) ms)) = ap length (failing e) in
      omega (arith, count, h)

-- # The first state of a chain

-- the state that a processor itself comes to
abbrev pub own_state : Plan → State → ℕ → IdleKind → ℕ
own_state P T p Lpi = (vote_of T p).state
own_state P T p Cst = c_state P T p
own_state P T p Absent = (vote_of T p).state

first_state : (P : Plan) (T : State) (p : ℕ) (c : Chain) → c ≡ chain_of (states_of P T p) → get_or c.states 0 0 ≡ own_state P T p (cpu_at P p).idle.kind
first_state P T p c e = ap (λ (d : Chain). get_or d.states 0 0) e ∙ by (cpu_at P p).idle.kind
  where
    by : (kind : IdleKind) → get_or (chain_of (states_by kind (c_state P T p ∷ []) ((vote_of T p).state ∷ states_along P T (ancestors P p)))).states 0 0 ≡ own_state P T p kind
    by Lpi = refl
    by Cst = refl
    by Absent = refl

-- who is drawn along comes to a state above 0
pub drawn_above : (P : Plan) (S T : State) (p : ℕ) (c : Chain) → is_drawn P S T p ≡ true → c ≡ chain_of (states_of P T p) → 0 < get_or c.states 0 0
drawn_above P S T p c drawn e = rw (first_state P T p c e) (by (cpu_at P p).idle.kind)
  where
    rises : nat_lt (c_state P S p) (c_state P T p) ≡ true
    rises = and_first (nat_lt (c_state P S p) (c_state P T p)) (list_any (λ (d : Domain). governs p (c_state P T p) d && is_sw_all d.coord) P.domains) drawn

    above : (a b : ℕ) → nat_lt a b ≡ true → 0 < b
    above a b e = grind (arith, nat_tests)

    c_above : 0 < c_state P T p
    c_above = above (c_state P S p) (c_state P T p) rises

    by : (kind : IdleKind) → 0 < own_state P T p kind
    by Lpi = let le = greatest-le (may_enter P T p) (vote_of T p).state in omega (arith, le, c_above)
    by Cst = c_above
    by Absent = let le = greatest-le (may_enter P T p) (vote_of T p).state in omega (arith, le, c_above)

-- # What the requester enters

pub own_enters : (P : Plan) (T : State) (p : ℕ) (c : Chain) → c ≡ chain_of (states_of P T p) → (cpu_at P p).idle.kind ≢ Absent → 0 < get_or c.states 0 0
    → own_entry (cpu_at P p).idle.kind (c_state P T p) (enter P T p) ≡ enter P T p ∷ []
own_enters P T p c e table above = by (cpu_at P p).idle.kind refl table
  where
    nonzero : (n : ℕ) → 0 < n → (n == 0) ≡ false
    nonzero n lt = grind (arith, nat_tests)

    by : (kind : IdleKind) → (cpu_at P p).idle.kind ≡ kind → kind ≢ Absent → own_entry kind (c_state P T p) (enter P T p) ≡ enter P T p ∷ []
    by Lpi is table = refl
    by Cst is table =
        let own : get_or c.states 0 0 ≡ c_state P T p = first_state P T p c e ∙ ap (own_state P T p) is in
        rw (nonzero (c_state P T p) (rw (← own) above)) refl
    by Absent is table = absurd (table refl)

pub own_stays : (P : Plan) (T : State) (p : ℕ) (c : Chain) → c ≡ chain_of (states_of P T p) → (cpu_at P p).idle.kind ≢ Absent → 0 < (vote_of T p).state → get_or c.states 0 0 ≤ 0
    → own_entry (cpu_at P p).idle.kind (c_state P T p) (enter P T p) ≡ []
own_stays P T p c e table idles none = by (cpu_at P p).idle.kind refl table
  where
    by : (kind : IdleKind) → (cpu_at P p).idle.kind ≡ kind → kind ≢ Absent → own_entry kind (c_state P T p) (enter P T p) ≡ []
    by Lpi is table =
        let own : get_or c.states 0 0 ≡ (vote_of T p).state = first_state P T p c e ∙ ap (own_state P T p) is in
        absurd (omega (arith, own, none, idles))
    by Cst is table =
        let own : get_or c.states 0 0 ≡ c_state P T p = first_state P T p c e ∙ ap (own_state P T p) is in
        let zero : (c_state P T p == 0) ≡ true = grind (arith, nat_tests, own, none) in
        rw zero refl
    by Absent is table = absurd (table refl)

-- # The others

no_members : no_group.members ≡ []
unfolding no_group
no_members = refl

-- without a group nobody is drawn along
pub nobody_drawn : (P : Plan) (S T : State) (p : ℕ) → length P.groups ≤ group_of P p → drawn_with P S T p ≡ []
nobody_drawn P S T p ge =
    let alone : (group_at P (group_of P p)).members ≡ [] = ap (λ (g : Group). g.members) (get_or_past P.groups (group_of P p) no_group ge) ∙ no_members in
    ap (filter (λ q. not (q == p) && is_drawn P S T q)) alone

-- # Both

-- a list with more operations
abbrev pub with_more : Bounded Op → List Op → Bounded Op
with_more ops more = record { elements = ops.elements ++ more; capacity = ops.capacity }

-- what the requester enters, unless it comes to state 0
abbrev pub own_ops : Plan → State → ℕ → List Op
own_ops P T p = own_entry (cpu_at P p).idle.kind (c_state P T p) (enter P T p)

append-nil : (xs : List Op) → xs ++ [] ≡ xs
append-nil [] = refl
append-nil (x ∷ xs) = ap (λ ys. x ∷ ys) (append-nil xs)

pub both_more : (ops mid new : Bounded Op) (xs ys : List Op) → mid ≡ with_more ops xs → new ≡ with_more mid ys → new ≡ with_more ops (xs ++ ys)
both_more ops mid new xs ys e f = f ∙ ap (λ m. with_more m ys) e ∙ ap (λ zs. record { elements = zs; capacity = ops.capacity }) (append_assoc ops.elements xs ys)

pub nothing_more : (ops : Bounded Op) → ops ≡ with_more ops []
nothing_more ops = ap (λ xs. record { elements = xs; capacity = ops.capacity }) (sym (append-nil ops.elements))

module _ (P : Plan) (T : State) (p : ℕ) (c : Chain) (lt : p < length P.cpus) (fits : IsState P T) (e : c ≡ chain_of (states_of P T p)) (table : (cpu_at P p).idle.kind ≢ Absent)
    (ops new : Bounded Op) where
  pub own_pushed : (o : Op) → 0 < get_or c.states 0 0 → o ≡ op.Enter p (composite_of P p (states_in c)) → new ≡ with_more ops (o ∷ []) → new ≡ with_more ops (own_ops P T p)
  own_pushed o above is h =
      let told = (chain_fits P T p c lt fits e above).told in
      let entered : o ≡ enter P T p = is ∙ ap (λ ss. op.Enter p (composite_of P p ss)) told in
      h ∙ ap (λ x. with_more ops (x ∷ [])) entered ∙ ap (with_more ops) (sym (own_enters P T p c e table above))

  pub own_kept : 0 < (vote_of T p).state → get_or c.states 0 0 ≤ 0 → new ≡ ops → new ≡ with_more ops (own_ops P T p)
  own_kept idles none h = h ∙ nothing_more ops ∙ ap (with_more ops) (sym (own_stays P T p c e table idles none))

module _ (P : Plan) (S T : State) (p : ℕ) (ops : Bounded Op) (room : length ops.elements + group_bound P p ≤ ops.capacity) where
  pub room_own : length ops.elements < ops.capacity
  room_own = let few = drawn-few P S T p in omega (arith, few, room)

  -- the members of the group of p are drawn along within the bound
  pub room_drawn : (mid : Bounded Op) (ms : List ℕ) → mid ≡ with_more ops (own_ops P T p) → ms ≡ (group_at P (group_of P p)).members
      → length mid.elements + length (drawn_among P S T p ms) ≤ mid.capacity
  room_drawn mid ms e is =
      let few = drawn-few P S T p in
      let own = own_entry-le (cpu_at P p).idle.kind (c_state P T p) (enter P T p) in
      let more = length-append ops.elements (own_ops P T p) in
      rw (e, is) (omega (arith, few, own, more, room))

pub idles_with : (P : Plan) (S T : State) (p : ℕ) (ops mid new : Bounded Op) (ms : List ℕ) → ms ≡ (group_at P (group_of P p)).members → mid ≡ with_more ops (own_ops P T p)
    → new ≡ with_more mid (map (enter P T) (drawn_among P S T p ms)) → new ≡ with_more ops (idle_ops P S T p)
idles_with P S T p ops mid new ms is e f =
    both_more ops mid new (own_ops P T p) (map (enter P T) (drawn_among P S T p ms)) e f
    ∙ ap (λ qs. with_more ops (own_ops P T p ++ map (enter P T) (drawn_among P S T p qs))) is

pub idles_alone : (P : Plan) (S T : State) (p : ℕ) (ops mid : Bounded Op) → length P.groups ≤ group_of P p → mid ≡ with_more ops (own_ops P T p) → mid ≡ with_more ops (idle_ops P S T p)
idles_alone P S T p ops mid ge e =
    e ∙ ap (with_more ops) (sym (append-nil (own_ops P T p))) ∙ ap (λ qs. with_more ops (own_ops P T p ++ map (enter P T) qs)) (sym (nobody_drawn P S T p ge))
