-- Who enters by another's request.
use Rattle.std.proofs.Common.{◌≡◌, ◌≢◌, ◌<◌, ◌==◌, ◌&&◌, ◌||◌, not, ℕ, suc, zero, Bool, true, false, cond, List, [], ◌∷◌, map, length, Option, Some, None, refl, ap, sym, ◌∙◌, ◌⊎◌, inl, inr, arith, nat_le}
use Rattle.std.specs.Prelude.{Contains, filter, nat_lt}
use Rattle.std.specs.List.{list_all, list_any}
use Rattle.std.proofs.lemmas.Bool.Decides.{nat_tests}
use Rattle.std.proofs.lemmas.List.{get_or-set_other}
use Rattle.std.proofs.lemmas.List.Elements.{Contains-append_cases, Contains-append_right}
use Rattle.acpi_values.specs.declared.dependency.Coord.{Coord}
use Rattle.acpi_values.specs.declared.dependency.Coord.TheVariants.{SwAll, SwAny, HwAll}
use Rattle.acpi_values.specs.declared.idle.IdleKind.{IdleKind}
use Rattle.acpi_values.specs.declared.idle.IdleKind.TheVariants.{Lpi, Cst, Absent}
use Rattle.acpi_values.specs.declared.operation.Composite.{Composite}
use Rattle.acpi_values.specs.declared.operation.Op.TheVariants as op
use Rattle.pw_plan.specs.declared.domain.Domain.{Domain}
use Rattle.pw_plan.specs.declared.domain.DomainKind.TheVariants as kinds
use Rattle.pw_plan.specs.declared.plan.Plan.{Plan}
use Rattle.pw_plan.specs.declared.request.Request.TheVariants.{Idle}
use Rattle.pw_plan.specs.Groups.{has_member, is_idle, is_link, is_software, no_domain}
use Rattle.pw_plan.specs.Places.{cpu_at, domain_at, group_at, group_of}
use Rattle.pw_plan.specs.Covering.{covers, same_kind}
use Rattle.pw_plan.proofs.Lists.{and_both, and_first, and_second, any_at, first_place, or_first, or_second}
use Rattle.pw_model.specs.declared.reply.Reply.{Reply}
use Rattle.pw_model.specs.declared.state.Change.TheVariants as changes
use Rattle.pw_model.specs.declared.state.State.{State}
use Rattle.pw_model.specs.declared.state.Vote.{Vote}
use Rattle.pw_model.specs.States.{idling, running, vote_of, with_change}
use Rattle.pw_model.specs.Answers.{after, changed, if_accepted, states_of}
use Rattle.pw_model.specs.Composites.{composite_of}
use Rattle.pw_model.specs.Containers.{greatest}
use Rattle.pw_model.specs.Domains.{c_state, governs, is_gathered, is_sw_all, may_enter, state_of}
use Rattle.pw_model.specs.Entering.{ComesAlong, IsOnAll}
use Rattle.pw_model.specs.Operations.{accepted_ops, drawn_with, enter, idle_ops, is_drawn, ops_of, own_entry}
use Rattle.pw_model.specs.Refusals.{refusal}
use Rattle.pw_model.proofs.Gathering.{idle_kind}
use Rattle.pw_model.proofs.Greatest.{greatest-agree}

-- # Who is in a list

in_map : {X Y : Type 0} (f : X → Y) (xs : List X) (y : Y) → Contains (map f xs) y → (x : X) × Contains xs x × (f x ≡ y)
in_map f [] y (k, lt, e) = absurd (omega arith)
in_map f (x ∷ xs) y (zero, lt, e) = (x, (0, omega arith, refl), e)
in_map f (x ∷ xs) y (suc k, lt, e) = let r = in_map f xs y (k, omega arith, e) in (r.0, (suc r.1.0, omega (arith, r.1.1), r.1.2), r.2)

map_in : {X Y : Type 0} (f : X → Y) (xs : List X) (x : X) → Contains xs x → Contains (map f xs) (f x)
map_in f [] x (k, lt, e) = absurd (omega arith)
map_in f (x ∷ xs) y (zero, lt, e) = (0, omega arith, ap f e)
map_in f (x ∷ xs) y (suc k, lt, e) = let r = map_in f xs y (k, omega arith, e) in (suc r.0, omega (arith, r.1), r.2)

filter_passes : (t : ℕ → Bool) (ms : List ℕ) (q : ℕ) → Contains (filter t ms) q → t q ≡ true
filter_passes t [] q (k, lt, e) = absurd (omega arith)
filter_passes t (m ∷ ms) q c = step (t m) refl c (filter_passes t ms q)
  where
    step : (b : Bool) → t m ≡ b → Contains (cond b (m ∷ filter t ms) (filter t ms)) q → (Contains (filter t ms) q → t q ≡ true) → t q ≡ true
    step false h c later = later c
    step true h (zero, lt, e) later = ap t (sym e) ∙ h
    step true h (suc k, lt, e) later = later (k, omega arith, e)

passes_filter : (t : ℕ → Bool) (ms : List ℕ) (q : ℕ) → has_member ms q ≡ true → t q ≡ true → Contains (filter t ms) q
passes_filter t [] q member e = cc
passes_filter t (m ∷ ms) q member e = step (m == q) refl member (λ h. passes_filter t ms q h e)
  where
    put : (b : Bool) → Contains (filter t ms) q → Contains (cond b (m ∷ filter t ms) (filter t ms)) q
    put false c = c
    put true (k, lt, e) = (suc k, omega arith, e)

    step : (b : Bool) → (m == q) ≡ b → (b || has_member ms q) ≡ true → (has_member ms q ≡ true → Contains (filter t ms) q) → Contains (cond (t m) (m ∷ filter t ms) (filter t ms)) q
    step false h member later = put (t m) (later member)
    step true h member later =
        let same : m ≡ q = grind (arith, nat_tests) in
        let passes : t m ≡ true = ap t same ∙ e in
        rw passes (0, omega arith, same)

-- # A domain draws

on_all : (coord : Coord) → is_sw_all coord ≡ true → coord ≡ SwAll
on_all SwAll e = refl
on_all SwAny e = cc
on_all HwAll e = cc

module _ (P : Plan) (S T : State) (q : ℕ) where
  comes_from : is_drawn P S T q ≡ true → ComesAlong P S T q
  comes_from e =
      let draws = λ (d : Domain). governs q (c_state P T q) d && is_sw_all d.coord in
      let rises = and_first (nat_lt (c_state P S q) (c_state P T q)) (list_any draws P.domains) e in
      let place = first_place draws P.domains no_domain (and_second (nat_lt (c_state P S q) (c_state P T q)) (list_any draws P.domains) e) in
      record { deeper = grind (arith, nat_tests); domain = place.0; on_all = all_from place.0 place.1 place.2 }
    where
      all_from : (d : ℕ) → d < length P.domains → (governs q (c_state P T q) (domain_at P d) && is_sw_all (domain_at P d).coord) ≡ true → IsOnAll P d q (c_state P T q)
      all_from d lt e =
          let x = domain_at P d in
          let governed = and_first (governs q (c_state P T q) x) (is_sw_all x.coord) e in
          let covered = and_first (covers kinds.Idle q x) (is_software x.coord) (and_first (covers kinds.Idle q x && is_software x.coord) (state_of x == c_state P T q) governed) in
          let same = and_second (covers kinds.Idle q x && is_software x.coord) (state_of x == c_state P T q) governed in
          record {
            exists = lt;
            kind = idle_kind x.kind ∙ and_first (same_kind x.kind kinds.Idle) (has_member x.members q) covered;
            coord = on_all x.coord (and_second (governs q (c_state P T q) x) (is_sw_all x.coord) e);
            member = and_second (same_kind x.kind kinds.Idle) (has_member x.members q) covered;
            about = equal (state_of x) (c_state P T q) same;
          }
        where
          equal : (a b : ℕ) → (a == b) ≡ true → a ≡ b
          equal a b e = grind (arith, nat_tests)

  comes_by : ComesAlong P S T q → is_drawn P S T q ≡ true
  comes_by h =
      let draws = λ (d : Domain). governs q (c_state P T q) d && is_sw_all d.coord in
      let x = domain_at P h.domain in
      let all = h.on_all in
      let covered : covers kinds.Idle q x ≡ true = and_both (same_kind x.kind kinds.Idle) (has_member x.members q) (sym (idle_kind x.kind) ∙ all.kind) all.member in
      let software : is_software x.coord ≡ true = ap is_software all.coord in
      let governed : governs q (c_state P T q) x ≡ true = and_both (covers kinds.Idle q x && is_software x.coord) (state_of x == c_state P T q)
      (and_both (covers kinds.Idle q x) (is_software x.coord) covered software) (equal (state_of x) (c_state P T q) all.about) in
      and_both (nat_lt (c_state P S q) (c_state P T q)) (list_any draws P.domains) (below (c_state P S q) (c_state P T q) h.deeper)
      (any_at draws P.domains h.domain no_domain all.exists (and_both (governs q (c_state P T q) x) (is_sw_all x.coord) governed (ap is_sw_all all.coord)))
    where
      equal : (a b : ℕ) → a ≡ b → (a == b) ≡ true
      equal a b e = grind (arith, nat_tests)

      below : (a b : ℕ) → a < b → nat_lt a b ≡ true
      below a b lt = grind (arith, nat_tests)

-- # A vote moves the C states of its group alone

module _ (P : Plan) (S : State) (p : ℕ) (v : Vote) (q : ℕ) (other : q ≢ p) where
  abbrev voted : State
  voted = with_change S (changes.Vote p v)

  -- whether the domain lets a vote of p reach q
  abbrev reaches : Domain → Bool
  reaches d = (covers kinds.Idle q d && is_software d.coord) && has_member d.members p

  vote_stays : (m : ℕ) → m ≢ p → vote_of voted m ≡ vote_of S m
  vote_stays m ne = get_or-set_other S.votes p m v running ne

  gathered_same : (k : ℕ) (ms : List ℕ) → has_member ms p ≡ false → list_all (λ m. nat_le k (vote_of S m).state) ms ≡ list_all (λ m. nat_le k (vote_of voted m).state) ms
  gathered_same k [] e = refl
  gathered_same k (m ∷ ms) e =
      let first : (m == p) ≡ false = or_first (m == p) (has_member ms p) e in
      let here : vote_of voted m ≡ vote_of S m = vote_stays m (differ m first) in
      let later : list_all (λ m. nat_le k (vote_of S m).state) ms ≡ list_all (λ m. nat_le k (vote_of voted m).state) ms = gathered_same k ms (or_second (m == p) (has_member ms p) e) in
      ap (λ (w : Vote). nat_le k w.state && list_all (λ m. nat_le k (vote_of S m).state) ms) (sym here) ∙ ap (λ b. nat_le k (vote_of voted m).state && b) later
    where
      differ : (m : ℕ) → (m == p) ≡ false → m ≢ p
      differ m e = grind (arith, nat_tests)

  same_one : (j : ℕ) (d : Domain) → reaches d ≡ false → (not (governs q j d) || is_gathered S d) ≡ (not (governs q j d) || is_gathered voted d)
  same_one j d e = step (covers kinds.Idle q d && is_software d.coord) e
    where
      step : (b : Bool) → (b && has_member d.members p) ≡ false → (not (b && (state_of d == j)) || is_gathered S d) ≡ (not (b && (state_of d == j)) || is_gathered voted d)
      step false e = refl
      step true e = ap (λ g. not (state_of d == j) || g) (gathered_same (state_of d) d.members e)

  same_all : (j : ℕ) (ds : List Domain) → list_any reaches ds ≡ false
      → list_all (λ d. not (governs q j d) || is_gathered S d) ds ≡ list_all (λ d. not (governs q j d) || is_gathered voted d) ds
  same_all j [] e = refl
  same_all j (d ∷ ds) e =
      ap (λ b. b && list_all (λ d. not (governs q j d) || is_gathered S d) ds) (same_one j d (or_first (reaches d) (list_any reaches ds) e))
      ∙ ap (λ b. (not (governs q j d) || is_gathered voted d) && b) (same_all j ds (or_second (reaches d) (list_any reaches ds) e))

  c_state_same : list_any reaches P.domains ≡ false → c_state P S q ≡ c_state P voted q
  c_state_same e =
      greatest-agree (may_enter P S q) (may_enter P voted q) (vote_of S q).state (λ j le. same_all j P.domains e)
      ∙ ap (λ (w : Vote). greatest (may_enter P voted q) w.state) (sym (vote_stays q other))

  -- who comes along is in the group of who votes
  grouped : c_state P S q < c_state P voted q → has_member (group_at P (group_of P p)).members q ≡ true
  grouped deeper = step (list_any reaches P.domains) refl
    where
      step : (b : Bool) → list_any reaches P.domains ≡ b → has_member (group_at P (group_of P p)).members q ≡ true
      step false e = let same = c_state_same e in absurd (omega (arith, same, deeper))
      step true e =
          let place = first_place reaches P.domains no_domain e in
          let x = domain_at P place.0 in
          let first = and_first (covers kinds.Idle q x && is_software x.coord) (has_member x.members p) place.2 in
          let covered = and_first (covers kinds.Idle q x) (is_software x.coord) first in
          let link : is_link x ≡ true = and_both (is_idle x.kind) (is_software x.coord) (idle_kind x.kind ∙ and_first (same_kind x.kind kinds.Idle) (has_member x.members q) covered)
          (and_second (covers kinds.Idle q x) (is_software x.coord) first) in
          (P.orderly.together place.0 no_domain place.1 p q link (and_second (covers kinds.Idle q x && is_software x.coord) (has_member x.members p) place.2)
          (and_second (same_kind x.kind kinds.Idle) (has_member x.members q) covered)).1

-- # The operations of an idle request

module _ (P : Plan) (S : State) (p s t q : ℕ) (other : q ≢ p) where
  abbrev left : State
  left = changed P S (Idle p s t)

  entered_own : (kind : IdleKind) (c : ℕ) (x : Composite) (y : Composite) → Contains (own_entry kind c (op.Enter p y)) (op.Enter q x) → ⊥
  entered_own Lpi c x y (zero, lt, e) = other (let same : q ≡ p = cc in same)
  entered_own Lpi c x y (suc k, lt, e) = absurd (omega arith)
  entered_own Absent c x y (k, lt, e) = absurd (omega arith)
  entered_own Cst c x y h = step (c == 0) h
    where
      step : (b : Bool) → Contains (cond b [] (op.Enter p y ∷ [])) (op.Enter q x) → ⊥
      step true (k, lt, e) = absurd (omega arith)
      step false (zero, lt, e) = other (let same : q ≡ p = cc in same)
      step false (suc k, lt, e) = absurd (omega arith)

  drawn_from : (x : Composite) → Contains (idle_ops P S left p) (op.Enter q x) → ComesAlong P S left q × (x ≡ composite_of P q (states_of P left q))
  drawn_from x h = by (Contains-append_cases (own_entry (cpu_at P p).idle.kind (c_state P left p) (enter P left p)) (map (enter P left) (drawn_with P S left p)) (op.Enter q x) h)
    where
      by : Contains (own_entry (cpu_at P p).idle.kind (c_state P left p) (enter P left p)) (op.Enter q x) ⊎ Contains (map (enter P left) (drawn_with P S left p)) (op.Enter q x)
          → ComesAlong P S left q × (x ≡ composite_of P q (states_of P left q))
      by (inl own) = absurd (entered_own (cpu_at P p).idle.kind (c_state P left p) x (composite_of P p (states_of P left p)) own)
      by (inr along) =
          let m = in_map (enter P left) (drawn_with P S left p) (op.Enter q x) along in
          let is : m.0 ≡ q = same_cpu m.0 (composite_of P m.0 (states_of P left m.0)) m.2 in
          let what : composite_of P m.0 (states_of P left m.0) ≡ x = same_composite m.0 (composite_of P m.0 (states_of P left m.0)) m.2 in
          let drawn = and_second (not (m.0 == p)) (is_drawn P S left m.0) (filter_passes (λ r. not (r == p) && is_drawn P S left r) (group_at P (group_of P p)).members m.0 m.1) in (
            comes_from P S left q (ap (is_drawn P S left) (sym is) ∙ drawn),
            sym what ∙ ap (λ r. composite_of P r (states_of P left r)) is,
          )
        where
          same_cpu : (r : ℕ) (y : Composite) → op.Enter r y ≡ op.Enter q x → r ≡ q
          same_cpu r y e = cc

          same_composite : (r : ℕ) (y : Composite) → op.Enter r y ≡ op.Enter q x → y ≡ x
          same_composite r y e = cc

  drawn_by : (x : Composite) → ComesAlong P S left q → x ≡ composite_of P q (states_of P left q) → Contains (idle_ops P S left p) (op.Enter q x)
  drawn_by x h is =
      let passes : (not (q == p) && is_drawn P S left q) ≡ true = and_both (not (q == p)) (is_drawn P S left q) (ap not differ) (comes_by P S left q h) in
      let drawn : Contains (drawn_with P S left p) q = passes_filter (λ r. not (r == p) && is_drawn P S left r) (group_at P (group_of P p)).members q (grouped P S p (idling s t) q other h.deeper)
      passes in
      rw is (Contains-append_right (own_entry (cpu_at P p).idle.kind (c_state P left p) (enter P left p)) (map (enter P left) (drawn_with P S left p))
      (op.Enter q (composite_of P q (states_of P left q))) (map_in (enter P left) (drawn_with P S left p) q drawn))
    where
      differ : (q == p) ≡ false
      differ = grind (arith, nat_tests)

  pub along_from : (x : Composite) → Contains (ops_of P S (Idle p s t)) (op.Enter q x)
      → ComesAlong P S (after P S (Idle p s t)) q × (x ≡ composite_of P q (states_of P (after P S (Idle p s t)) q))
  unfolding after ops_of accepted_ops
  along_from x h = step (refusal P S (Idle p s t)) h
    where
      step : (r : Option Reply) → Contains (if_accepted r (λ reply. []) (idle_ops P S left p)) (op.Enter q x)
          → ComesAlong P S (if_accepted r (λ reply. S) left) q × (x ≡ composite_of P q (states_of P (if_accepted r (λ reply. S) left) q))
      step None h = drawn_from x h
      step (Some reply) (k, lt, e) = absurd (omega arith)

  pub along_by : (x : Composite) → ComesAlong P S (after P S (Idle p s t)) q → x ≡ composite_of P q (states_of P (after P S (Idle p s t)) q)
      → Contains (ops_of P S (Idle p s t)) (op.Enter q x)
  unfolding after ops_of accepted_ops
  along_by x h is = step (refusal P S (Idle p s t)) h is
    where
      step : (r : Option Reply) → ComesAlong P S (if_accepted r (λ reply. S) left) q → x ≡ composite_of P q (states_of P (if_accepted r (λ reply. S) left) q)
          → Contains (if_accepted r (λ reply. []) (idle_ops P S left p)) (op.Enter q x)
      step None h is = drawn_by x h is
      step (Some reply) h is = let deeper = h.deeper in absurd (omega (arith, deeper))
