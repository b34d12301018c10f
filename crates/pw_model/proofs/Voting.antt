-- What a vote does.
use Rattle.std.proofs.Common.{◌≡◌, ◌≢◌, ◌<◌, ◌≤◌, ◌++◌, ℕ, Bool, true, false, cond, List, [], ◌∷◌, map, length, refl, sym, ◌∙◌, ap, subst, arith, inl, inr, nat_lt}
use Rattle.std.specs.List.{AllByRecursion}
use Rattle.std.proofs.lemmas.List.{get_or-set_same, get_or-set_other}
use Rattle.std.proofs.lemmas.Bool.Decides.{nat_tests}
use Rattle.acpi_values.specs.declared.idle.IdleKind.{IdleKind}
use Rattle.acpi_values.specs.declared.idle.IdleKind.TheVariants.{Lpi, Cst, Absent}
use Rattle.acpi_values.specs.declared.operation.Op.TheVariants as op
use Rattle.pw_plan.specs.declared.domain.Child.TheVariants.{Cpu}
use Rattle.pw_plan.specs.declared.plan.Plan.{Plan}
use Rattle.pw_plan.specs.Groups.{has_member}
use Rattle.pw_plan.specs.Places.{cpu_at, domain_at, group_at, group_of}
use Rattle.pw_model.specs.declared.state.Change.TheVariants as changes
use Rattle.pw_model.specs.declared.state.State.{State}
use Rattle.pw_model.specs.declared.state.Vote.{Vote}
use Rattle.pw_model.specs.States.{running, vote_of, with_change}
use Rattle.pw_model.specs.Answers.{states_along, states_by, states_of}
use Rattle.pw_model.specs.Composites.{composite_of}
use Rattle.pw_model.specs.Containers.{ancestors, child_vote, seen_by_kind}
use Rattle.pw_model.specs.Domains.{c_state}
use Rattle.pw_model.specs.Operations.{drawn_with, enter, idle_ops, own_entry}
use Rattle.pw_model.proofs.Maps.{map_agree}
use Rattle.pw_model.specs.inner.Wired.{IsWired}
use Rattle.pw_model.specs.Records.{Record, container, domain, group, Part, votes, states, part_of, state_of_vote, group_records, records_by, runs_in_both, through, vote_records}
use Rattle.pw_model.specs.Effects.{Rung, Taken, c_state_by, c_state_with, enter_c, group_takes, ops_after, rung_taken, rungs, states_after, states_in, states_up, states_with, takes_by, takes_in, vote_takes, drawn_ops}
use Rattle.pw_model.specs.Effects.{drawn_with as drawn_by_part}
use Rattle.pw_model.proofs.Climbs.{along_is, climb_of, off, rung, unseen}
use Rattle.pw_model.specs.Numbers.{IsIn}
use Rattle.pw_model.proofs.Gathered.{c_state_alone, c_state_is, drawn_is, enter-Cst, group_member, in_plan, none_drawn, ungrouped}
use Rattle.pw_model.proofs.Levels.{set_place, spared}
use Rattle.pw_model.proofs.Lines.{Among}
use Rattle.pw_model.proofs.Standings.{each_member}

-- From state S to T these records have these new parts, and no other changes.
pub record Moves (P : Plan) (S T : State) (places : List Record) (ts : List Taken) : Type 0 where
  pub takes : places ≡ takes_in ts
  pub parts : AllByRecursion (λ (t : Taken). part_of P T t.place ≡ t.part) ts
  pub rest : (r : Record) → (IsIn r (takes_in ts) → ⊥) → part_of P T r ≡ part_of P S r

module _ (P : Plan) (wired : IsWired P) (p : ℕ) (exists : p < length P.cpus) (S : State) (long : p < length S.votes) (v : Vote) where
  abbrev T : State
  T = with_change S (changes.Vote p v)

  abbrev F : Record → Part
  F = part_of P S

  abbrev R : List ℕ
  R = through (runs_in_both P S T) (ancestors P p)

  own : vote_of T p ≡ v
  own = get_or-set_same S.votes p v running long

  own_state : state_of_vote T p ≡ v.state
  own_state = ap (λ (w : Vote). w.state) own

  -- # Groups and domains

  group_set : (g : ℕ) → part_of P T (group g) ≡ states (states_with (group_at P g).members p v.state (states_in (part_of P S (group g))))
  group_set g =
      ap (λ ss. states ss) (set_place (state_of_vote S) (state_of_vote T) (group_at P g).members p v.state (wired.grouped g p) own_state
      (λ q ne. ap (λ (w : Vote). w.state) (get_or-set_other S.votes p q v running ne)))

  group_rest : (g : ℕ) → (has_member (group_at P g).members p ≡ true → ⊥) → part_of P T (group g) ≡ part_of P S (group g)
  group_rest g out =
      ap (λ ss. states ss) (map_agree (λ q. q ≢ p) (state_of_vote T) (state_of_vote S) (λ q ne. ap (λ (w : Vote). w.state) (get_or-set_other S.votes p q v running ne)) (group_at P g).members
      (each_member (λ q. q ≢ p) (group_at P g).members (λ q on e. out (ap (has_member (group_at P g).members) (sym e) ∙ on))))

  domain_rest : (d : ℕ) → part_of P T (domain d) ≡ part_of P S (domain d)
  domain_rest d = spared (domain_at P d).kind (domain_at P d).members S (changes.Vote p v) (λ q on. tt)

  -- # Containers

  seen : (cpu_at P p).idle.kind ≡ Lpi → child_vote P T (Cpu p) ≡ v
  seen e = ap (λ k. seen_by_kind k (vote_of T p)) e ∙ own

  rungs_are : (cpu_at P p).idle.kind ≡ Lpi → rungs P F p v ≡ map (rung P wired p exists S v) R
  rungs_are e = climb_of P wired p exists S v (seen e)

  rung_places : (ns : List ℕ) → takes_in (map rung_taken (map (rung P wired p exists S v) ns)) ≡ map container ns
  rung_places [] = refl
  rung_places (n ∷ ns) = ap (λ rs. container n ∷ rs) (rung_places ns)

  rung_parts : (ns : List ℕ) → AllByRecursion (λ (t : Taken). part_of P T t.place ≡ t.part) (map rung_taken (map (rung P wired p exists S v) ns))
  rung_parts [] = tt
  rung_parts (n ∷ ns) = (refl, rung_parts ns)

  among_in : (n : ℕ) (ns : List ℕ) → Among n ns → IsIn (container n) (map container ns)
  among_in n [] h = absurd h
  among_in n (m ∷ ns) (inl e) = inl (ap (λ k. container k) e)
  among_in n (m ∷ ns) (inr h) = inr (among_in n ns h)

  -- # All records, by the kind of the processor's table

  Lpi_moves : (cpu_at P p).idle.kind ≡ Lpi → Moves P S T (map container R) (map rung_taken (rungs P F p v))
  Lpi_moves e = record {
    takes = places;
    parts = subst (λ (rs : List Rung). AllByRecursion (λ (t : Taken). part_of P T t.place ≡ t.part) (map rung_taken rs)) (sym (rungs_are e)) (rung_parts R);
    rest = λ r out. rest r (λ h. out (subst (IsIn r) places h));
  }
    where
      places : map container R ≡ takes_in (map rung_taken (rungs P F p v))
      places = sym (rung_places R) ∙ ap (λ rs. takes_in (map rung_taken rs)) (sym (rungs_are e))

      rest : (r : Record) → (IsIn r (map container R) → ⊥) → part_of P T r ≡ part_of P S r
      rest (container n) out = ap (λ vs. votes vs) (off P wired p exists S v n (λ a. out (among_in n R a)))
      rest (domain d) out = domain_rest d
      rest (group g) out = group_rest g (λ on. let k = wired.kind g p (in_plan P wired g p on) on in cc)

  -- a vote that containers don't see
  quiet : (child_vote P T (Cpu p) ≡ child_vote P S (Cpu p)) → (n : ℕ) → part_of P T (container n) ≡ part_of P S (container n)
  quiet same n = ap (λ vs. votes vs) (unseen P wired p exists S v same n)

  Cst_moves : (cpu_at P p).idle.kind ≡ Cst → Moves P S T (group_records P p) (group_takes P F p v.state)
  Cst_moves e = step (nat_lt (group_of P p) (length P.groups)) refl
    where
      taken : Taken
      taken = record { place = group (group_of P p); part = states (states_with (group_at P (group_of P p)).members p v.state (states_in (F (group (group_of P p))))) }

      containers : (n : ℕ) → part_of P T (container n) ≡ part_of P S (container n)
      containers n = quiet (ap (λ k. seen_by_kind k (vote_of T p)) e ∙ sym (ap (λ k. seen_by_kind k (vote_of S p)) e)) n

      in_it : (b : Bool) → nat_lt (group_of P p) (length P.groups) ≡ b → (g : ℕ) → has_member (group_at P g).members p ≡ true → IsIn (group g) (takes_in (cond b (taken ∷ []) []))
      in_it true h g on = inl (ap (λ k. group k) (sym (wired.one_group g p (in_plan P wired g p on) on)))
      in_it false h g on =
          let lt = in_plan P wired g p on in
          let same : group_of P p ≡ g = wired.one_group g p lt on in
          absurd (grind (arith, nat_tests))

      rest : (b : Bool) → nat_lt (group_of P p) (length P.groups) ≡ b → (r : Record) → (IsIn r (takes_in (cond b (taken ∷ []) [])) → ⊥) → part_of P T r ≡ part_of P S r
      rest b h (container n) out = containers n
      rest b h (domain d) out = domain_rest d
      rest b h (group g) out = group_rest g (λ on. out (in_it b h g on))

      step : (b : Bool) → nat_lt (group_of P p) (length P.groups) ≡ b → Moves P S T (cond b (group (group_of P p) ∷ []) []) (cond b (taken ∷ []) [])
      step true h = record { takes = refl; parts = (group_set (group_of P p), tt); rest = rest true h }
      step false h = record { takes = refl; parts = tt; rest = rest false h }

  Absent_moves : (cpu_at P p).idle.kind ≡ Absent → Moves P S T [] []
  Absent_moves e = record { takes = refl; parts = tt; rest = λ r out. rest r }
    where
      rest : (r : Record) → part_of P T r ≡ part_of P S r
      rest (container n) = quiet (ap (λ k. seen_by_kind k (vote_of T p)) e ∙ sym (ap (λ k. seen_by_kind k (vote_of S p)) e)) n
      rest (domain d) = domain_rest d
      rest (group g) = group_rest g (λ on. let k = wired.kind g p (in_plan P wired g p on) on in cc)

  moves_by : (k : IdleKind) → (cpu_at P p).idle.kind ≡ k → Moves P S T (records_by k (map container R) (group_records P p)) (takes_by k (map rung_taken (rungs P F p v)) (group_takes P F p v.state))
  moves_by Lpi e = Lpi_moves e
  moves_by Cst e = Cst_moves e
  moves_by Absent e = Absent_moves e

  pub vote_moves : Moves P S T (vote_records P p R) (vote_takes P F p v)
  vote_moves = moves_by (cpu_at P p).idle.kind refl

  -- # Answers and operations

  c_state_after : c_state P T p ≡ c_state_with P F p v.state
  c_state_after = step (nat_lt (group_of P p) (length P.groups)) refl
    where
      step : (b : Bool) → nat_lt (group_of P p) (length P.groups) ≡ b
          → c_state P T p ≡ cond b (c_state_by P (group_at P (group_of P p)).members (states_with (group_at P (group_of P p)).members p v.state (states_in (F (group (group_of P p))))) p) v.state
      step true h =
          let lt : group_of P p < length P.groups = grind (arith, nat_tests) in
          c_state_is P wired T (group_of P p) lt p (group_member P wired p lt) ∙ ap (λ x. c_state_by P (group_at P (group_of P p)).members (states_in x) p) (group_set (group_of P p))
      step false h =
          let le : length P.groups ≤ group_of P p = grind (arith, nat_tests) in
          c_state_alone P wired T p le ∙ own_state

  drawn_after : map (enter P T) (drawn_with P S T p) ≡ drawn_by_part P F p v.state
  drawn_after = step (nat_lt (group_of P p) (length P.groups)) refl
    where
      step : (b : Bool) → nat_lt (group_of P p) (length P.groups) ≡ b
          → map (enter P T) (drawn_with P S T p)
          ≡ cond b (drawn_ops P (group_at P (group_of P p)).members (states_in (F (group (group_of P p)))) (states_with (group_at P (group_of P p)).members p v.state
          (states_in (F (group (group_of P p))))) p) []
      step true h =
          let lt : group_of P p < length P.groups = grind (arith, nat_tests) in
          drawn_is P wired S T p lt ∙ ap (λ x. drawn_ops P (group_at P (group_of P p)).members (map (state_of_vote S) (group_at P (group_of P p)).members) (states_in x) p) (group_set (group_of P p))
      step false h =
          let le : length P.groups ≤ group_of P p = grind (arith, nat_tests) in
          ap (map (enter P T)) (none_drawn P wired S T p le)

  states_by_is : (k : IdleKind) → (cpu_at P p).idle.kind ≡ k → (k ≡ Absent → ⊥) → states_by k (c_state P T p ∷ []) ((vote_of T p).state ∷ states_along P T (ancestors P p)) ≡ states_after k P F p v
  states_by_is Lpi e some =
      ap (λ s. s ∷ states_along P T (ancestors P p)) own_state
      ∙ ap (λ ss. v.state ∷ ss) (sym (ap (states_up P) (rungs_are e) ∙ along_is P wired p exists S v (ancestors P p)))
  states_by_is Cst e some = ap (λ c. c ∷ []) c_state_after
  states_by_is Absent e some = absurd (some refl)

  ops_by_is : (k : IdleKind) → (cpu_at P p).idle.kind ≡ k → (k ≡ Absent → ⊥) → own_entry k (c_state P T p) (enter P T p) ++ map (enter P T) (drawn_with P S T p) ≡ ops_after k P F p v
  ops_by_is Lpi e some =
      let chain : states_of P T p ≡ states_after Lpi P F p v = ap (λ k. states_by k (c_state P T p ∷ []) ((vote_of T p).state ∷ states_along P T (ancestors P p))) e ∙ states_by_is Lpi e some in
      ap (λ qs. (enter P T p ∷ []) ++ map (enter P T) qs) (none_drawn P wired S T p (ungrouped P wired p (λ k. cc)))
      ∙ ap (λ ss. op.Enter p (composite_of P p ss) ∷ []) chain
  ops_by_is Cst e some =
      ap (λ o. own_entry Cst (c_state P T p) o ++ map (enter P T) (drawn_with P S T p)) (enter-Cst P wired T p e)
      ∙ ap (λ c. own_entry Cst c (enter_c P p c) ++ map (enter P T) (drawn_with P S T p)) c_state_after
      ∙ ap (λ os. own_entry Cst (c_state_with P F p v.state) (enter_c P p (c_state_with P F p v.state)) ++ os) drawn_after
  ops_by_is Absent e some = absurd (some refl)

  pub states_is : ((cpu_at P p).idle.kind ≡ Absent → ⊥) → states_of P T p ≡ states_after (cpu_at P p).idle.kind P F p v
  states_is some = states_by_is (cpu_at P p).idle.kind refl some

  pub ops_is : ((cpu_at P p).idle.kind ≡ Absent → ⊥) → idle_ops P S T p ≡ ops_after (cpu_at P p).idle.kind P F p v
  ops_is some = ops_by_is (cpu_at P p).idle.kind refl some
