-- A walk stands at records of the plan, whatever was noted.
use Rattle.std.proofs.Common.{◌≡◌, ◌<◌, ◌≤◌, ◌+◌, ◌==◌, ◌&&◌, not, ℕ, suc, Bool, true, false, cond, List, [], ◌∷◌, length, Option, Some, None, refl, sym, ◌∙◌, ap, subst, arith, nat_lt, length-append}
use Rattle.std.proofs.lemmas.Bool.Decides.{nat_tests}
use Rattle.std.specs.List.{AllByRecursion}
use Rattle.acpi_values.specs.declared.idle.IdleKind.{IdleKind}
use Rattle.acpi_values.specs.declared.idle.IdleKind.TheVariants.{Lpi, Cst, Absent}
use Rattle.acpi_values.specs.declared.operation.Op.{Op}
use Rattle.pw_plan.specs.declared.domain.Child.TheVariants.{Cpu, Container}
use Rattle.pw_plan.specs.declared.plan.Plan.{Plan}
use Rattle.pw_plan.specs.declared.request.Request.{Request}
use Rattle.pw_plan.specs.declared.request.Request.TheVariants.{Idle, Wake, Perf, Throttle, PerfLimit, ThrottleLimit}
use Rattle.pw_plan.specs.Places.{container_at, cpu_at, group_of}
use Rattle.pw_plan.specs.Requests.{Has}
use Rattle.pw_plan.specs.Tree.{line_from}
use Rattle.pw_model.specs.declared.reply.Reply.{Reply}
use Rattle.pw_model.specs.declared.state.Vote.{Vote}
use Rattle.pw_model.specs.Containers.{ancestors, node_vote}
use Rattle.pw_model.specs.Refusals.{fixed_refusal}
use Rattle.pw_model.specs.Answers.{if_accepted}
use Rattle.pw_model.specs.Operations.{own_entry}
use Rattle.pw_model.specs.Effects.{both_run, enter_c, votes_in, votes_with}
use Rattle.pw_model.specs.Records.{IsRecord, Part, reach, records_among}
use Rattle.pw_model.proofs.Lines.{Below, IsLine, line_is, starts}
use Rattle.pw_model.proofs.Ways.{has_way}
use Rattle.pw_machine.specs.declared.view.Held.{Held}
use Rattle.pw_machine.specs.Standing.{Stands, WalksStand, own_vote}
use Rattle.pw_machine.specs.Walk.{Walk, begins_at, climb_on, climbed, climbing, grouped, over, chain_with, scaled, start, step, vote_begins, walk_from, vote_reply}

module _ (P : Plan) where
  -- # The line from a container

  same_line : (from : Option ℕ) (xs ys : List ℕ) → IsLine P from xs → IsLine P from ys → xs ≡ ys
  same_line from [] [] a b = refl
  same_line from [] (y ∷ ys) a b = let e : None ≡ Some y = sym a ∙ b.0 in absurd (cc)
  same_line from (x ∷ xs) [] a b = let e : None ≡ Some x = sym b ∙ a.0 in absurd (cc)
  same_line from (x ∷ xs) (y ∷ ys) a b =
      let f : Some x ≡ Some y = sym a.0 ∙ b.0 in
      let e : x ≡ y = cc in
      let there = subst (λ k. IsLine P (container_at P k).parent ys) (sym e) b.1 in
      let rest = same_line (container_at P x).parent xs ys a.1 there in
      ap (λ l. x ∷ l) rest ∙ ap (λ k. k ∷ ys) e

  line_of : (from : Option ℕ) → Below (length P.containers) from → IsLine P from (line_from P.containers from)
  line_of from b = line_is P (length P.containers) from b b

  goes_on : (n : ℕ) → n < length P.containers
      → line_from P.containers (Some n) ≡ n ∷ line_from P.containers (container_at P n).parent
  goes_on n lt =
      let up : Below (length P.containers) (container_at P n).parent =
      λ j e. let a = P.sound.tree.falls n j lt e in omega (arith, a, lt) in
      same_line (Some n) _ _ (line_of (Some n) (λ k e. let i : n ≡ k = cc in omega (arith, lt, i)))
      (refl, line_of (container_at P n).parent up)

  one_longer : (b : Bool) (ss : List ℕ) (s : ℕ) → length (chain_with b ss s) ≤ suc (length ss)
  one_longer true ss s = let e = length-append ss (s ∷ []) in omega (arith, e)
  one_longer false ss s = omega arith

  -- # Steps

  module _ (q : Request) where
    climbs : (n : ℕ) (vs : List Vote) (ss : List ℕ) (rising : Bool) → n < length P.containers
        → length ss + length (line_from P.containers (container_at P n).parent) ≤ 9
        → fixed_refusal P q ≡ None → (from : Option ℕ) → (container_at P n).parent ≡ from
        → Stands P q (climb_on P q (Container n) (node_vote P n vs) ss rising from)
    climbs n vs ss rising lt room acc None e = tt
    climbs n vs ss rising lt room acc (Some m) e =
        let low = P.sound.tree.falls n m lt e in
        record {
          accepted = acc;
          exists = omega (arith, low, lt);
          inside = lt;
          parent = e;
          voted = (vs, refl);
          room = subst (λ f. length ss + length (line_from P.containers f) ≤ 9) e room;
        }

    on_or_over : (b : Bool) (w : Walk) (ss : List ℕ) → Stands P q w → Stands P q (cond b (climbed P q ss) w)
    on_or_over true w ss h = tt
    on_or_over false w ss h = h

    steps : (w : Walk) (x : Part) → Stands P q w → Stands P q (step P q w x)
    steps (over reply ops) x h = tt
    steps (scaled d) x h = tt
    steps (grouped g) x h = tt
    steps (climbing n c v ss rising) x h =
        let old = votes_in x in
        let new = votes_with P n c v old in
        let w = node_vote P n new in
        let goes = rising && not (w.state == 0) in
        let up = (container_at P n).parent in
        let longer = one_longer goes ss w.state in
        let was : length ss + length (n ∷ line_from P.containers up) ≤ 9 =
        subst (λ l. length ss + length l ≤ 9) (goes_on n h.exists) h.room in
        let states = chain_with goes ss w.state in
        on_or_over (both_run (node_vote P n old) w) (climb_on P q (Container n) w states goes up) states
        (climbs n new states goes h.exists (omega (arith, longer, was)) h.accepted up refl)

    stands_from : (w : Walk) (hs : List Held) → Stands P q w → Stands P q (walk_from P q w hs)
    stands_from w [] h = h
    stands_from w (k ∷ hs) h = stands_from (step P q w k.noted) hs (steps w k.noted h)

  -- # Beginnings

  module _ (q : Request) (acc : fixed_refusal P q ≡ None) where
    at_group : (p : ℕ) (b : Bool) (reply : Reply) (ops : List Op) → nat_lt (group_of P p) (length P.groups) ≡ b
        → begins_at P q ≡ cond b (grouped (group_of P p)) (over reply ops)
        → Stands P q (cond b (grouped (group_of P p)) (over reply ops))
    at_group p true reply ops e first = ((acc, first), grind (arith, nat_tests))
    at_group p false reply ops e first = tt

    upwards : (p : ℕ) → p < length P.cpus → (from : Option ℕ) → (cpu_at P p).parent ≡ from
        → Stands P q (climb_on P q (Cpu p) (own_vote q) ((own_vote q).state ∷ []) true from)
    upwards p lt None e = tt
    upwards p lt (Some n) e =
        let few : length (ancestors P p) ≤ 8 = P.sound.small.depth p in
        let up : length (line_from P.containers (Some n)) ≤ 8 = subst (λ f. length (line_from P.containers f) ≤ 8) e few in
        record { accepted = acc; exists = starts P p lt n e; inside = lt; parent = e; voted = refl; room = omega (arith, up) }

    vote_stands : (p : ℕ) (alone : List Op) → p < length P.cpus → (k : IdleKind)
        → begins_at P q ≡ vote_begins P q p (own_vote q) alone k → Stands P q (vote_begins P q p (own_vote q) alone k)
    vote_stands p alone lt Lpi first = upwards p lt (cpu_at P p).parent refl
    vote_stands p alone lt Cst first =
        at_group p (nat_lt (group_of P p) (length P.groups)) (vote_reply q ((own_vote q).state ∷ [])) alone refl first
    vote_stands p alone lt Absent first = tt

  begins : (q : Request) → Has P q → fixed_refusal P q ≡ None → AllByRecursion (IsRecord P) (records_among P (ancestors P) q)
      → Stands P q (begins_at P q)
  begins (Idle p s t) has acc a = vote_stands (Idle p s t) acc p (own_entry Cst s (enter_c P p s)) has (cpu_at P p).idle.kind refl
  begins (Wake p) has acc a = vote_stands (Wake p) acc p [] has (cpu_at P p).idle.kind refl
  begins (Perf p i) has acc a = ((acc, refl), a.0)
  begins (Throttle p i) has acc a = ((acc, refl), a.0)
  begins (PerfLimit p n) has acc a = ((acc, refl), a.0)
  begins (ThrottleLimit p n) has acc a = ((acc, refl), a.0)

  stands_first : (q : Request) → Has P q → Stands P q (start P q)
  unfolding reach
  stands_first q has = by (fixed_refusal P q) refl (has_way P q has).exist
    where
      by : (r : Option Reply) → fixed_refusal P q ≡ r
          → AllByRecursion (IsRecord P) (if_accepted r (λ reply. []) (records_among P (ancestors P) q))
          → Stands P q (if_accepted r (λ reply. over reply []) (begins_at P q))
      by None e a = begins q has e a
      by (Some reply) e a = tt

  pub walks_stand : (q : Request) (held : List Held) → Has P q → WalksStand P q held
  walks_stand q held has = stands_from q (start P q) held (stands_first q has)
