-- Lists of steps that lead from one machine to another, and those of one request while nobody else holds a turn.
use Rattle.std.proofs.Common.{◌≡◌, ◌≢◌, ℕ, ◌<◌, List, [], ◌∷◌, ◌++◌, false, length, get_or, set, sym, refl, ap, ◌∙◌, subst, arith, length-set}
use mathlib.Core.Option.{some, some-injective}
use mathlib.Core.Logic.{dite}
use native.Mathlib.Decide.{ℕ_discrete}
use lib.ListN.{get_elem?}
use Rattle.std.specs.List.{AllByRecursion}
use Rattle.pw_plan.proofs.Lists.{each_append}
use Rattle.pw_model.specs.Records.{record_count}
use Rattle.pw_machine.specs.declared.view.View.{View}
use Rattle.pw_machine.specs.Machine.{Machine, Invariant, count_held, holds, leads, seat_number}
use Rattle.pw_books.specs.Sums.{bit}
use Rattle.pw_machine.specs.Steps.{Kind, May, after, take_record}
use Rattle.pw_machine.specs.Law.{Steps}
use Rattle.pw_books.proofs.Lists.{elem_below, set_else, set_here}
use Rattle.pw_books.proofs.Turns.{holder}
use Rattle.pw_machine.proofs.Keeps.{step_keeps}

-- # Paths

abbrev pub Path : Machine → Machine → Type 0
Path m end = (steps : List (ℕ × View × Kind)) × Steps m steps end

abbrev pub stay : (m : Machine) → Path m m
stay m = ([], refl)

pub joins : (m n end : Machine) (a b : List (ℕ × View × Kind)) → Steps m a n → Steps n b end → Steps m (a ++ b) end
joins m n end [] b e f = subst (λ x. Steps x b end) (sym e) f
joins m n end (s ∷ ss) b e f = (e.0, e.1, joins (after m s.0 s.1 s.2) n end ss b e.2 f)

abbrev pub then_path : (m n end : Machine) → Path m n → Path n end → Path m end
then_path m n end p q = (p.0 ++ q.0, joins m n end p.0 q.0 p.1 q.1)

abbrev pub one_step : (m : Machine) (j : ℕ) (v : View) (k : Kind) → get_elem? m.views j ≡ some v → May m j v k → Path m (after m j v k)
one_step m j v k at may = ((j, v, k) ∷ [], (at, may, refl))

pub path_keeps : (m : Machine) (steps : List (ℕ × View × Kind)) (end : Machine) → Invariant m → Steps m steps end → Invariant end
path_keeps m [] end i e = subst Invariant e i
path_keeps m (s ∷ ss) end i e = path_keeps (after m s.0 s.1 s.2) ss end (step_keeps m s.0 s.1 s.2 i e.0 e.1) e.2

-- what was given to open stays
pub step_given : (m : Machine) (j : ℕ) (v : View) (k : Kind) → (after m j v k).given ≡ m.given
step_given m j v (take_record t q x) = refl
step_given m j v k = refl

pub kept : (m : Machine) (steps : List (ℕ × View × Kind)) (end : Machine) → Steps m steps end → end.given ≡ m.given
kept m [] end e = ap (λ (x : Machine). x.given) (sym e)
kept m (s ∷ ss) end e = kept (after m s.0 s.1 s.2) ss end e.2 ∙ step_given m s.0 s.1 s.2

-- # Who else holds nothing

abbrev pub Quiet : Machine → ℕ → Type 0
Quiet m j = (k : ℕ) (u : View) → k ≢ j → get_elem? m.views k ≡ some u → (u.held ≡ []) × (u.leads ≡ false)

-- the other views are as they were
abbrev pub Others : Machine → Machine → ℕ → Type 0
Others m n j = (k : ℕ) → k ≢ j → get_elem? n.views k ≡ get_elem? m.views k

pub quiet_still : (m n : Machine) (j : ℕ) → Quiet m j → Others m n j → Quiet n j
quiet_still m n j quiet same k u ne there = quiet k u ne (sym (same k ne) ∙ there)

module _ (m : Machine) (i : Invariant m) (j : ℕ) (v : View) (at : get_elem? m.views j ≡ some v) (quiet : Quiet m j) where
  -- what this seat doesn't hold is free
  pub record_free : (t : ℕ) → t < record_count m.given.plan → count_held t v.held ≡ 0 → get_or m.turns t 0 ≡ 0
  record_free t low none = dite (ℕ_discrete (get_or m.turns t 0) 0) (λ z. z) (λ ne.
      let r = holder seat_number (get_or m.turns t 0) (holds t) m.views (i.turns.holders t low) ne in
      dite (ℕ_discrete r.0 j)
      (λ e. absurd (let same : r.1 ≡ v = some-injective r.1 v (sym r.2 ∙ (ap (λ k. get_elem? m.views k) e ∙ at)) in let none2 : count_held t r.1.held ≡ 0 = ap (λ (u : View). count_held t u.held) same
      ∙ none in omega (arith, r.3, none2)))
      (λ far. absurd (let z : count_held t r.1.held ≡ 0 = ap (count_held t) (quiet r.0 r.1 far r.2).0 in omega (arith, r.3, z))))

  pub journal_free : v.leads ≡ false → m.journal ≡ 0
  journal_free none = dite (ℕ_discrete m.journal 0) (λ z. z) (λ ne.
      let r = holder seat_number m.journal leads m.views i.turns.leader ne in
      dite (ℕ_discrete r.0 j)
      (λ e. absurd (let same : r.1 ≡ v = some-injective r.1 v (sym r.2 ∙ (ap (λ k. get_elem? m.views k) e ∙ at)) in let z : bit r.1.leads ≡ 0 = ap (λ (u : View). bit u.leads) same ∙ ap bit none
      in omega (arith, r.3, z)))
      (λ far. absurd (let z : bit r.1.leads ≡ 0 = ap bit (quiet r.0 r.1 far r.2).1 in omega (arith, r.3, z))))

-- the step is one of seat j
abbrev pub IsOf : ℕ → (ℕ × View × Kind) → Type 0
IsOf j s = s.0 ≡ j

-- # The view w stands at j after the steps, and all else that is said of the machine stayed

pub record Leads (m end : Machine) (j : ℕ) (w : View) : Type 0 where
  pub path : Path m end
  -- the steps are those of seat j
  pub own : AllByRecursion (IsOf j) path.0
  pub there : get_elem? end.views j ≡ some w
  pub others : Others m end j
  pub given : end.given ≡ m.given
  pub made : end.made ≡ m.made
  pub wide : length end.views ≡ length m.views

abbrev pub leads_on : (m n end : Machine) (j : ℕ) (v w : View) → Leads m n j v → Leads n end j w → Leads m end j w
leads_on m n end j v w a b = record {
  path = then_path m n end a.path b.path;
  own = each_append (IsOf j) a.path.0 b.path.0 a.own b.own;
  there = b.there;
  others = λ k ne. b.others k ne ∙ a.others k ne;
  given = b.given ∙ a.given;
  made = b.made ∙ a.made;
  wide = b.wide ∙ a.wide;
}

-- no step
abbrev pub at_once : (m : Machine) (j : ℕ) (w : View) → get_elem? m.views j ≡ some w → Leads m m j w
at_once m j w at = record { path = stay m; own = tt; there = at; others = λ k ne. refl; given = refl; made = refl; wide = refl }

-- one step of the view at j, after which it is w
abbrev pub once : (m : Machine) (j : ℕ) (v w : View) (k : Kind) → get_elem? m.views j ≡ some v → May m j v k
    → (after m j v k).views ≡ set m.views j w → (after m j v k).made ≡ m.made → Leads m (after m j v k) j w
once m j v w k at may views made = record {
  path = one_step m j v k at may;
  own = (refl, tt);
  there = ap (λ l. get_elem? l j) views ∙ set_here m.views j w (elem_below m.views j v at);
  others = λ p ne. ap (λ l. get_elem? l p) views ∙ set_else m.views j p w ne;
  given = step_given m j v k;
  made = made;
  wide = ap (length {A = View}) views ∙ length-set m.views j w;
}

pub once_length : (m : Machine) (j : ℕ) (v w : View) (k : Kind) (at : get_elem? m.views j ≡ some v) (may : May m j v k) (views : (after m j v k).views ≡ set m.views j w) (made : (after m j v k).made
    ≡ m.made)
    → length (once m j v w k at may views made).path.0 ≡ 1
once_length m j v w k at may views made = refl
