-- The records' turns as a step changes them, and lists of what is held.
use Rattle.std.proofs.Common.{◌≡◌, ◌≢◌, ℕ, ◌+◌, ◌<◌, List, [], ◌∷◌, ◌++◌, Bool, true, false, length, get_or, set, cond, eqb, eq-eqb, ne_eqb, sym, refl, ap, ◌∙◌, subst, ⊎_elim, arith, get_or-set_same, get_or-set_other}
use mathlib.Core.Option.{some}
use mathlib.Core.Logic.{dite}
use native.Mathlib.Decide.{ℕ_discrete}
use lib.ListN.{get_elem?}
use Rattle.pw_plan.specs.declared.plan.Plan.{Plan}
use Rattle.pw_model.specs.declared.state.State.{State}
use Rattle.pw_model.specs.Records.{Part}
use Rattle.pw_machine.specs.Turns.{count_turn}
use Rattle.pw_machine.specs.Turns.{part_at}
use Rattle.pw_machine.specs.declared.view.Held.{Held}
use Rattle.pw_machine.specs.declared.view.View.{View}
use Rattle.pw_machine.specs.Machine.{held_as, turns_of, count_held, seat_number, Named, holds, IsNoted}
use Rattle.pw_books.specs.Sums.{bit}
use Rattle.pw_machine.specs.Steps.{HoldsAs, without_record, renoted}
use Rattle.pw_books.proofs.Lists.{one, none-of}
use Rattle.pw_books.proofs.Turns.{stays}

-- the records' turns, once one of them changed
pub turned : (turns : List ℕ) (views : List View) (j : ℕ) (v w : View) (t x : ℕ) → t < length turns → get_elem? views j ≡ some v
    → w.number ≡ v.number
    → ((r : ℕ) → r < length turns → Named (get_or turns r 0) (holds r) views)
    → ((r : ℕ) → r ≢ t → count_held r w.held ≡ count_held r v.held)
    → Named x (holds t) (set views j w)
    → (r : ℕ) → r < length turns → Named (get_or (set turns t x) r 0) (holds r) (set views j w)
turned turns views j v w t x low at number old others here r below = dite (ℕ_discrete r t)
    (λ e. subst (λ r. Named (get_or (set turns t x) r 0) (holds r) (set views j w)) (sym e) (subst (λ y. Named y (holds t) (set views j w)) (sym (get_or-set_same turns t x 0 low)) here))
    (λ ne. subst (λ y. Named y (holds r) (set views j w)) (sym (get_or-set_other turns t r x 0 ne)) (stays seat_number (get_or turns r 0) (holds r) views (old r below) j v w at number (others r ne)))

-- # Lists of what is held

pub turns-snoc : (hs : List Held) (t : ℕ) (x : Part) → turns_of (hs ++ held_as t x ∷ []) ≡ turns_of hs ++ t ∷ []
turns-snoc [] t x = refl
turns-snoc (h ∷ hs) t x = ap (λ l. h.turn ∷ l) (turns-snoc hs t x)

pub count-turns : (t : ℕ) (hs : List Held) → count_turn t (turns_of hs) ≡ count_held t hs
count-turns t [] = refl
count-turns t (h ∷ hs) = omega (arith, count-turns t hs)

pub count-snoc : (r : ℕ) (hs : List Held) (t : ℕ) (x : Part) → count_held r (hs ++ held_as t x ∷ []) ≡ count_held r hs + bit (eqb t r)
count-snoc r [] t x = omega arith
count-snoc r (h ∷ hs) t x = omega (arith, count-snoc r hs t x)

pub noted-snoc : (P : Plan) (S : State) (hs : List Held) (t : ℕ) (x : Part) → IsNoted P S hs → x ≡ part_at P t S
    → IsNoted P S (hs ++ held_as t x ∷ [])
noted-snoc P S [] t x n e = (e, tt)
noted-snoc P S (h ∷ hs) t x n e = (n.0, noted-snoc P S hs t x n.1 e)

pub noted_renoted : (P : Plan) (S : State) (hs : List Held) → IsNoted P S (renoted P S hs)
noted_renoted P S [] = tt
noted_renoted P S (h ∷ hs) = (refl, noted_renoted P S hs)

pub count_renoted : (r : ℕ) (P : Plan) (S : State) (hs : List Held) → count_held r (renoted P S hs) ≡ count_held r hs
count_renoted r P S [] = refl
count_renoted r P S (h ∷ hs) = omega (arith, count_renoted r P S hs)

pub noted_without : (P : Plan) (S : State) (t : ℕ) (hs : List Held) → IsNoted P S hs → IsNoted P S (without_record t hs)
noted_without P S t [] n = tt
noted_without P S t (h ∷ hs) n = step (eqb h.turn t) (noted_without P S t hs n.1)
  where
    step : (b : Bool) → IsNoted P S (without_record t hs) → IsNoted P S (cond b (without_record t hs) (h ∷ without_record t hs))
    step true r = r
    step false r = (n.0, r)

-- parts that were noted stay right while the records that are held stay
pub noted_off : (P : Plan) (S S2 : State) (hs : List Held) → ((t : ℕ) → 0 < count_held t hs → part_at P t S2 ≡ part_at P t S)
    → IsNoted P S hs → IsNoted P S2 hs
noted_off P S S2 [] same n = tt
noted_off P S S2 (h ∷ hs) same n = (n.0 ∙ sym (same h.turn (omega (arith, one h.turn h.turn refl))), noted_off P S S2 hs (λ t more. same t (omega arith)) n.1)

pub count_without : (t r : ℕ) (hs : List Held)
    → (t ≡ r → count_held r (without_record t hs) ≡ 0) × (t ≢ r → count_held r (without_record t hs) ≡ count_held r hs)
count_without t r [] = ((λ _. refl), (λ _. refl))
count_without t r (h ∷ hs) = let s = count_without t r hs in dite (ℕ_discrete h.turn t)
    (λ same. let is = eq-eqb h.turn t same in (
      (λ e. ap (λ b. count_held r (cond b (without_record t hs) (h ∷ without_record t hs))) is ∙ s.0 e),
      (λ ne. ap (λ b. count_held r (cond b (without_record t hs) (h ∷ without_record t hs))) is ∙ omega (arith, s.1 ne, none-of h.turn r (λ x. ne (sym same ∙ x)))),
    ))
    (λ other. let is = ne_eqb h.turn t other in (
      (λ e. ap (λ b. count_held r (cond b (without_record t hs) (h ∷ without_record t hs))) is ∙ omega (arith, s.0 e, none-of h.turn r (λ x. other (x ∙ sym e)))),
      (λ ne. ap (λ b. count_held r (cond b (without_record t hs) (h ∷ without_record t hs))) is ∙ omega (arith, s.1 ne)),
    ))

pub holds_count : (t : ℕ) (x : Part) (hs : List Held) → HoldsAs t x hs → 0 < count_held t hs
holds_count t x [] h = absurd h
holds_count t x (h ∷ hs) at = ⊎_elim (λ (e : h ≡ held_as t x). omega (arith, one h.turn t (ap (λ (k : Held). k.turn) e))) (λ (more : HoldsAs t x hs). omega (arith, holds_count t x hs more)) at

-- what was noted of it is the state's part
pub noted_is : (P : Plan) (S : State) (t : ℕ) (x : Part) (hs : List Held) → IsNoted P S hs → HoldsAs t x hs → x ≡ part_at P t S
noted_is P S t x [] n h = absurd h
noted_is P S t x (h ∷ hs) n at = ⊎_elim
    (λ (e : h ≡ held_as t x). sym (ap (λ (k : Held). k.noted) e) ∙ (n.0 ∙ ap (λ (k : Held). part_at P k.turn S) e))
    (λ (more : HoldsAs t x hs). noted_is P S t x hs n.1 more) at
