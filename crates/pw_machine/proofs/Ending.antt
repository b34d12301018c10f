-- A request whose turns nobody else holds ends in a bounded number of steps.
use Rattle.std.proofs.Common.{◌≡◌, ⊎_elim, ℕ, ◌*◌, ◌<◌, ◌≤◌, length, None, Some, get_or, sym, refl, ◌∙◌, subst, arith}
use mathlib.Core.Option.{some}
use lib.ListN.{get_elem?}
use Rattle.pw_plan.specs.declared.request.Request.{Request}
use Rattle.pw_model.specs.Routes.{route}
use Rattle.pw_machine.specs.declared.view.View.{View}
use Rattle.pw_machine.specs.Turns.{StartsWith, count_turn, way}
use Rattle.pw_machine.specs.Machine.{Machine, Invariant, now, turns_of}
use Rattle.pw_machine.specs.Steps.{Asks}
use Rattle.pw_machine.specs.Bounds.{RequestsEndSoon}
use Rattle.pw_machine.proofs.Plans.{count_turn-append, way_apart}
use Rattle.pw_machine.proofs.Turns.{count-turns}
use Rattle.pw_machine.proofs.Cycles.{answers}

-- what a seat that asks holds is a beginning of its way
asks_front : (m : Machine) → Invariant m → (j : ℕ) (v : View) → get_elem? m.views j ≡ some v → (q : Request) → Asks m.given.plan v q
    → StartsWith (way m.given.plan (now m) q) (turns_of v.held)
asks_front m i j v at q a = let g = (i.fits j v at).serves a.unmarked in ⊎_elim
    (λ (none : v.request ≡ None). subst (λ hs. StartsWith (way m.given.plan (now m) q) (turns_of hs)) (sym (g.rests none).0) (way m.given.plan (now m) q, refl))
    (λ (asked : v.request ≡ Some q). g.before q asked a.before) a.request

pub ends_soon : RequestsEndSoon
ends_soon m i j v at q a out clear e entry =
    let P = m.given.plan in
    let front = asks_front m i j v at q a in
    let free : (t : ℕ) → 0 < count_turn t front.0 → get_or m.turns t 0 ≡ 0 = λ t more.
    clear.records t (subst (λ l. 0 < count_turn t l) (sym front.1) (omega (arith, more, count_turn-append t (turns_of v.held) front.0)))
    (sym (count-turns t v.held) ∙ way_apart P (now m) q (turns_of v.held) front.0 t a.of_plan front.1 more) in
    let c = answers m i j v at q a front.0 front.1 free clear.journal out e entry.request entry.seat entry.follows entry.room in
    record {
      steps = c.leads.path.0;
      end = c.end;
      allowed = c.leads.path.1;
      own = c.leads.own;
      few = subst (λ r. length c.leads.path.0 ≤ 2 * length (route P (now m) r)) entry.request c.few;
      history = c.history;
      view = c.view;
      there = c.leads.there;
      idle = c.idle;
    }
