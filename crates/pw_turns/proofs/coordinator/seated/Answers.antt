use Rattle.std.proofs.Common.{ap, sym, subst, ◌∙◌, ◌≡◌, true, length}
use Rattle.pw_machine.specs.declared.view.View.{View}
use Rattle.pw_turns.specs.Views.{IsAtRest, is_met, view_in}
use Rattle.pw_turns.proofs.coordinator.seated.Goals as goal

pub invariant_of-result : goal.invariant_of-result
invariant_of-result g c =
    let views = c.into_badge.ensures.2 in let back = sym (ap view_in views) in record {
      one = ap length views;
      numbered = (c.requires.number.0 ∙ ap (λ (v : View). v.number) back, c.requires.number.1);
      shared = (c.requires.parts.0 ∙ ap (λ (v : View). v.parts) back, c.requires.parts.1);
      saw = c.requires.seen ∙ ap (λ (v : View). length v.seen) back;
      found = subst (λ (v : View). is_met c.args.met v ≡ true) back c.requires.met;
      idle = subst IsAtRest back c.requires.rest;
    }
