use Rattle.std.proofs.Common.{rules, refl, ap, Some, ◌+◌, ◌∙◌, arith}
use Rattle.pw_books.specs.Steps.{find_held, met_with}
use Rattle.pw_cppc_desk.specs.Tracks.{keeping}
use Rattle.pw_cppc_desk.proofs.Going.{none_more, same_more}
use Rattle.pw_cppc_desk.proofs.desk.CppcDesk.wait.Goals as goal

pub loop-init : goal.loop-init
loop-init g c = record {
  id = refl;
  view = (c.args.raw.now.me.0.view.met, c.args.raw.now.me.0.view.meets, refl, (omega arith, λ e. refl));
  own = (0, none_more find_held (keeping c.args.raw.now.me.0));
  met = c.requires.met;
}

pub loop-preserved : goal.loop-preserved
loop-preserved g c =
    let e = c.in-Err.ensures.view in let i = c.loop.invariant in record {
      id = search rules;
      view = (
        Some c.in-Err.holder,
        i.view.1 + 1,
        e.0 ∙ ap (λ m. (met_with c.in-Err.holder m.0, m.1)) i.view.2,
        (omega (arith, i.view.3.0), λ h. absurd (omega (arith, i.view.3.0, h))),
      );
      own = (i.own.0 + 1, same_more find_held (keeping c.args.raw.now.me.0) (keeping c.loop.raw.me.0) (keeping c.lock.new.raw.me.0) i.own.0 i.own.1 c.in-Err.ensures.own);
      met = search rules;
    }
