use Rattle.std.proofs.Common.{refl, sym, ◌∙◌, arith}
use Rattle.pw_cppc.specs.Requests.{Has}
use Rattle.pw_embed.specs.Cppc.{Asked}
use Rattle.pw_embed.proofs.Asking.{none_other}
use Rattle.pw_embed.proofs.cppc.Cppc.ask.Goals as goal

pub returns-then-not-has : goal.returns-then-not-has
unfolding Asked
returns-then-not-has c =
    (none_other _ c.in-Some.request (Has c.args.self.now.plan) (sym c.request.ensures ∙ c.in-Some.is) (λ has. let e = c.if-not-has.ensures.1 has in grind (arith, e)), refl, refl)
