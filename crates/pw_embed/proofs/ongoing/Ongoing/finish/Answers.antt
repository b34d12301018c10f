use Rattle.std.proofs.Common.{List, length, refl, subst}
use Rattle.acpi_values.specs.declared.operation.Op.{Op}
use Rattle.pw_embed.specs.Endless.{Ends}
use Rattle.pw_embed.specs.Resting.{Says}
use Rattle.pw_embed.proofs.ongoing.Ongoing.finish.Goals as goal

pub returns : goal.returns
unfolding Ends
returns c = (
  _,
  refl,
  record {
    said = c.said-word.result;
    says = subst (λ (l : List Op). Says c.args.done (length l) c.said-word.result) c.ops-2.ensures c.said-word.ensures.says;
    same = refl;
    opening = refl;
    told = c.finish_begun-seat.result.2;
    finishes = rw c.deref.ensures at c.finish_begun-seat.ensures;
  },
)
