-- Requests that are none of a plan's.
use Rattle.std.proofs.Common.{◌≡◌, ◌∙◌, sym, ap, subst}
use Rattle.std.specs.Prelude.{Option, Some, None}

from_some : {Q : Type 0} → Q → Option Q → Q
from_some d None = d
from_some d (Some q) = q

-- what isn't of the one that is asked for is of none
pub none_other : {Q : Type 0} (asked : Option Q) (q : Q) (P : Q → Type 0) → asked ≡ Some q → (P q → ⊥) → (r : Q) → asked ≡ Some r → P r → ⊥
unfolding from_some
none_other asked q P is never r other p = never (subst P (sym (ap (from_some q) (sym is ∙ other))) p)
