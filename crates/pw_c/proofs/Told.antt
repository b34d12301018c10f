-- A status that a call returns.
use Rattle.std.proofs.Common.{◌≡◌, ◌<◌, rules}
use Rattle.std.specs.Prelude.{ℤ, pos}
use lib.Signed.{mag}
use mir.Syntax.{w32}
use mir.Val.{of_z, to_z}
use Rattle.pw_embed.specs.declared.status.Status.{Status}
use Rattle.pw_embed.specs.Statuses.{code_of}

-- the number of a status is told in 32 bits
pub told : (n : ℤ) (s : Status) → mag n < 2147483648 → n ≡ pos (code_of s) → to_z w32 (of_z w32 n) ≡ pos (code_of s)
told n s small is = search rules
