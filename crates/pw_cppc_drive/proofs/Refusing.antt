-- Why bytes are no script.
use Rattle.std.proofs.Common.{◌≡◌, ◌∙◌, ◌<◌, ℕ, Bool, true, false, cond, refl, List, length, Option, Some, None, arith}
use Rattle.std.specs.Prelude.{nat_lt}
use Rattle.pw_text.specs.declared.script.ScriptFault.TheVariants as faults
use Rattle.pw_text.specs.declared.script.ScriptFault.{ScriptFault}
use Rattle.pw_text.specs.declared.script.TheConstants.{MOST_BYTES, MOST_LINES, MOST_OPERATIONS}
use Rattle.pw_text.specs.Fields.{lines_of}
use Rattle.pw_text.specs.Scripts.{first_bad_by, too_long}
use Rattle.pw_cppc.specs.declared.plan.CppcPlan.{CppcPlan}
use Rattle.pw_cppc_drive.specs.declared.script.CppcLine.{CppcLine}
use Rattle.pw_cppc_drive.specs.Forms.{request_in}
use Rattle.pw_cppc_drive.specs.Reading.{IsNoScript, bad, too_much, lines_in, operations, refused}

-- the bytes are too long, or the first bad line is at fault
refused_by_length : (a b : Bool) (x y z : Option ScriptFault) (fault : ScriptFault) → cond a x (cond b y None) ≡ Some fault → cond a x (cond b y z) ≡ Some fault
refused_by_length true b x y z fault e = e
refused_by_length false true x y z fault e = e
refused_by_length false false x y z fault e = absurd (cc)

refused_by_line : (a b : Bool) (f g : ScriptFault) (z : Option ScriptFault) → cond a (Some f) (cond b (Some g) None) ≡ None → cond a (Some f) (cond b (Some g) z) ≡ z
refused_by_line true b f g z e = absurd (cc)
refused_by_line false true f g z e = absurd (cc)
refused_by_line false false f g z e = refl

pub long_is_none : (P : CppcPlan) (bytes : List ℕ) (fault : ScriptFault) → too_long bytes ≡ Some fault → IsNoScript P bytes fault
long_is_none P bytes fault e = bad (refused_by_length (nat_lt MOST_BYTES (length bytes)) (nat_lt MOST_LINES (length (lines_of bytes))) _ _ (first_bad_by (request_in P) 1 (lines_of bytes)) fault e)

same : (P : CppcPlan) (bytes : List ℕ) → too_long bytes ≡ None → refused P bytes ≡ first_bad_by (request_in P) 1 (lines_of bytes)
same P bytes e = refused_by_line (nat_lt MOST_BYTES (length bytes)) (nat_lt MOST_LINES (length (lines_of bytes))) _ _ (first_bad_by (request_in P) 1 (lines_of bytes)) e

pub line_is_none : (P : CppcPlan) (bytes : List ℕ) (fault : ScriptFault) → too_long bytes ≡ None → first_bad_by (request_in P) 1 (lines_of bytes) ≡ Some fault → IsNoScript P bytes fault
line_is_none P bytes fault e w = bad (same P bytes e ∙ w)

pub much_is_none : (P : CppcPlan) (bytes : List ℕ) (lines : List CppcLine) → too_long bytes ≡ None → first_bad_by (request_in P) 1 (lines_of bytes) ≡ None → lines ≡ lines_in P bytes
    → nat_lt MOST_OPERATIONS (operations P lines) ≡ true → IsNoScript P bytes (faults.TooLong MOST_OPERATIONS)
much_is_none P bytes lines e w is many = too_much (same P bytes e ∙ w) (rw is at (more many))
  where
    more : nat_lt MOST_OPERATIONS (operations P lines) ≡ true → MOST_OPERATIONS < operations P lines
    more h = grind (arith, h)
