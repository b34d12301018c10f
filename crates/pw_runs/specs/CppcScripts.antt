-- What is held under the name of a script of requests for performance.
use Rattle.std.specs.Prelude.{◌≡◌, ℕ, List, Option, Some}
use Rattle.pw_text.specs.declared.script.ScriptFault.{ScriptFault}
use Rattle.pw_cppc.specs.declared.plan.CppcPlan.{CppcPlan}
use Rattle.pw_cppc_drive.specs.declared.script.CppcLine.{CppcLine}
use Rattle.pw_cppc_drive.specs.Reading.{IsNoScript, IsScript}

pub record HoldsScript (held : Option (List ℕ)) (P : CppcPlan) (lines : List CppcLine) : Type 0 where
  pub bytes : List ℕ
  pub is : held ≡ Some bytes
  pub reads : IsScript P bytes lines

pub record HoldsNoScript (held : Option (List ℕ)) (P : CppcPlan) (fault : ScriptFault) : Type 0 where
  pub bytes : List ℕ
  pub is : held ≡ Some bytes
  pub fails : IsNoScript P bytes fault
