use Rattle.pw_script.proofs.Lined.{entry_line}
use Rattle.pw_script.proofs.laws.entries_have_lines.Goals as goal

pub returns : goal.returns
returns c = λ P asked es fs e lt run. entry_line P asked es fs e lt run
