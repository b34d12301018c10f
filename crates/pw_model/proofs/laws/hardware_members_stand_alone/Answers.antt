use Rattle.pw_model.proofs.Gathering.{behind_own, fastest_own}
use Rattle.pw_model.proofs.laws.hardware_members_stand_alone.Goals as goal

pub returns-clause-behind : goal.returns-clause-behind
returns-clause-behind c = λ P S d p hardware. behind_own P S d p hardware

pub returns-clause-fastest : goal.returns-clause-fastest
returns-clause-fastest c = λ P S d p t hardware h. fastest_own P S d p hardware t h
