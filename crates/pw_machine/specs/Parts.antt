-- The parts that seats note are those that records hold.
use Rattle.pw_model.specs.Records.{Part, votes, levels, states}
use Rattle.pw_machine.specs.declared.part.Noted.{Noted}
use Rattle.pw_machine.specs.declared.part.Noted.TheVariants.{Votes, Levels, States}

abbrev pub noted : Noted → Part
noted (Votes vs) = votes vs
noted (Levels asks limits) = levels asks limits
noted (States ss) = states ss
