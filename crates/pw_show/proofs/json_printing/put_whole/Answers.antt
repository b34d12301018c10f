use Rattle.std.proofs.Common.{false, true, refl}
use Rattle.pw_show.proofs.Putting.{part_of}
use Rattle.pw_show.proofs.json_printing.put_whole.Goals as goal

pub returns-in_err-flush-clause-part : goal.returns-in_err-flush-clause-part
returns-in_err-flush-clause-part g c =
    part_of {done = false} c.requires.empty (c.in_ok-put_array.ensures.whole refl) c.in_err-flush.ensures.puts

pub returns-clause-part : goal.returns-clause-part
returns-clause-part g c = part_of {done = true} c.requires.empty (c.in_ok-put_array.ensures.whole refl) c.in_ok-flush.ensures.puts
