use Rattle.std.proofs.Common.{◌≡◌, codes, refl}
use Rattle.pw_load.specs.Ends.Stops.{refused, without_memory}
use Rattle.pw_load.specs.Lines.{twice_line}
use Rattle.pw_load.proofs.placing.place.Goals as goal

pub returns-in-Err-Memory-clause-stopped : goal.returns-in-Err-Memory-clause-stopped
returns-in-Err-Memory-clause-stopped g c =
    record { line = codes "no memory\n"; way = rw c.without_memory.ensures.status without_memory; said = c.without_memory.ensures.line }

pub returns-in-Err-Twice-clause-stopped : goal.returns-in-Err-Twice-clause-stopped
returns-in-Err-Twice-clause-stopped g c =
    let path = c.in-Err-Twice.path.segs in
    let segs : c.as_slice.result.now ≡ path = c.as_slice.ensures in
    record {
      line = twice_line path;
      way = refused (record { is = refl; at = path; first = rw c.in-Err-Twice.field-0-is at c.in-Err-Twice.ensures.fault; says = refl });
      said = rw segs at c.say_twice.ensures.line;
    }
