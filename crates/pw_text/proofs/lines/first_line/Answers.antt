use Rattle.std.proofs.Common.{◌≡◌, ◌∷◌, ap, ◌∙◌}
use Rattle.pw_text.proofs.lines.first_line.Goals as goal
use Rattle.pw_text.specs.Fields.{ended, parts}
use Rattle.pw_text.proofs.Cutting.{ended_onto}

pub returns-in-Some-clause-value : goal.returns-in-Some-clause-value
returns-in-Some-clause-value c =
    let part = c.cut_far.result.0.now in
    let rest = c.in-Some.rest.now in
    let e : parts 10 c.args.bytes.now ≡ part ∷ parts 10 rest = rw c.in-Some.is at c.cut_far.ensures.value in
    rw c.without_return.ensures (ap ended e ∙ ended_onto 10 part rest)
