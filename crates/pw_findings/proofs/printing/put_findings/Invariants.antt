use Rattle.std.proofs.Common.{true, take}
use Rattle.std.specs.List.{flat_map}
use Rattle.pw_text.specs.Puts.{PutsText}
use Rattle.pw_findings.specs.Words.{finding_line}
use Rattle.pw_findings.proofs.printing.put_findings.Given as goal

abbrev pub invariant-loop-finding : goal.invariant-loop-finding
invariant-loop-finding g l =
    PutsText g.K.Sink l.initial.sink l.sink l.initial.page l.page (flat_map finding_line (take l.finding-index l.findings)) true
