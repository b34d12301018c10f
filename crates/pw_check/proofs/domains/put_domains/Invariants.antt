use Rattle.std.proofs.Common.{◌≡◌, ◌+◌, ◌++◌, ℕ, List, true, length}
use Rattle.pw_text.specs.Puts.{PutsText}
use Rattle.pw_check.specs.Numbers.{numbered}
use Rattle.pw_check.specs.CheckText.{domain_line}
use Rattle.pw_check.proofs.domains.put_domains.Given as goal

abbrev pub invariant-loop-left : goal.invariant-loop-left
invariant-loop-left g l = record {
  so_far : (done : List ℕ) × PutsText g.K.Sink l.initial.sink l.sink l.initial.page l.page done true
      × (done ++ numbered domain_line l.number l.left ≡ numbered domain_line 0 l.domains);
  count : l.number + length l.left ≡ length l.domains;
}

abbrev pub decreases-loop-left : goal.decreases-loop-left
decreases-loop-left g l = length l.left
