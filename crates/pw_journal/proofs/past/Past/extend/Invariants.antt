use Rattle.std.proofs.Common.{◌≡◌, ◌++◌, take}
use Rattle.pw_journal.proofs.past.Past.extend.Given as goal

abbrev pub invariant-loop-element : goal.invariant-loop-element
invariant-loop-element g l = l.self.items ≡ l.initial.self.items ++ take l.element-index l.elements
