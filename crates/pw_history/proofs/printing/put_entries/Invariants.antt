use Rattle.std.proofs.Common.{◌≡◌, ◌≤◌, ◌+◌, ◌-◌, ◌++◌, ℕ, List, true, length}
use Rattle.std.specs.Prelude.{is_some, option_copied}
use Rattle.std.specs.List.{AllByRecursion}
use Rattle.pw_text.specs.Lines.{text_of}
use Rattle.pw_text.specs.Puts.{PutsText}
use Rattle.pw_history.specs.HistoryText.{lines_from}
use Rattle.pw_history.specs.inner.Known.{AreKnown}
use Rattle.pw_history.proofs.printing.put_entries.Given as goal

abbrev pub invariant-loop-left : goal.invariant-loop-left
invariant-loop-left g l = record {
  so_far : (S : g.row.T-State.Denot) × g.T.Kind.keeps l.named.plan.now (is_some l.known) S l.kept × AreKnown g.T.Kind.words.kind l.named.plan.now S l.left (option_copied l.replies)
      × (done : List ℕ) × PutsText g.K.Sink l.initial.sink l.sink l.initial.page l.page done true
      × (done ++ text_of (lines_from g.T.Kind.words l.named.plan.now S (length l.entries - length l.left + 1) l.left)
      ≡ text_of (lines_from g.T.Kind.words l.named.plan.now (g.T.Kind.words.kind.opening l.named.plan.now) 1 l.entries));
  mode : is_some l.replies ≡ is_some l.known;
  rest : AllByRecursion (g.T.Kind.states l.named.plan.now) l.left;
  room : g.T.Kind.most l.named.plan.now ≤ l.ops.capacity;
  count : length l.left ≤ length l.entries;
}

abbrev pub decreases-loop-left : goal.decreases-loop-left
decreases-loop-left g l = length l.left
