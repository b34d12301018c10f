-- The journal is taken behind the records of the whole footprint, and no entry is made without them.
use Rattle.std.proofs.Common.{◌≡◌, ℕ, [], ◌∷◌}
use mathlib.Core.Option.{some}
use lib.ListN.{get_elem?}
use Rattle.pw_model.specs.History.{request_of}
use Rattle.pw_model.specs.Records.{record_count}
use Rattle.pw_machine.specs.declared.view.View.{View}
use Rattle.pw_machine.specs.Law.{Steps}
use Rattle.pw_machine.specs.Machine.{Invariant, Machine, now, turns_of}
use Rattle.pw_machine.specs.Steps.{Kind, May, after, take_journal, release_with_entry}
use Rattle.pw_machine.proofs.Entries.{entry_unmarked}
use Rattle.pw_machine.proofs.Keeps.{opens, step_keeps}
use Rattle.pw_machine.proofs.Plans.{next_journal}
use Rattle.pw_regs.specs.declared.registers.Registers.{Ghosts as Registers}
use Rattle.pw_rule.specs.Rule.{given_of, opening_parts, start_of}
use Rattle.pw_rule.specs.Runs.{EachHoldsAll, HoldsAll, JournalComesLast}
use Rattle.pw_books.proofs.Running.{Run}
use Rattle.pw_rule.proofs.Shown.{length_parts}

one_holds : (m : Machine) → Invariant m → (j : ℕ) (v : View) (k : Kind) → get_elem? m.views j ≡ some v → May m j v k → HoldsAll m v k
one_holds m i j v (take_journal q) at may = next_journal m.given.plan (now m) q (turns_of v.held) may.0.of_plan may.1
one_holds m i j v (release_with_entry e count) at may =
    (may.leads, ((i.fits j v at).serves (entry_unmarked m i j v at e count may)).whole (request_of e) may.request may.leads)
one_holds m i j v k at may = tt

each_holds : (m : Machine) → Invariant m → (run : Run View Kind) (n : Machine) → Steps m run n → EachHoldsAll m run
each_holds m i [] n e = tt
each_holds m i (s ∷ ss) n st = (
  one_holds m i s.0 s.1 s.2 st.0 st.1,
  each_holds (after m s.0 s.1 s.2) (step_keeps m s.0 s.1 s.2 i st.0 st.1) ss n st.2,
)

pub journal_comes_last : {R : Type 0} (by : Registers R) → JournalComesLast by
journal_comes_last by key s o = each_holds (start_of by key)
    (opens (given_of by key) (opening_parts key.plan) (length_parts key.plan 0 (record_count key.plan))) o.run o.machine o.ran
