use Rattle.std.proofs.Common.{◌≡◌, ◌≤◌, ◌+◌, ◌++◌, true, take}
use Rattle.pw_regs.specs.Registers.{KeepsRegisters}
use Rattle.pw_journal.proofs.operating.operate_all.Given as goal

abbrev pub invariant-loop-op : goal.invariant-loop-op
invariant-loop-op g l = record {
  done : l.done ≡ l.op-index;
  keeps : KeepsRegisters g.R.Registers.told g.R.Registers.faults l.initial.regs l.regs;
  taken : g.R.Registers.told l.initial.regs ≡ true → g.R.Registers.log l.regs ≡ g.R.Registers.log l.initial.regs ++ take l.op-index l.ops;
  steady : l.op-index ≤ g.R.Registers.room l.initial.regs → g.R.Registers.faults l.regs ≡ g.R.Registers.faults l.initial.regs;
  left : g.R.Registers.room l.initial.regs ≤ g.R.Registers.room l.regs + l.op-index;
}
