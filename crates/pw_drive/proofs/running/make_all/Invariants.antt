use Rattle.std.proofs.Common.{◌≡◌, length, take}
use Rattle.std.specs.Prelude.{vec_capacity, vec_len}
use Rattle.pw_model.specs.History.{replies}
use Rattle.pw_regs.specs.Seen.{registers_seen}
use Rattle.pw_drive.proofs.Lining.{Runs}
use Rattle.pw_drive.proofs.running.make_all.Given as goal

abbrev pub invariant-loop-line : goal.invariant-loop-line
invariant-loop-line g l = record {
  runs : Runs l.plan (take l.line-index l.lines) l.journal.entries l.records (registers_seen g.R.Registers l.initial.journal.regs) (registers_seen g.R.Registers l.journal.regs);
  space : l.journal.capacity ≡ length l.lines;
  answered : l.kept.items ≡ replies l.plan l.journal.entries;
  count : vec_len l.kept ≡ l.line-index;
  spare : vec_capacity l.kept ≡ vec_capacity l.initial.kept;
  room : l.ops.capacity ≡ l.initial.ops.capacity;
}
