use Rattle.std.proofs.Common.{◌≡◌, ◌≤◌, length, take}
use Rattle.std.specs.Prelude.{vec_capacity, vec_len}
use Rattle.pw_regs.specs.Seen.{registers_seen}
use Rattle.pw_cppc.specs.History.{replies}
use Rattle.pw_cppc_desk.specs.Ledgered.{IsLedgerOf}
use Rattle.pw_cppc_drive.proofs.Lining.{Runs}
use Rattle.pw_cppc_drive.proofs.running.make_all.Given as goal

abbrev pub invariant-loop-line : goal.invariant-loop-line
invariant-loop-line g l = record {
  runs : Runs l.plan (take l.line-index l.lines) l.ledger.entries (registers_seen g.R.Registers l.initial.ledger.regs) (registers_seen g.R.Registers l.ledger.regs);
  of : IsLedgerOf l.plan l.ledger;
  count : length l.ledger.entries ≡ l.line-index;
  space : length l.lines ≤ l.ledger.capacity;
  answered : l.kept.items ≡ replies l.plan l.ledger.entries;
  kept : vec_len l.kept ≡ l.line-index;
  spare : vec_capacity l.kept ≡ vec_capacity l.initial.kept;
}
