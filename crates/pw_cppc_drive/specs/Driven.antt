-- What a run of a script of requests for performance comes to on registers.
use Rattle.std.specs.Prelude.{ℕ, List, Option}
use Rattle.pw_regs.specs.Seen.{RegistersSeen}
use Rattle.pw_regs.specs.Doing.{Did}
use Rattle.pw_cppc.specs.declared.plan.CppcPlan.{CppcPlan}
use Rattle.pw_cppc.specs.declared.entry.CppcEntry.{CppcEntry}
use Rattle.pw_cppc.specs.History.{run_ops, stopped_at}

-- What a run with at most so many operations does to registers.
abbrev pub OperatesFor : CppcPlan → ℕ → Option ℕ → List CppcEntry → RegistersSeen → RegistersSeen → Type 0
OperatesFor P most opening es old new = Did most (run_ops P opening es) (stopped_at opening es) old new
