use Rattle.std.proofs.Common.{◌≡◌, ◌≤◌, ◌+◌, ◌∙◌, ap, arith, length, refl, sym, take_all}
use Rattle.pw_model.specs.History.{replies}
use Rattle.pw_regs.specs.Seen.{registers_seen}
use Rattle.pw_drive.proofs.Entering.{replies_none}
use Rattle.pw_drive.proofs.Lining.{ran_all, ran_so_far, runs_further, runs_none}
use Rattle.pw_drive.proofs.running.make_all.Goals as goal

pub loop-line-init : goal.loop-line-init
loop-line-init g c = record {
  runs = rw c.requires.empty (runs_none c.args.plan.now c.args.records.now (registers_seen g.R.Registers c.args.journal.now.regs) c.requires.stands);
  space = c.requires.space;
  answered = c.requires.unanswered ∙ sym (ap (replies c.args.plan.now) c.requires.empty ∙ replies_none c.args.plan.now);
  count = let none : length c.args.kept.now.items ≡ 0 = ap length c.requires.unanswered in let size = c.args.kept.now.ok.0 in omega (arith, size, none);
  spare = refl;
  room = refl;
}

pub returns-in-Err-clause-ran : goal.returns-in-Err-clause-ran
returns-in-Err-clause-ran g c =
    let seen = registers_seen g.R.Registers in
    let l = c.loop-line in
    ran_so_far c.args.plan.now c.args.lines.now l.line-index _ c.loop-line-test.true l.journal.entries c.make.new.journal.entries l.records
    (seen c.args.journal.now.regs) (seen l.journal.regs) (seen c.make.new.journal.regs) l.invariant.runs c.make.ensures.turned c.in-Err.ensures.stopped

pub loop-line-preserved : goal.loop-line-preserved
loop-line-preserved g c =
    let seen = registers_seen g.R.Registers in
    let l = c.loop-line in
    record {
      runs = runs_further c.args.plan.now c.args.lines.now l.line-index _ c.loop-line-test.true l.journal.entries c.make.new.journal.entries l.records
          (seen c.args.journal.now.regs) (seen l.journal.regs) (seen c.make.new.journal.regs) l.invariant.runs c.make.ensures.turned
          c.make.new.records c.in-Ok.ensures.stands;
      space = c.make.ensures.space ∙ l.invariant.space;
      answered = c.make.ensures.answered;
      count = c.in-Ok.ensures.count ∙ ap (λ n. n + 1) l.invariant.count;
      spare = c.make.ensures.capacity ∙ l.invariant.spare;
      room = c.make.ensures.room ∙ l.invariant.room;
    }

pub returns-clause-ran : goal.returns-clause-ran
returns-clause-ran g c =
    let seen = registers_seen g.R.Registers in
    let l = c.loop-line in
    let past : length c.args.lines.now ≤ l.line-index = omega arith in
    ran_all c.args.plan.now c.args.lines.now l.journal.entries l.records (seen c.args.journal.now.regs) (seen l.journal.regs)
    (rw (take_all l.line-index c.args.lines.now past) at l.invariant.runs)
