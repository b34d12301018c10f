use Rattle.std.proofs.Common.{◌≡◌, ◌≤◌, ◌+◌, ◌++◌, ◌∷◌, ◌∙◌, [], List, Ok, Err, ap, arith, length, length-append, refl, sym, take_all}
use Rattle.pw_regs.specs.Seen.{registers_seen}
use Rattle.pw_cppc.specs.declared.reply.CppcReply.{CppcReply}
use Rattle.pw_cppc.specs.History.{replies}
use Rattle.pw_cppc_drive.proofs.Lining.{ran_all, ran_so_far, runs_further, runs_none}
use Rattle.pw_cppc_drive.proofs.Answered.{replied_done, replied_stopped, replies_none}
use Rattle.pw_cppc_drive.proofs.Requesting.{goes_on, stops, turned}
use Rattle.pw_cppc_drive.proofs.running.make_all.Goals as goal

pub loop-line-init : goal.loop-line-init
loop-line-init g c = record {
  runs = rw c.requires.empty (runs_none c.args.plan.now (registers_seen g.R.Registers c.args.ledger.now.regs));
  of = c.requires.of;
  count = ap length c.requires.empty;
  space = c.requires.space;
  answered = c.requires.unanswered ∙ sym (ap (replies c.args.plan.now) c.requires.empty ∙ replies_none c.args.plan.now);
  kept = let none : length c.args.kept.now.items ≡ 0 = ap length c.requires.unanswered in let size = c.args.kept.now.ok.0 in omega (arith, size, none);
  spare = refl;
}

pub returns-in-Err-clause-replies : goal.returns-in-Err-clause-replies
returns-in-Err-clause-replies g c =
    let l = c.loop-line in
    l.invariant.answered ∙ sym (replied_stopped c.args.plan.now l.ledger.entries c.make.new.self.entries _ _ c.in-Err.ensures.fault)

pub returns-in-Err-clause-ran : goal.returns-in-Err-clause-ran
returns-in-Err-clause-ran g c =
    let seen = registers_seen g.R.Registers in let l = c.loop-line in let P = c.args.plan.now in let a = c.in-Err.ensures in
    let es = l.ledger.entries in let fs = c.make.new.self.entries in let old = seen c.args.ledger.now.regs in let mid = seen l.ledger.regs in let new = seen c.make.new.self.regs in
    ran_so_far P c.args.lines.now l.line-index _ c.loop-line-test.true es fs old mid new l.invariant.runs
    (turned P _ es fs mid new l.invariant.runs.faultless a.of.legal (Err c.in-Err.field-0) a.entry a.fault a.did)
    (stops P _ es fs mid new l.invariant.runs.faultless a.of.legal c.in-Err.field-0 a.fault)

pub loop-line-preserved : goal.loop-line-preserved
loop-line-preserved g c =
    let seen = registers_seen g.R.Registers in let l = c.loop-line in let P = c.args.plan.now in let a = c.in-Ok.ensures in
    let es = l.ledger.entries in let fs = c.make.new.self.entries in let old = seen c.args.ledger.now.regs in let mid = seen l.ledger.regs in let new = seen c.make.new.self.regs in
    record {
      runs = runs_further P c.args.lines.now l.line-index _ c.loop-line-test.true es fs old mid new l.invariant.runs
          (turned P _ es fs mid new l.invariant.runs.faultless a.of.legal (Ok c.in-Ok.reply) a.entry a.fault a.did)
          (goes_on P _ es fs mid new l.invariant.runs.faultless a.of.legal a.entry);
      of = a.of;
      count = ap length a.entry ∙ length-append es _ ∙ ap (λ n. n + 1) l.invariant.count;
      space = rw a.capacity l.invariant.space;
      answered = c.push_reserved.ensures.items ∙ ap (λ (rs : List CppcReply). rs ++ c.in-Ok.reply ∷ []) l.invariant.answered ∙ sym (replied_done P es fs _ c.in-Ok.reply a.entry a.reply);
      kept = c.push_reserved.ensures.len ∙ ap (λ n. n + 1) l.invariant.kept;
      spare = c.push_reserved.ensures.capacity ∙ l.invariant.spare;
    }

pub returns-clause-ran : goal.returns-clause-ran
returns-clause-ran g c =
    let seen = registers_seen g.R.Registers in
    let l = c.loop-line in
    let past : length c.args.lines.now ≤ l.line-index = omega arith in
    ran_all c.args.plan.now c.args.lines.now l.ledger.entries (seen c.args.ledger.now.regs) (seen l.ledger.regs)
    (rw (take_all l.line-index c.args.lines.now past) at l.invariant.runs)
