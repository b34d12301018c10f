use Rattle.std.proofs.Common.{◌++◌, ◌∷◌, ◌∙◌, [], List, ap, sym, arith}
use Rattle.pw_model.specs.declared.reply.Reply.{Reply}
use Rattle.pw_model.specs.History.{replay}
use Rattle.pw_regs.specs.Seen.{registers_seen}
use Rattle.pw_regs.proofs.Operating.{did_by}
use Rattle.pw_machine.proofs.Plans.{legal_state}
use Rattle.pw_drive.specs.Keeping.{part_in}
use Rattle.pw_drive.proofs.Midway.{ops_are, reply_is, told_after}
use Rattle.pw_drive.proofs.Requesting.{few_ops, replied_done, replied_stopped, stands_after, turned, undone_after}
use Rattle.pw_drive.proofs.walking.enter.Goals as goal

pub append-requires-clause-few : goal.append-requires-clause-few
append-requires-clause-few g c =
    let P = c.args._plan.now in let q = c.args.request.now in let es = c.args.journal.now.entries in let need = c.requires in
    let is = ops_are P (replay P es) q (legal_state P es need.legal) need.has c.args.reply c.args.ops.now.elements (part_in c.args._records.now)
    need.midway in
    let few = few_ops P q es need.has need.legal need.faultless c.list.result.now (c.list.ensures ∙ is) in
    omega (arith, few, need.room, need.few)

pub returns-in-Ok-clause-turned : goal.returns-in-Ok-clause-turned
returns-in-Ok-clause-turned g c =
    let P = c.args._plan.now in let q = c.args.request.now in let es = c.args.journal.now.entries in let need = c.requires in
    let is = ops_are P (replay P es) q (legal_state P es need.legal) need.has c.args.reply c.args.ops.now.elements (part_in c.args._records.now)
    need.midway in
    let old = registers_seen g.R.Registers c.args.journal.now.regs in let new = registers_seen g.R.Registers c.append.new.self.regs in
    let e = c.append.ensures in
    let did = did_by c.list.result.now c.append.result old new e.keeps.same_told e.keeps.count e.done e.part e.failed e.promised e.steady e.left in
    turned P q es need.has need.legal need.faultless c.list.result.now c.append.result c.append.new.self.entries old new (c.list.ensures ∙ is)
    e.entry e.fault e.within did

pub returns-in-Err-clause-turned : goal.returns-in-Err-clause-turned
returns-in-Err-clause-turned g c =
    let P = c.args._plan.now in let q = c.args.request.now in let es = c.args.journal.now.entries in let need = c.requires in
    let is = ops_are P (replay P es) q (legal_state P es need.legal) need.has c.args.reply c.args.ops.now.elements (part_in c.args._records.now)
    need.midway in
    let old = registers_seen g.R.Registers c.args.journal.now.regs in let new = registers_seen g.R.Registers c.append.new.self.regs in
    let e = c.append.ensures in
    let did = did_by c.list.result.now c.append.result old new e.keeps.same_told e.keeps.count e.done e.part e.failed e.promised e.steady e.left in
    turned P q es need.has need.legal need.faultless c.list.result.now c.append.result c.append.new.self.entries old new (c.list.ensures ∙ is)
    e.entry e.fault e.within did

pub returns-in-Ok-clause-answered : goal.returns-in-Ok-clause-answered
returns-in-Ok-clause-answered g c =
    let P = c.args._plan.now in let q = c.args.request.now in let es = c.args.journal.now.entries in let need = c.requires in
    let is = reply_is P (replay P es) q (legal_state P es need.legal) need.has c.args.reply c.args.ops.now.elements (part_in c.args._records.now)
    need.midway in
    c.push_reserved.ensures.items ∙ ap (λ (rs : List Reply). rs ++ c.args.reply ∷ []) need.answered
    ∙ sym (replied_done P es c.append.new.self.entries q c.args.reply c.in-Ok.ensures.entry is)

pub returns-in-Err-clause-answered : goal.returns-in-Err-clause-answered
returns-in-Err-clause-answered g c =
    c.requires.answered
    ∙ sym (replied_stopped c.args._plan.now c.args.journal.now.entries c.append.new.self.entries c.args.request.now c.in-Err.done c.in-Err.ensures.fault)

pub returns-in-Ok-clause-stands : goal.returns-in-Ok-clause-stands
returns-in-Ok-clause-stands g c =
    let P = c.args._plan.now in let q = c.args.request.now in let es = c.args.journal.now.entries in let need = c.requires in
    let told = told_after P (replay P es) q (legal_state P es need.legal) need.has c.args.reply c.args.ops.now.elements (part_in c.args._records.now)
    need.midway in
    rw c.in-Ok.is at (stands_after P q es need.has need.legal need.faultless c.append.new.self.entries c.args._records.now need.of c.append.result c.append.ensures.entry told)

pub returns-in-Err-clause-undone : goal.returns-in-Err-clause-undone
returns-in-Err-clause-undone g c =
    let need = c.requires in
    rw c.in-Err.is at (undone_after c.args._plan.now c.args.request.now c.args.journal.now.entries need.has need.legal need.faultless c.append.new.self.entries
    c.args._records.now need.of c.append.result c.append.ensures.fault)
