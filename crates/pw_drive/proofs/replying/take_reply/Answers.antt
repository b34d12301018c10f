use Rattle.std.proofs.Common.{◌≡◌, arith, length, rules, set, subst, sym}
use Rattle.pw_drive.specs.inner.Replying.{Leaves}
use Rattle.pw_drive.proofs.InOrder.{leaves_fault, leaves_reply, leaves_some}
use Rattle.pw_drive.proofs.replying.take_reply.Goals as goal

pub returns-then-entry-gt0-clause-leaves : goal.returns-then-entry-gt0-clause-leaves
returns-then-entry-gt0-clause-leaves c = λ P whole es l. leaves_fault P whole es c.args.entry.now c.args.each.now.items c.args.all.now.items l
    (λ is. let some = c.if-entry-gt0.true in absurd (omega (arith, is, some)))

pub returns-in-Some-clause-leaves : goal.returns-in-Some-clause-leaves
returns-in-Some-clause-leaves c = λ P whole es l.
    let x = c.index_mut.result.now in
    let none : c.args.entry.now.fault ≡ 0 = let le = c.if-entry-gt0.false in omega (arith, le) in
    subst (Leaves P whole es (set c.args.each.now.items c.args.entry.now.cpu c.pop.new.self)) (sym c.push_reserved.ensures.items)
    (leaves_reply P whole es c.args.entry.now c.args.each.now.items c.args.all.now.items l none c.requires.inside x c.pop.new.self c.in-Some.reply c.index_mut.ensures.value c.in-Some.ensures.items)

pub returns-in_default-clause-leaves : goal.returns-in_default-clause-leaves
returns-in_default-clause-leaves c = λ P whole es l.
    let x = c.index_mut.result.now in
    let none : c.args.entry.now.fault ≡ 0 = let le = c.if-entry-gt0.false in omega (arith, le) in
    let empty : length x.items ≡ 0 = search rules in
    absurd (leaves_some P whole es c.args.entry.now c.args.each.now.items c.args.all.now.items l none c.requires.inside x c.index_mut.ensures.value empty)
