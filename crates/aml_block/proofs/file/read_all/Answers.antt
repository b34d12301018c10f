use Rattle.std.proofs.Common.{◌∙◌, arith, rules}
use Rattle.pw_base.proofs.Keeping.{KeepsFiles-then}
use Rattle.aml_block.proofs.Contents.{begins_on}
use Rattle.aml_block.proofs.file.read_all.Goals as goal

pub loop-filled-preserved : goal.loop-filled-preserved
loop-filled-preserved g c =
    let before = c.loop-filled.invariant in
    let turn = c.in_ok-n.ensures in
    record {
      keeps = KeepsFiles-then before.keeps turn.keeps;
      within = omega (arith, turn.within, c.deref_mut.ensures.len);
      bounded = c.in_ok-make_room.ensures.bounded;
      begins = λ tells.
          begins_on (g.F.Files.holds c.args.files.now c.args.name.now) c.loop-filled.filled c.in_ok-n.n _ c.loop-filled.buffer.items c.make_room.new.buffer.items c.read_more.new.buffer _
          c.make_room.ensures.same (search rules) (before.begins tells)
          (rw (before.keeps.same_content c.args.name.now, c.deref_mut.ensures.value) at (turn.content (before.keeps.same_told ∙ tells)));
    }
