use Rattle.pw_words.proofs.app.on_blocks.Goals as goal

pub returns : goal.returns
returns c = c.put.ensures _ _ c.named.ensures c.blocks-2.ensures
