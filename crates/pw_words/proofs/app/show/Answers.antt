use Rattle.pw_words.proofs.app.show.Goals as goal

pub returns : goal.returns
returns c = c.put.ensures _ _ c.on_blocks.ensures c.flag.ensures
