use Rattle.pw_words.proofs.app.generate.Goals as goal

pub returns : goal.returns
returns c = c.put.ensures _ _ c.named.ensures c.word.ensures
