use Rattle.pw_words.proofs.app.cppc.Goals as goal

pub returns : goal.returns
returns c =
    let one = c.put-command.ensures _ _ c.named.ensures c.flag.ensures in
    let two = c.put-command-2.ensures _ _ one c.word.ensures in
    c.put.ensures _ _ two c.blocks-2.ensures
