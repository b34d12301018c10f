use Rattle.pw_words.proofs.app.drive.Goals as goal

pub returns : goal.returns
returns c =
    let one = c.put-command.ensures _ _ c.named.ensures c.flag.ensures in
    let two = c.put-command-2.ensures _ _ one c.flag-2.ensures in
    let three = c.put-command-3.ensures _ _ two c.word.ensures in
    c.put.ensures _ _ three c.blocks-2.ensures
