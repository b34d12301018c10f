use Rattle.pw_words.proofs.app.audit.Goals as goal

pub returns : goal.returns
returns c =
    let one = c.put-command.ensures _ _ c.named.ensures c.flag.ensures in
    let two = c.put-command-2.ensures _ _ one c.flag-2.ensures in
    let three = c.put-command-3.ensures _ _ two c.flag-3.ensures in
    let four = c.put-command-4.ensures _ _ three c.word.ensures in
    let five = c.put-command-5.ensures _ _ four c.word-2.ensures in
    c.put.ensures _ _ five c.blocks-2.ensures
