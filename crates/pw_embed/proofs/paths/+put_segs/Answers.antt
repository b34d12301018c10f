use Rattle.pw_embed.proofs.Leading.{led-joined, led-next}
use Rattle.pw_embed.proofs.paths.+put_segs.Goals as goal

pub returns-in-len1-up : goal.returns-in-len1-up
returns-in-len1-up t c =
    rw (c.put_led.ensures, c.put_segs.ensures, led-joined c.args.segs.now c.in-len1-up.len_at_least)
    (led-next 46 c.args.segs.now c.first-item.result c.args.out.now _ c.in-len1-up.len_at_least c.first-item.is c.split_at_mut-head.ensures.back)
