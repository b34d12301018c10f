use Rattle.std.proofs.Common.{◌∙◌, ◌+◌, ap, sym}
use Rattle.pw_text.proofs.lines.count_lines.Goals as goal
use Rattle.pw_text.proofs.Feeds.{lines_closed, lines_open}

pub returns-then-is_open : goal.returns-then-is_open
returns-then-is_open c = ap (λ n. n + 1) c.count_feeds-feeds.ensures ∙ lines_open c.args.bytes.now (sym c.is_open.ensures ∙ c.if-is_open.true)

pub returns-else-is_open : goal.returns-else-is_open
returns-else-is_open c = c.count_feeds-feeds.ensures ∙ lines_closed c.args.bytes.now (sym c.is_open.ensures ∙ c.if-is_open.false)
