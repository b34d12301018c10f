use Rattle.std.proofs.Common.{◌≡◌, drop, min, max}
use Rattle.std.specs.Prelude.{fold}
use Rattle.pw_domain.proofs.domain.stands_at.Given as goal

abbrev pub invariant-loop-own : goal.invariant-loop-own
invariant-loop-own l = fold min l.ask (drop l.own-index l.asks) ≡ fold min 255 l.asks

abbrev pub invariant-loop-own-2 : goal.invariant-loop-own-2
invariant-loop-own-2 l = fold max l.limit (drop l.own-index l.limits) ≡ fold max 0 l.limits
