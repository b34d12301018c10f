use Rattle.std.proofs.Common.{◌≡◌, map, drop, min, max}
use Rattle.std.specs.Prelude.{fold}
use Rattle.pw_model.specs.States.{ask_of, limit_of, with_change}
use Rattle.pw_core.proofs.domains.stands_at.Given as goal

abbrev pub invariant-loop-member : goal.invariant-loop-member
invariant-loop-member l = record {
  limit : fold max l.limit (map (limit_of l.kind (with_change l.state l.change)) (drop l.member-index l.members)) ≡ fold max 0 (map (limit_of l.kind (with_change l.state l.change)) l.members);
  ask : fold min l.ask (map (ask_of l.kind (with_change l.state l.change)) (drop l.member-index l.members)) ≡ fold min 255 (map (ask_of l.kind (with_change l.state l.change)) l.members);
}
