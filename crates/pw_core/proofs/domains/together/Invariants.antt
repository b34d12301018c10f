use Rattle.std.proofs.Common.{◌≡◌, ℕ, map, drop, min, max}
use Rattle.std.specs.Prelude.{fold, slice_index_or}
use Rattle.pw_core.proofs.domains.together.Given as goal

abbrev pub invariant-loop-member : goal.invariant-loop-member
invariant-loop-member l = record {
  limit : fold max l.limit (map (λ (p : ℕ). slice_index_or l.limits p 0) (drop l.member-index l.members)) ≡ fold max 0 (map (λ (p : ℕ). slice_index_or l.limits p 0) l.members);
  ask : fold min l.ask (map (λ (p : ℕ). slice_index_or l.asks p 0) (drop l.member-index l.members)) ≡ fold min 255 (map (λ (p : ℕ). slice_index_or l.asks p 0) l.members);
}
