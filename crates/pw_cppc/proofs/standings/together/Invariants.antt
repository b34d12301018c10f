use Rattle.std.proofs.Common.{◌≡◌, ℕ, map, drop, min, max}
use Rattle.std.specs.Prelude.{fold, slice_index_or}
use Rattle.pw_cppc.proofs.standings.together.Given as goal

abbrev pub invariant-loop-member : goal.invariant-loop-member
invariant-loop-member l = record {
  ask : fold max l.ask (map (λ (p : ℕ). slice_index_or l.asks p 0) (drop l.member-index l.members)) ≡ fold max 0 (map (λ (p : ℕ). slice_index_or l.asks p 0) l.members);
  minimum : fold max l.minimum (map (λ (p : ℕ). slice_index_or l.minima p 0) (drop l.member-index l.members)) ≡ fold max 0 (map (λ (p : ℕ). slice_index_or l.minima p 0) l.members);
  maximum : fold min l.maximum (map (λ (p : ℕ). slice_index_or l.maxima p 0) (drop l.member-index l.members)) ≡ fold min 18446744073709551615 (map (λ (p : ℕ). slice_index_or l.maxima p 0) l.members);
}
