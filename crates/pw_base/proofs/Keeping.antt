-- What is kept by one call and then by another is kept by both.
use Rattle.std.proofs.Common.{ℕ, Bool, List, Option, ◌∙◌, arith}
use Rattle.pw_base.specs.Outside.{KeepsFiles, KeepsSink}

pub KeepsSink-then : {S : Type 0} {told : S → Bool} {faults : S → ℕ} {a b c : S} → KeepsSink told faults a b → KeepsSink told faults b c → KeepsSink told faults a c
KeepsSink-then p q = record {
  same_told = q.same_told ∙ p.same_told;
  count = let x = p.count in let y = q.count in omega arith;
}

pub KeepsFiles-then : {S : Type 0} {told : S → Bool} {holds : S → List ℕ → Option (List ℕ)} {faults : S → List ℕ → ℕ} {a b c : S} → KeepsFiles told holds faults a b
    → KeepsFiles told holds faults b c → KeepsFiles told holds faults a c
KeepsFiles-then p q = record {
  same_told = q.same_told ∙ p.same_told;
  same_content = λ name. q.same_content name ∙ p.same_content name;
  count = λ name. let x = p.count name in let y = q.count name in omega arith;
}
