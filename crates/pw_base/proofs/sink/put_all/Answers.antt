use Rattle.std.proofs.Common.{◌≡◌, ◌+◌, ◌-◌, ◌++◌, ℕ, List, take, drop, length, ◌∙◌, append_assoc, arith}
use Rattle.std.proofs.lemmas.List.{take_rest}
use Rattle.std.proofs.Math.Seq.{take-add}
use Rattle.pw_base.proofs.Keeping.{KeepsSink-then}
use Rattle.pw_base.proofs.sink.put_all.Goals as goal

taken_more : (old mid new bytes : List ℕ) (done n : ℕ) → mid ≡ old ++ take done bytes → new ≡ mid ++ take n (take (length bytes - done) (drop done bytes)) → new ≡ old ++ take (done + n) bytes
taken_more old mid new bytes done n before now = rw (now, before, take_rest bytes done, take-add done n bytes) (append_assoc old (take done bytes) (take n (drop done bytes)))

pub loop-done-preserved : goal.loop-done-preserved
loop-done-preserved g c =
    let turn = c.in_ok-done.ensures in
    let before = c.loop-done.invariant in
    record {
      keeps = KeepsSink-then before.keeps turn.keeps;
      within = search (arith);
      taken = λ tells. taken_more _ _ _ _ _ _ (before.taken tells) (turn.taken (before.keeps.same_told ∙ tells));
    }
