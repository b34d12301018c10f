-- Bytes that are appended one part after another, and parts that aren't begun.
use Rattle.std.proofs.Common.{◌≡◌, ℕ, Bool, true, false, List, ◌++◌, take, drop, length, Result, Ok, Err, IsErr, OnOk, OnErr, is_ok, sym, ap, ◌∙◌, append_assoc}
use Rattle.std.proofs.Math.Seq.{take-length, take-append_seam}
use Rattle.std.proofs.lemmas.List.{take-append-drop, drop_at}
use Rattle.aml_data.specs.Written.{sized}
use Rattle.aml_block.specs.inner.Appending.{Appends}

-- a list of which this list stands in front has in front what stood in front of this list
kept_in_front : (old more new : List ℕ) → take (length (old ++ more)) new ≡ old ++ more → take (length old) new ≡ old
kept_in_front old more new h =
    let parts : new ≡ old ++ (more ++ drop (length (old ++ more)) new) =
    sym (take-append-drop (length (old ++ more)) new) ∙ ap (λ t. t ++ drop (length (old ++ more)) new) h ∙ append_assoc old more _ in
    ap (λ t. take (length old) t) parts ∙ take-append_seam old _

-- two parts were appended, one after the other
pub Appends-then : (a b c x y : List ℕ) (done : Bool) → Appends a b x true → Appends b c y done → Appends a c (x ++ y) done
Appends-then a b c x y true p q = q ∙ ap (λ t. t ++ y) p ∙ append_assoc a x y
Appends-then a b c x y false p q = kept_in_front a x c (ap (λ t. take (length t) c) (sym p) ∙ q ∙ p)

-- a part that failed to be appended stops what comes after it
pub Appends-stop : {A E : Type 0} (a b c x y z : List ℕ) (r : Result A E) → IsErr r → Appends a b x true → Appends b c y false → Appends a c z (is_ok r)
Appends-stop a b c x y z (Ok v) h p q = absurd (cc)
Appends-stop a b c x y z (Err e) h p q = kept_in_front a x c (ap (λ t. take (length t) c) (sym p) ∙ q ∙ p)

-- a part that is appended exactly, or not at all
pub Appends-exact : {A E : Type 0} (a b x : List ℕ) (r : Result A E) → OnOk r (b ≡ a ++ x) → OnErr r (b ≡ a) → Appends a b x (is_ok r)
Appends-exact a b x (Ok v) ok err = ok
Appends-exact a b x (Err e) ok err = ap (λ t. take (length a) t) err ∙ take-length a

-- where memory ran out before anything was appended
pub Appends-kept : {A E : Type 0} (a z : List ℕ) (r : Result A E) → IsErr r → Appends a a z (is_ok r)
Appends-kept a z (Ok v) h = absurd (cc)
Appends-kept a z (Err e) h = take-length a

-- three parts, one after another
pub Appends-parts : (a b c d o x y : List ℕ) (done : Bool) → Appends a b o true → Appends b c x true → Appends c d y done → Appends a d (o ++ (x ++ y)) done
Appends-parts a b c d o x y done p q r = Appends-then a b d o (x ++ y) done p (Appends-then b c d x y done q r)

-- a content, and its PkgLength that was put in front of it last
pub Appends-held : {A E : Type 0} (a b e f o content : List ℕ) (at : ℕ) (result : Result A E) → at ≡ length b → b ≡ a ++ o → e ≡ b ++ content
    → OnOk result (f ≡ take at e ++ sized (drop at e)) → OnErr result (f ≡ e) → Appends a f (o ++ sized content) (is_ok result)
Appends-held a b e f o content at (Ok v) is p held ok err =
    let front : take at e ≡ b = rw (held, is) (take-append_seam b content) in
    let back : drop at e ≡ content = rw held (drop_at b content at (sym is)) in
    ok ∙ rw (front, back) (ap (λ (l : List ℕ). l ++ sized content) p ∙ append_assoc a o (sized content))
Appends-held a b e f o content at (Err x) is p held ok err =
    let whole : f ≡ a ++ (o ++ content) = err ∙ held ∙ ap (λ (l : List ℕ). l ++ content) p ∙ append_assoc a o content in
    rw whole (take-append_seam a (o ++ content))

pub ruleset appended = (Appends-then, Appends-stop, Appends-exact, Appends-kept)
