-- Reading a content step by step.
use Rattle.std.proofs.Common.{◌≡◌, ◌+◌, ◌-◌, ◌<◌, ◌≤◌, ℕ, List, ◌++◌, length, take, drop, Option, Some, None, Result, Ok, Err, refl, sym, ap, subst, ◌∙◌, length-drop, arith}
use Rattle.std.specs.Prelude.{IsSomeAnd, IfOk}
use Rattle.std.proofs.lemmas.List.{take-append-le, length-take-le}
use Rattle.std.proofs.Math.Seq.{take-add, take-append-add, take-append_seam}
use Rattle.pw_base.specs.declared.failure.Failed.{Failed}
use Rattle.pw_base.specs.Outside.{IsRead}
use Rattle.aml_block.specs.inner.Content.{Continues, Begins}

past : (a n : ℕ) (xs ys post : List ℕ) → a ≤ length xs → n ≤ length ys → take (a + n) (take a xs ++ (ys ++ post)) ≡ take a xs ++ take n ys
past a n xs ys post h k =
    subst (λ m. take (m + n) (take a xs ++ (ys ++ post)) ≡ take a xs ++ take n (ys ++ post)) (length-take-le a xs h) (take-append-add (take a xs) (ys ++ post) n)
    ∙ ap (λ l. take a xs ++ l) (take-append-le n ys post k)

continues : (content : List ℕ) (filled n : ℕ) (old part post : List ℕ) → filled ≤ length old → n ≤ length part → 0 < length part
    → IsRead content filled n part → Continues content filled n old (take filled old ++ (part ++ post))
continues content filled n old part post h k some r = record {
  bytes = past filled n old part post h k ∙ ap (λ l. take filled old ++ l) r.bytes;
  within = r.within;
  some = λ z. r.some some z;
}

-- what a read into a part of a buffer tells of the buffer
pub more_told : (r : Result ℕ Failed) (Told : Type 0) (held : Option (List ℕ)) (filled : ℕ) (old mid part post : List ℕ) → filled < length old → length mid ≡ length old - filled
    → length part ≡ length mid → IfOk r (λ n. n ≤ length mid) → IfOk r (λ n. Told → IsSomeAnd held (λ content. IsRead content filled n part))
    → IfOk r (λ n. Told → IsSomeAnd held (λ content. Continues content filled n old (take filled old ++ (part ++ post))))
more_told (Err e) Told held filled old mid part post h m p within told = tt
more_told (Ok n) Told None filled old mid part post h m p within told = told
more_told (Ok n) Told (Some content) filled old mid part post h m p within told =
    λ t. continues content filled n old part post (omega arith) (omega (arith, within)) (omega arith) (told t)

whole : (len : ℕ) (new rest : List ℕ) → length new ≡ len → take len (new ++ rest) ≡ new
whole len new rest e = subst (λ k. take k (new ++ rest) ≡ new) e (take-append_seam new rest)

-- one read more
pub begins_on : (held : Option (List ℕ)) (filled n len : ℕ) (before room new rest : List ℕ) → take filled room ≡ take filled before → length new ≡ len
    → Begins held filled before → IsSomeAnd held (λ content. Continues content filled n room new) → Begins held (filled + n) (take len (new ++ rest))
begins_on None filled n len before room new rest same e b told = absurd told
begins_on (Some content) filled n len before room new rest same e b told =
    let here = b.same content refl in
    let bytes : take (filled + n) (take len (new ++ rest)) ≡ take (filled + n) content =
    ap (take (filled + n)) (whole len new rest e) ∙ told.bytes ∙ ap (λ l. l ++ take n (drop filled content)) (same ∙ here.0) ∙ sym (take-add filled n content) in
    let within : filled + n ≤ length content = omega (arith, here.1, told.within, length-drop filled content) in
    record {
      same = λ other p. (let q : content ≡ other = cc in subst (λ (l : List ℕ). (take (filled + n) (take len (new ++ rest)) ≡ take (filled + n) l) × (filled + n ≤ length l)) q (bytes, within));
      is_held = λ some. refl;
    }
