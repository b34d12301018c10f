-- Which processor the line of an entry names.
use Rattle.std.proofs.Common.{◌≡◌, ◌≢◌, ◌<◌, ◌+◌, ◌∙◌, ℕ, zero, suc, Bool, true, false, cond, List, [], ◌∷◌, ◌++◌, length, get_or, codes, decimal, refl, ap, sym, subst, arith, append_assoc, zero-add, Some}
use Rattle.std.specs.Prelude.{bytes_eq}
use Rattle.std.proofs.lemmas.Slice.Eq.{bytes_eq-Decides}
use Rattle.pw_text.specs.Behind.{behind}
use Rattle.pw_text.proofs.Spacing.{behind_more}
use Rattle.pw_history.specs.Wording.{Wording}
use Rattle.pw_history.specs.Asked.{Begins}
use Rattle.pw_history.specs.Telling.{PathsTell, TextsTell}
use Rattle.pw_audit.specs.inner.Heading.{AreAllPaths, head_text}
use Rattle.pw_audit.specs.inner.Looking.{IsWord, cpu_by}

-- # Looking up

by_index : (n i : ℕ) (paths : List (List ℕ)) (name d : List ℕ) → i < length paths → get_or paths i d ≡ name → ((j : ℕ) → j < i → get_or paths j d ≢ name) → cpu_by n paths name ≡ Some (n + i)
by_index n i [] name d lt at before = absurd (omega arith)
by_index n zero (path ∷ paths) name d lt at before =
    let same : bytes_eq path name ≡ true = (bytes_eq-Decides path name).1 at in
    let number : n ≡ n + 0 = omega arith in
    rw same (ap (λ (k : ℕ). Some k) number)
by_index n (suc i) (path ∷ paths) name d lt at before =
    let number : suc n + i ≡ n + suc i = omega arith in
    let later : cpu_by (suc n) paths name ≡ Some (suc n + i) = by_index (suc n) i paths name d (omega arith) at (λ j below. before (suc j) (omega arith)) in
    step (bytes_eq path name) refl (later ∙ ap (λ (k : ℕ). Some k) number)
  where
    step : (b : Bool) → bytes_eq path name ≡ b → cpu_by (suc n) paths name ≡ Some (n + suc i) → cond b (Some n) (cpu_by (suc n) paths name) ≡ Some (n + suc i)
    step true e later = absurd (before 0 (omega arith) ((bytes_eq-Decides path name).0 e))
    step false e later = later

-- # Words

-- what the first word of a text is, and what stands behind it
abbrev pub WordOf : List ℕ → List ℕ → List ℕ → Type 0
WordOf bytes word behind = (w rest : List ℕ) → IsWord w → bytes ≡ w ++ 32 ∷ rest → (word ≡ w) × (behind ≡ rest)

record Spaced (text : List ℕ) : Type 0 where
  rest : List ℕ
  is : text ≡ 32 ∷ rest

spaced : (words : List (List ℕ)) → (w : List ℕ) × (ws : List (List ℕ)) × (words ≡ w ∷ ws) → Spaced (behind words)
spaced words (w, ws, is) = record { rest = w ++ behind ws; is = ap behind is ∙ behind_more w ws }

parts : (a b r t x : List ℕ) → (a ++ (32 ∷ (b ++ (r ++ t)))) ++ x ≡ a ++ 32 ∷ (b ++ (r ++ (t ++ x)))
parts a b r t x = simp append_assoc

module _ {Plan Request Reply Entry State : Type 0} {W : Wording Plan Request Reply Entry State} {plan : Plan} (tell : PathsTell W plan) (texts : List (List ℕ)) (all : AreAllPaths W plan texts) where
  pub looked : (p : ℕ) → p < W.cpus plan → cpu_by 0 texts (W.path plan p) ≡ Some p
  looked p lt =
      let size = all.size in
      by_index 0 p texts (W.path plan p) (92 ∷ []) (omega (arith, lt, size)) (all.named p) (λ j below e. other j below (sym (all.named j) ∙ e)) ∙ ap (λ (k : ℕ). Some k) (zero-add p)
    where
      other : (j : ℕ) → j < p → W.path plan j ≡ W.path plan p → ⊥
      other j below e = let same : j ≡ p = tell.apart j p (omega (arith, below, lt)) lt e in absurd (omega (arith, below, same))

  module _ {IsNarrow : Entry → Type 0} {IsNarrowRequest : Request → Type 0} (laws : TextsTell W plan IsNarrow IsNarrowRequest) where
    pub named : (n : ℕ) (q : Request) (left first second path after : List ℕ) → WordOf left first second → WordOf second path after → Begins (head_text W plan n q) left
        → path ≡ W.path plan (W.cpu q)
    named n q left first second path after one two b =
        let p = W.cpu q in
        let e = W.entry q in
        let words = laws.words.words (W.kind.opening plan) n e in
        let word : IsWord (W.path plan p) = subst (λ k. IsWord (W.path plan k)) (sym (laws.entries.asker e) ∙ ap W.cpu (laws.entries.request q)) words.1.0 in
        let asked = behind (W.request_words q) in
        let space = spaced (W.request_words q) (tell.spaced q) in
        let whole : left ≡ decimal n ++ 32 ∷ (W.path plan p ++ (asked ++ (codes " ->" ++ b.rest))) = b.is ∙ parts (decimal n) (W.path plan p) asked (codes " ->") b.rest in
        let back : second ≡ W.path plan p ++ (asked ++ (codes " ->" ++ b.rest)) = (one (decimal n) (W.path plan p ++ (asked ++ (codes " ->" ++ b.rest))) words.0 whole).1 in
        (two (W.path plan p) (space.rest ++ (codes " ->" ++ b.rest)) word (back ∙ ap (λ (l : List ℕ). W.path plan p ++ (l ++ (codes " ->" ++ b.rest))) space.is)).0

    pub found : (n : ℕ) (q : Request) (left first second path after : List ℕ) → WordOf left first second → WordOf second path after → W.cpu q < W.cpus plan → Begins (head_text W plan n q) left
        → cpu_by 0 texts path ≡ Some (W.cpu q)
    found n q left first second path after one two has b = ap (cpu_by 0 texts) (named n q left first second path after one two b) ∙ looked (W.cpu q) has
