-- One line more, and one list more.
use Rattle.std.proofs.Common.{◌≡◌, ◌∙◌, ◌+◌, ◌<◌, ℕ, suc, List, Vec, [], ◌∷◌, ◌++◌, refl, sym, subst, ap, inl, inr, Ok, Some, append_assoc, add-one, arith, length-append}
use Rattle.std.specs.List.{AllByRecursion}
use Rattle.std.specs.declared.alloc.Global.{Global}
use Rattle.std.proofs.lemmas.Bool.{cases_lt}
use Rattle.std.proofs.lemmas.List.{get_or_append_left, get_or_push}
use Rattle.pw_plan.proofs.Lists.{each_append}
use Rattle.pw_cppc.specs.declared.plan.CppcPlan.{CppcPlan}
use Rattle.pw_cppc.specs.declared.request.CppcRequest.{CppcRequest}
use Rattle.pw_cppc.specs.Requests.{Has}
use Rattle.pw_cppc_drive.specs.declared.script.CppcLine.{CppcLine}
use Rattle.pw_cppc_drive.specs.Forms.{request_in}
use Rattle.pw_cppc_drive.specs.Reading.{lines_from}
use Rattle.pw_cppc_drive.specs.inner.Lists.{AreLists}

lines_some : (P : CppcPlan) (n : ℕ) (texts : List (List ℕ)) (text : List ℕ) (rest : List (List ℕ)) (q : CppcRequest)
    → texts ≡ text ∷ rest → request_in P text ≡ Ok (Some q) → lines_from P n texts ≡ record { number = n; request = q } ∷ lines_from P (suc n) rest
lines_some P n texts text rest q e w = rw (e, w) refl

-- a loop over the lines, one line further
pub read_on : (P : CppcPlan) (items new whole : List CppcLine) (number : ℕ) (texts : List (List ℕ)) (text : List ℕ) (rest : List (List ℕ)) (q : CppcRequest)
    → texts ≡ text ∷ rest → request_in P text ≡ Ok (Some q) → new ≡ items ++ record { number = number + 1; request = q } ∷ []
    → items ++ lines_from P (suc number) texts ≡ whole → new ++ lines_from P (suc (number + 1)) rest ≡ whole
read_on P items new whole number texts text rest q e w is so_far =
    let one : number + 1 ≡ suc number = add-one number in
    let next = lines_some P (suc number) texts text rest q e w in
    rw (is, one) (append_assoc items (record { number = suc number; request = q } ∷ []) (lines_from P (suc (suc number)) rest) ∙ ap (λ (ls : List CppcLine). items ++ ls) (sym next) ∙ so_far)

pub all_have : (P : CppcPlan) (items new : List CppcLine) (l : CppcLine) → new ≡ items ++ l ∷ [] → AllByRecursion (λ (k : CppcLine). Has P k.request) items → Has P l.request
    → AllByRecursion (λ (k : CppcLine). Has P k.request) new
all_have P items new l is all has = rw is (each_append (λ (k : CppcLine). Has P k.request) items (l ∷ []) all (has, tt))

-- a list in which nothing is, behind such lists
pub one_empty : (n : ℕ) (xs ys : List (Vec CppcRequest Global)) (v : Vec CppcRequest Global) → ys ≡ xs ++ v ∷ [] → v.items ≡ [] → AreLists [] n xs → AreLists [] (n + 1) ys
one_empty n xs ys v is none are = rw is (record {
  sized = length-append xs (v ∷ []) ∙ ap (λ k. k + 1) are.sized;
  each = λ p d lt. elim (cases_lt p n) [
    | inl less ↦ ap (λ (l : Vec CppcRequest Global). l.items) (get_or_append_left xs (v ∷ []) d p (subst (λ k. p < k) (sym are.sized) less)) ∙ are.each p d less
    | inr ge ↦ let at : n ≡ p = omega (arith, lt, ge) in ap (λ (l : Vec CppcRequest Global). l.items) (get_or_push xs v d p (are.sized ∙ at)) ∙ none
  ];
})
