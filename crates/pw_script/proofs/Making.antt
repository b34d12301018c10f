-- One request, or one line, more.
use Rattle.std.proofs.Common.{◌≡◌, ◌∙◌, ◌+◌, ℕ, suc, List, [], ◌∷◌, ◌++◌, refl, ap, Ok, Some, None, append_assoc, add-one}
use Rattle.pw_plan.specs.declared.plan.Plan.{Plan}
use Rattle.pw_plan.specs.declared.request.Request.{Request}
use Rattle.pw_model.specs.declared.state.State.{State}
use Rattle.pw_model.specs.Answers.{after}
use Rattle.acpi_values.specs.declared.idle.IdleTable.{IdleTable}
use Rattle.pw_model.specs.declared.state.ScaleKind.{ScaleKind}
use Rattle.pw_script.specs.declared.script.Line.{Line as line}
use Rattle.pw_script.specs.declared.wish.Wish.{Wish}
use Rattle.pw_script.specs.Forms.{wish_in}
use Rattle.std.proofs.lemmas.List.{map-append}
use Rattle.pw_notice.specs.Limits.{made_from}
use Rattle.pw_script.specs.Reading.{AreLines, IsAsked, requests_of}

pub made_more : (P : Plan) (S : State) (qs : List Request) (q : Request) → made_from P S (qs ++ q ∷ []) ≡ after P (made_from P S qs) q
made_more P S [] q = refl
made_more P S (r ∷ qs) q = made_more P (after P S r) qs q

-- # The first text asks for something, or for nothing

pub lines_some : (P : Plan) (c : IdleTable → ℕ → ℕ → ℕ → Type 0) (m : ScaleKind → ℕ → ℕ → ℕ → ℕ → Type 0) (before : List Request) (n : ℕ) (texts : List (List ℕ)) (text : List ℕ) (rest : List (List ℕ))
    (wish : Wish) (q : Request) (more : List line)
    → texts ≡ text ∷ rest → wish_in P text ≡ Ok (Some wish) → IsAsked P c m before wish q → AreLines P c m (before ++ q ∷ []) (suc n) rest more
    → AreLines P c m before n texts (record { number = n; request = q } ∷ more)
lines_some P c m before n texts text rest wish q more e w asked h = rw (e, w) (q, asked, more, refl, h)

pub lines_none : (P : Plan) (c : IdleTable → ℕ → ℕ → ℕ → Type 0) (m : ScaleKind → ℕ → ℕ → ℕ → ℕ → Type 0) (before : List Request) (n : ℕ) (texts : List (List ℕ)) (text : List ℕ) (rest : List (List ℕ))
    (more : List line)
    → texts ≡ text ∷ rest → wish_in P text ≡ Ok None → AreLines P c m before (suc n) rest more
    → AreLines P c m before n texts more
lines_none P c m before n texts text rest more e w h = rw (e, w) h

-- # A loop over the lines, one line further

pub reads_on : (P : Plan) (c : IdleTable → ℕ → ℕ → ℕ → Type 0) (m : ScaleKind → ℕ → ℕ → ℕ → ℕ → Type 0) (whole : List line
    → Type 0) (items new : List line) (number : ℕ) (texts : List (List ℕ)) (text : List ℕ) (rest : List (List ℕ)) (wish : Wish) (q : Request)
    → texts ≡ text ∷ rest → wish_in P text ≡ Ok (Some wish) → IsAsked P c m (requests_of items) wish q → new ≡ items ++ record { number = number + 1; request = q } ∷ []
    → ((more : List line) → AreLines P c m (requests_of items) (suc number) texts more → whole (items ++ more))
    → (more : List line) → AreLines P c m (requests_of new) (suc (number + 1)) rest more → whole (new ++ more)
reads_on P c m whole items new number texts text rest wish q e w asked is so_far more h =
    let one : number + 1 ≡ suc number = add-one number in
    let asked_for : requests_of new ≡ requests_of items ++ q ∷ [] = ap requests_of is ∙ map-append _ items _ in
    let there = rw (asked_for, one) at h in
    let back = so_far (record { number = suc number; request = q } ∷ more) (lines_some P c m (requests_of items) (suc number) texts text rest wish q more e w asked there) in
    rw (is, one, append_assoc) back

pub past_on : (P : Plan) (c : IdleTable → ℕ → ℕ → ℕ → Type 0) (m : ScaleKind → ℕ → ℕ → ℕ → ℕ → Type 0) (whole : List line
    → Type 0) (items : List line) (number : ℕ) (texts : List (List ℕ)) (text : List ℕ) (rest : List (List ℕ))
    → texts ≡ text ∷ rest → wish_in P text ≡ Ok None
    → ((more : List line) → AreLines P c m (requests_of items) (suc number) texts more → whole (items ++ more))
    → (more : List line) → AreLines P c m (requests_of items) (suc (number + 1)) rest more → whole (items ++ more)
past_on P c m whole items number texts text rest e w so_far more h =
    let one : number + 1 ≡ suc number = add-one number in
    let there = rw one at h in
    so_far more (lines_none P c m (requests_of items) (suc number) texts text rest more e w there)
